-- The definitions answer the recorded sequences as the Rust did, and leave the same state, by computation.
use mathlib.Core.Path.{◌≡◌, refl}
use Rattle.types.specs.Fresh.{fresh_state}
use Rattle.recorded.specs.Trace.{trace}
use Rattle.recorded.specs.Sequences.{config64, calls64, answers64, state64, config2003, calls2003, answers2003, state2003, config5597, calls5597, answers5597, state5597, config7192, calls7192, answers7192, state7192, config22410, calls22410, answers22410, state22410}
use Rattle.recorded.proofs.Opened.{opened}

pub sequence64 : trace config64 calls64 fresh_state ≡ record { answers = answers64; state = state64 }
unfolding opened
sequence64 = refl

pub sequence2003 : trace config2003 calls2003 fresh_state ≡ record { answers = answers2003; state = state2003 }
unfolding opened
sequence2003 = refl

pub sequence5597 : trace config5597 calls5597 fresh_state ≡ record { answers = answers5597; state = state5597 }
unfolding opened
sequence5597 = refl

pub sequence7192 : trace config7192 calls7192 fresh_state ≡ record { answers = answers7192; state = state7192 }
unfolding opened
sequence7192 = refl

pub sequence22410 : trace config22410 calls22410 fresh_state ≡ record { answers = answers22410; state = state22410 }
unfolding opened
sequence22410 = refl
