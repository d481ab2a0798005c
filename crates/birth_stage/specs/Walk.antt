-- The detections as columns, and what a walk over them answers.
use Rattle.std.specs.Prelude.{ℕ, List, ℤ, replicate}
use Rattle.number.specs.Reply.{Reply, given, and_then}
use Rattle.lists.specs.Lay.{lay}
use Rattle.settings.specs.declared.Cartesian3DTrackerConfig.{Cartesian3DTrackerConfig}
use Rattle.types.specs.declared.batch.ObservationAssociation.{ObservationAssociation}
use Rattle.types.specs.declared.tracker.Cartesian3DTracker.{Cartesian3DTracker}
use Rattle.types.specs.States.{State, over_state}
use Rattle.calls.specs.Update.{Column}
use Rattle.types.specs.Batches.{blank_association}
use Rattle.calls.specs.Births.{Births, remaining, with_candidates, confirmed_places, births_of}
use Rattle.calls.specs.Process.{associations_from}
use Rattle.birth_candidates.specs.declared.Candidates.{Candidates}
use Rattle.birth_stage.specs.declared.Walked.{Walked}

-- the tracker's candidates by themselves
abbrev pub candidates_in : Cartesian3DTracker → Candidates
candidates_in t = record { items = t.candidates; count = t.candidate_count }

abbrev pub blanks : List ObservationAssociation
blanks = replicate 64 blank_association

-- the births of a batch, once the candidates that are too old are gone
unfoldable pub births_after : Cartesian3DTrackerConfig → ℕ → ℤ → List Column → State → Reply Births
births_after c sensor now cols s =
    and_then (remaining c.birth_candidate_timeout_ns now s.candidates) (λ l. births_of c sensor now (confirmed_places s.tracks) cols (with_candidates l s))

-- the whole tracker after the births on t, and the whole array of associations
abbrev pub walked_on : Cartesian3DTracker → Births → Walked
walked_on t w = record { tracker = over_state t w.state; associations = lay (associations_from 0 w.fates) blanks }

abbrev pub after_walk : Cartesian3DTracker → Reply Births → Reply Walked
after_walk t reply = and_then reply (λ w. given (walked_on t w))
