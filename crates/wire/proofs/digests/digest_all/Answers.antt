use Rattle.std.proofs.Common.{arith, refl, ap, sym, ◌∙◌, ℕ, get_or}
use Rattle.wire.specs.Digest.{mixed_word, digest_from}
use Rattle.wire.proofs.digests.Words.{digest_more}
use Rattle.wire.proofs.digests.digest_all.Goals as goal

pub loop-word-init : goal.loop-word-init
unfolding digest_from
loop-word-init c = (refl, omega arith)

pub loop-word-preserved : goal.loop-word-preserved
loop-word-preserved c =
    let words = c.args.words.now in
    let i = c.loop-word.word-index in (
      c.mix_word-value.ensures.0 ∙ ap (λ (d : ℕ). mixed_word d (get_or words i 0)) c.loop-word.invariant.0 ∙ sym (digest_more words i c.loop-word-test.true),
      c.mix_word-value.ensures.1,
    )
