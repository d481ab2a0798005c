use Rattle.std.proofs.Common.{◌≡◌, ◌<◌, take}
use Rattle.wire.specs.Digest.{modulus, digest_of}
use Rattle.wire.proofs.digests.digest_all.Given as goal

abbrev pub invariant-loop-word : goal.invariant-loop-word
invariant-loop-word l = (l.value ≡ digest_of (take l.word-index l.words)) × (l.value < modulus)
