-- What is shown of the tracks, one track after another. Assumes nothing.
use mathlib.Core.Path.{◌≡◌, sym, ap, ◌∙◌}
use mathlib.Core.List.{List, map}
use Prim.Native.Nat.{ℕ, min}
use native.Mathlib.Omega.{arith}
use lib.ListN.{length, take, replicate, length-map}
use lib.Seq.{length-take-le}
use Rattle.lists.specs.Lay.{lay}
use Rattle.lists.proofs.Filling.{Filled}
use Rattle.lists.proofs.Tables.{rows}
use Rattle.types.specs.declared.track.Track3D.{Track3D}
use Rattle.types.specs.declared.track.Track3DSnapshot.{Track3DSnapshot}
use Rattle.types.specs.declared.tracker.Cartesian3DTracker.{Cartesian3DTracker}
use Rattle.types.specs.Track.{snapshot_of}
use Rattle.types.specs.Fresh.{blank_track}
use Rattle.types.specs.States.{state_of, tracks_of}
use Rattle.calls.specs.Snapshots.{snapshots, snapshots_of}

abbrev pub blanks : List Track3DSnapshot
blanks = replicate 64 (snapshot_of blank_track)

-- m shows the first i of l
abbrev pub Shown : List Track3D → List Track3DSnapshot → ℕ → Type 0
Shown l m i = Filled snapshot_of l blanks m i

pub shown_end : (t : Cartesian3DTracker) (n i : ℕ) (m : List Track3DSnapshot) → length t.tracks ≡ 64 → n ≡ min t.track_count 64 → i ≡ n → Shown t.tracks m i
    → record { items = m; count = n } ≡ snapshots_of t
unfolding snapshots_of snapshots state_of tracks_of
shown_end t n i m size taken z s =
    let f : take i t.tracks ≡ take t.track_count t.tracks = ap (λ (k : ℕ). take k t.tracks) z ∙ sym (rows t.tracks 64 t.track_count n size taken) in
    let c : n ≡ length (map snapshot_of (take i t.tracks)) = sym (length-map (take i t.tracks) snapshot_of ∙ length-take-le i t.tracks (omega arith) ∙ z) in
    (λ k. record { items = s.slots k; count = c k }) ∙ ap (λ (l : List Track3D). record { items = lay (map snapshot_of l) blanks; count = length (map snapshot_of l) }) f
