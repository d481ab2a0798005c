-- What the loop over all tracks comes to, and what its turns say. Assumes nothing.
use Rattle.std.specs.Prelude.{None, Option, Some}
use mathlib.Core.Path.{◌≡◌, sym, ap, ◌∙◌, subst}
use mathlib.Core.List.{List}
use Prim.Native.Nat.{ℕ, min, ◌+◌, ◌≤◌, ◌<◌}
use native.Mathlib.Omega.{arith}
use borrow.Author.Tests.{lt-ltb, le-ltb}
use lib.ListN.{length, take, get_or, set}
use lib.Seq.{length-take-le, set-get_or}
use Rattle.number.specs.Reply.{Reply, refused, given}
use Rattle.lists.specs.Table.{table}
use Rattle.lists.proofs.Tables.{rows}
use Rattle.detections.specs.declared.Detection.{Detection}
use Rattle.types.specs.declared.track.Track3D.{Track3D}
use Rattle.types.specs.declared.tracker.Cartesian3DTracker.{Cartesian3DTracker}
use Rattle.types.specs.States.{tracks_of, over_tracks, with_tables, sequence_table, candidate_table}
use Rattle.batches.proofs.Checks.{no_detection}
use Rattle.lists.specs.Each.{each_at}
use Rattle.lists.proofs.Stepping.{Stepped, stepped_more, stepped_stops}
use Rattle.lists.proofs.Each.{each_length}
use Rattle.updating.specs.declared.Update.{Update}
use Rattle.updating.specs.Updates.{updated_as, updated_or_not, updated_tracks}
use Rattle.association.specs.Told.{mate_of}

-- ---- the detection of a track

module _ (mates : List ℕ) (ds : List Detection) (i : ℕ) where
  pub has_mate : get_or mates i 0 < 64 → mate_of mates ds i ≡ Some (get_or ds (get_or mates i 0) no_detection)
  has_mate h = rw (lt-ltb (get_or mates i 0) 64 h)

  pub no_mate : 64 ≤ get_or mates i 0 → mate_of mates ds i ≡ None
  no_mate h = rw (le-ltb (get_or mates i 0) 64 h)

-- ---- a turn

abbrev pub steps : Update → (ℕ → Option Detection) → ℕ → Track3D → Reply Track3D
steps u took i t = updated_or_not u t (took i)

module _ (u : Update) (took : ℕ → Option Detection) (l m : List Track3D) (i : ℕ) (a : Track3D) (s : Stepped (steps u took) l m i) where
  pub as_it_was : i < length l → took i ≡ None → Stepped (steps u took) l m (i + 1)
  as_it_was h e = subst (λ q. Stepped (steps u took) l q (i + 1)) (set-get_or m i a) (stepped_more (steps u took) l m i a (get_or m i a) s h (ap (updated_or_not u (get_or m i a)) e))

  pub updated : (d : Detection) (y : Track3D) → i < length l → took i ≡ Some d → updated_as u (get_or m i a) d ≡ given y → Stepped (steps u took) l (set m i y) (i + 1)
  updated d y h e g = stepped_more (steps u took) l m i a y s h (ap (updated_or_not u (get_or m i a)) e ∙ g)

  pub stops : (n : ℕ) (d : Detection) (k : ℕ) → i < n → n ≤ length l → took i ≡ Some d → updated_as u (get_or m i a) d ≡ refused k → each_at (steps u took) 0 (take n l) ≡ refused k
  stops n d k h w e g = stepped_stops (steps u took) l m n i a k s h w (ap (updated_or_not u (get_or m i a)) e ∙ g)

-- ---- the end

module _ (s : Cartesian3DTracker) (took : ℕ → Option Detection) (u : Update) (n : ℕ) (size : length s.tracks ≡ 64) (taken : n ≡ min s.track_count 64) where
  pub all_stop : (k : ℕ) → each_at (steps u took) 0 (take n s.tracks) ≡ refused k → refused k ≡ updated_tracks s took u
  unfolding updated_tracks tracks_of
  all_stop k e = rw (rows s.tracks 64 s.track_count n size taken, e)

  pub all_updated : (m : List Track3D) (i : ℕ) → Stepped (steps u took) s.tracks m i → i ≡ n → given (with_tables (table m n) (sequence_table s) (candidate_table s) s) ≡ updated_tracks s took u
  unfolding updated_tracks tracks_of over_tracks
  all_updated m i p h =
      let g : each_at (steps u took) 0 (take n s.tracks) ≡ given p.done = ap (λ (k : ℕ). each_at (steps u took) 0 (take k s.tracks)) (sym h) ∙ p.gives in
      let long : n ≡ length p.done = omega (arith, each_length (steps u took) 0 (take n s.tracks) p.done g, length-take-le n s.tracks (omega arith)) in
      rw (rows s.tracks 64 s.track_count n size taken, g)
      (λ q. given (with_tables (table (p.slots q) (long q)) (sequence_table s) (candidate_table s) s))
