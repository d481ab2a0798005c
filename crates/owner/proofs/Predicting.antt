-- What the prediction of the record answers: refused before it begins, by a track, or carried out. Assumes nothing.
use Rattle.std.specs.Prelude.{Option, Some}
use mathlib.Core.Path.{◌≡◌, refl, sym, ap, ◌∙◌}
use mathlib.Core.Bool.{Bool, true, false}
use mathlib.Core.List.{List}
use Prim.Native.Nat.{ℕ, min, ◌<◌}
use mir.Syntax.{w64}
use mir.Val.{SFits, to_z, of_z}
use mir.Facts.{to_z-of_z}
use native.Mathlib.Omega.{arith}
use lib.IntN.{ℤ}
use lib.Ieee.{Float}
use lib.ListN.{length, take, length-map}
use Rattle.number.specs.Reply.{Reply, refused, given, and_then}
use Rattle.lists.specs.Sift.{sift}
use Rattle.lists.specs.Each.{each}
use Rattle.lists.specs.Table.{table, over_table}
use Rattle.lists.proofs.Laying.{lay_own}
use Rattle.lists.proofs.Tables.{rows, rows_length}
use Rattle.lifecycle.specs.declared.LifecycleConfig.{LifecycleConfig}
use Rattle.settings.specs.declared.Cartesian3DTrackerConfig.{Cartesian3DTrackerConfig}
use Rattle.types.specs.declared.track.Track3D.{Track3D}
use Rattle.types.specs.declared.refusal.Refusal.{Refusal}
use Rattle.types.specs.declared.refusal.Refusal.TheVariants as refusal
use Rattle.types.specs.Refusals.{number_of}
use Rattle.types.specs.States.{State, state_of, sequences_of, candidates_of}
use Rattle.batches.specs.Check.{is_before}
use Rattle.calls.specs.Predict.{at_time, predicted_tracks, predict_reply}
use Rattle.flags.specs.Flags.{flagged}
use Rattle.records.specs.declared.tracks.PkTrack.{PkTrack}
use Rattle.records.specs.declared.tracker.PkTracker.{PkTracker}
use Rattle.records.specs.Tracks.{track_to}
use Rattle.records.specs.Configs.{settings_of}
use Rattle.records.specs.Trackers.{tracker_of, pk_state, pk_over, with_pk_parts}
use Rattle.moving.proofs.Passing.{Passed}
use Rattle.owner.specs.Owner.{after_call}
use Rattle.owner.proofs.Carrying.{Read, read_of, keeps_pk, moves_pk, all_refused, all_carried}

-- the record with other tracks in its places
abbrev pub with_pk_tracks : PkTracker → List PkTrack → PkTracker
with_pk_tracks t m =
    record {
      tracks = m;
      track_count = t.track_count;
      next_track_id = t.next_track_id;
      last_time = t.last_time;
      sequences = t.sequences;
      sequence_count = t.sequence_count;
      candidates = t.candidates;
      candidate_count = t.candidate_count;
      settings = t.settings;
      has_last_time = t.has_last_time;
      reserved = t.reserved;
    }

pub number_above : (why : Refusal) → 0 < number_of why
number_above (refusal.InvalidConfig field) = omega arith
number_above refusal.FrameMismatch = omega arith
number_above refusal.TimestampWentBackwards = omega arith
number_above refusal.DuplicateBatch = omega arith
number_above refusal.NonFiniteValue = omega arith
number_above refusal.NotSymmetric = omega arith
number_above refusal.NotPositiveDefinite = omega arith
number_above refusal.TimestampOverflow = omega arith
number_above refusal.NonFiniteResult = omega arith
number_above refusal.AssignmentFailed = omega arith
number_above refusal.TooMany = omega arith
number_above refusal.InvalidPrior = omega arith

-- a table whose count is cut to its length is what its own list lies over
as_it_was : {A : Type 0} (l : List A) (count : ℕ) {most n : ℕ} → length l ≡ most → n ≡ min count most → table l n ≡ over_table (take count l) l
as_it_was l count {most} {n} size e =
    λ i. table (sym (lay_own count l) i) ((e ∙ sym (ap length (rows l most count n size e) ∙ rows_length l most count n size e ∙ e)) i)

module _ (t : PkTracker) (now : ℤ) where
  abbrev s : State
  s = pk_state t

  abbrev answer : ℤ → Reply PkTracker
  answer time = after_call t (predict_reply (settings_of t.settings) s time)

  -- the settings and the time are read, and the time is not before the last one
  pub record Begun (life : LifecycleConfig) (q : Float) : Type 0 where
    pub read : Read t now life q now
    pub sequences : length t.sequences ≡ 32
    pub candidates : length t.candidates ≡ 64
    pub soon : is_before s.last now ≡ false

  -- the code compares it with the last time that the record means
  module _ {last : Option ℤ} {late : Bool} (told : last ≡ flagged t.has_last_time (to_z w64 (of_z w64 t.last_time))) (fits : SFits w64 t.last_time) (tested : late ≡ is_before last now) where
    late_is : late ≡ is_before s.last now
    unfolding state_of tracker_of
    late_is = rw (told, to_z-of_z fits) at tested

    pub too_early : {time : ℤ} → now ≡ time → late ≡ true → refused 3 ≡ answer time
    unfolding predict_reply
    too_early when e = rw (← when, sym late_is ∙ e)

    pub begun : {config : Cartesian3DTrackerConfig} → config ≡ settings_of t.settings → length t.tracks ≡ 64 → length t.sequences ≡ 32 → length t.candidates ≡ 64 → late ≡ false → Begun config.lifecycle config.accel_spectral_density
    begun is size ss sk e = record { read = read_of is refl size; sequences = ss; candidates = sk; soon = sym late_is ∙ e }

  module _ {life : LifecycleConfig} {q : Float} (k : Begun life q) {time : ℤ} (when : now ≡ time) where
    answers : {r : Reply (List Track3D)} → predicted_tracks (settings_of t.settings) now s.tracks ≡ r → and_then r (λ ts. given (pk_over t (at_time now ts s))) ≡ answer time
    unfolding predict_reply
    answers e = rw (← when, k.soon, e) (go _)
      where
        go : (r : Reply (List Track3D)) → and_then r (λ ts. given (pk_over t (at_time now ts s))) ≡ after_call t (and_then r (λ ts. given (at_time now ts s)))
        go (refused n) = refl
        go (given ts) = refl

    pub track_refused : {all r : ℕ} → all ≡ min t.track_count 64 → each (moves_pk track_to q now) (sift (keeps_pk life now) (take all t.tracks)) ≡ refused r → refused r ≡ answer time
    track_refused taken e = answers (all_refused k.read track_to taken e)

    -- the record that the loop left, at the time
    pub all_at_time : (x : PkTracker) {all i j n d : ℕ} → all ≡ min t.track_count 64 → i ≡ all → x ≡ with_pk_tracks t x.tracks → n ≡ min x.sequence_count 32 → d ≡ min x.candidate_count 64
        → Passed (keeps_pk life now) (moves_pk track_to q now) t.tracks x.tracks i j
        → given (with_pk_parts x.next_track_id (Some now) (table x.tracks j) (table x.sequences n) (table x.candidates d) x) ≡ answer time
    unfolding pk_over state_of sequences_of candidates_of tracker_of
    all_at_time x {n = n} {d = d} taken h e en ed p =
        let z = all_carried k.read track_to taken h p in
        let ns : n ≡ min t.sequence_count 32 = en ∙ ap (λ (y : PkTracker). min y.sequence_count 32) e in
        let ds : d ≡ min t.candidate_count 64 = ed ∙ ap (λ (y : PkTracker). min y.candidate_count 64) e in
        (λ i. given (with_pk_parts
        (e i).next_track_id
        (Some now)
        (table (z.slots i) ((z.count ∙ sym (length-map z.tracks track_to)) i))
        ((ap (λ (y : PkTracker). table y.sequences n) e ∙ as_it_was t.sequences t.sequence_count k.sequences ns) i)
        ((ap (λ (y : PkTracker). table y.candidates d) e ∙ as_it_was t.candidates t.candidate_count k.candidates ds) i)
        (e i)))
        ∙ answers z.gives
