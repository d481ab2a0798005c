-- What a list laid over a table leaves in the tracker, and in a report; the state of a fresh tracker. Assumes nothing.
use mathlib.Core.Path.{◌≡◌, refl, sym, ap, ◌∙◌}
use mathlib.Core.List.{List}
use Prim.Native.Nat.{ℕ, min, ◌≤◌}
use lib.Dec.{ltb}
use lib.ListN.{length, take, length-take}
use Rattle.lists.specs.Lay.{lay}
use Rattle.lists.specs.Table.{Table, table, over_table}
use Rattle.lists.proofs.Laying.{take_lay, lay_lay, lay_own}
use Rattle.lists.proofs.Tables.{count_room}
use Rattle.types.specs.States.{State, state_with, with_tables, state_of, tracks_of, sequences_of, candidates_of, over_tracks, over_sequences, over_candidates, over_state}
use Rattle.types.specs.Batches.{Report, report_of, over_report, whole_report}
use Rattle.types.specs.declared.batch.ObservationAssociation.{ObservationAssociation}
use Rattle.types.specs.declared.batch.BatchReport3D.{BatchReport3D}
use Rattle.types.specs.Fresh.{fresh_state, fresh_of}
use Rattle.settings.specs.declared.Cartesian3DTrackerConfig.{Cartesian3DTrackerConfig}
use Rattle.types.specs.declared.track.Track3D.{Track3D}
use Rattle.types.specs.declared.tracker.BirthCandidate.{BirthCandidate}
use Rattle.types.specs.declared.tracker.SensorSequence.{SensorSequence}
use Rattle.types.specs.declared.tracker.Cartesian3DTracker.{Cartesian3DTracker}

-- ---- the list itself in its table

pub tracks_over : (s : Cartesian3DTracker) (l : List Track3D) → tracks_of (over_tracks s l) ≡ l
unfolding tracks_of over_tracks
tracks_over s l = take_lay l s.tracks

pub sequences_over : (s : Cartesian3DTracker) (l : List SensorSequence) → sequences_of (over_sequences s l) ≡ l
unfolding sequences_of over_sequences
sequences_over s l = take_lay l s.sequences

pub candidates_over : (s : Cartesian3DTracker) (l : List BirthCandidate) → candidates_of (over_candidates s l) ≡ l
unfolding candidates_of over_candidates
candidates_over s l = take_lay l s.candidates

-- ---- and all else as it was

pub state_over_tracks : (s : Cartesian3DTracker) (l : List Track3D) → state_of (over_tracks s l) ≡ state_with l (sequences_of s) (candidates_of s) (state_of s)
unfolding state_of sequences_of candidates_of over_tracks
state_over_tracks s l = rw (tracks_over s l)

pub state_over_sequences : (s : Cartesian3DTracker) (l : List SensorSequence) → state_of (over_sequences s l) ≡ state_with (tracks_of s) l (candidates_of s) (state_of s)
unfolding state_of tracks_of candidates_of over_sequences
state_over_sequences s l = rw (sequences_over s l)

pub state_over_candidates : (s : Cartesian3DTracker) (l : List BirthCandidate) → state_of (over_candidates s l) ≡ state_with (tracks_of s) (sequences_of s) l (state_of s)
unfolding state_of tracks_of sequences_of over_candidates
state_over_candidates s l = rw (candidates_over s l)

-- ---- a whole state, and a whole report

pub state_over : (s : Cartesian3DTracker) (x : State) → state_of (over_state s x) ≡ x
unfolding state_of tracks_of sequences_of candidates_of over_state
state_over s x = rw (take_lay x.tracks s.tracks, take_lay x.sequences s.sequences, take_lay x.candidates s.candidates)

pub settings_over : (s : Cartesian3DTracker) (x : State) → (over_state s x).config ≡ s.config
unfolding over_state
settings_over s x = refl

-- ---- counts that are no more than there are places

count_by : {A : Type 0} (a : List A) (most n k : ℕ) → length a ≡ most → k ≡ min n most → k ≡ length (take n a)
count_by a most n k size e = e ∙ ap (min n) (sym size) ∙ sym (length-take n a)

-- the tracker's own state laid over it, with these candidates
pub counts_settled : (t : Cartesian3DTracker) (n m : ℕ) (candidates : Table BirthCandidate) (l : List BirthCandidate) → length t.tracks ≡ 64 → length t.sequences ≡ 32
    → n ≡ min t.track_count 64 → m ≡ min t.sequence_count 32 → candidates ≡ over_table l t.candidates
    → with_tables (table t.tracks n) (table t.sequences m) candidates t ≡ over_state t (state_with (tracks_of t) (sequences_of t) l (state_of t))
unfolding over_state state_of tracks_of sequences_of
counts_settled t n m candidates l st ss en em ec =
    λ i. record {
      tracks = sym (lay_own t.track_count t.tracks) i;
      track_count = count_by t.tracks 64 t.track_count n st en i;
      next_track_id = t.next_track_id;
      last_time = t.last_time;
      sequences = sym (lay_own t.sequence_count t.sequences) i;
      sequence_count = count_by t.sequences 32 t.sequence_count m ss em i;
      candidates = (ec i).array;
      candidate_count = (ec i).count;
      config = t.config;
    }

-- ---- a table laid over one that a state was laid over: the state with that table, over the arrays from before

module _ (t : Cartesian3DTracker) (s : State) where
  tracks_laid : (l : List Track3D) → lay l (lay s.tracks t.tracks) ≡ lay l t.tracks → over_tracks (over_state t s) l ≡ over_state t (state_with l s.sequences s.candidates s)
  unfolding over_tracks over_state
  tracks_laid l e =
      λ i. record {
        tracks = e i;
        track_count = length l;
        next_track_id = s.next;
        last_time = s.last;
        sequences = lay s.sequences t.sequences;
        sequence_count = length s.sequences;
        candidates = lay s.candidates t.candidates;
        candidate_count = length s.candidates;
        config = t.config;
      }

  -- no fewer tracks than there were
  pub tracks_again : (l : List Track3D) → length s.tracks ≤ length l → over_tracks (over_state t s) l ≡ over_state t (state_with l s.sequences s.candidates s)
  tracks_again l h = tracks_laid l (lay_lay l s.tracks t.tracks h)

  pub sequences_again : (l : List SensorSequence) → length s.sequences ≤ length l → over_sequences (over_state t s) l ≡ over_state t (state_with s.tracks l s.candidates s)
  unfolding over_sequences over_state
  sequences_again l h =
      λ i. record {
        tracks = lay s.tracks t.tracks;
        track_count = length s.tracks;
        next_track_id = s.next;
        last_time = s.last;
        sequences = lay_lay l s.sequences t.sequences h i;
        sequence_count = length l;
        candidates = lay s.candidates t.candidates;
        candidate_count = length s.candidates;
        config = t.config;
      }

-- the tracks laid over the state that the tracker itself holds may be fewer
pub tracks_anew : (t : Cartesian3DTracker) (l : List Track3D) → over_tracks (over_state t (state_of t)) l ≡ over_state t (state_with l (sequences_of t) (candidates_of t) (state_of t))
unfolding state_of tracks_of sequences_of candidates_of
tracks_anew t l = unfold state_of in tracks_laid t (state_of t) l (unfold state_of tracks_of in ap (lay l) (lay_own t.track_count t.tracks))

pub report_over : (r : BatchReport3D) (l : List ObservationAssociation) (ids : List ℕ)
    → report_of (over_report r l ids) ≡ record { time = r.timestamp; sensor = r.sensor_id; associations = l; unmatched = ids }
unfolding report_of over_report
report_over r l ids = rw (take_lay l r.associations, take_lay ids r.unmatched_track_ids)

pub report_back : (r : Report) → report_of (whole_report r) ≡ r
unfolding whole_report
report_back r = report_over _ r.associations r.unmatched

-- ---- whether there is room for one more, by the count

pub tracks_room : (s : Cartesian3DTracker) → length s.tracks ≡ 64 → ltb (length (tracks_of s)) 64 ≡ ltb s.track_count 64
unfolding tracks_of
tracks_room s size = count_room s.tracks 64 s.track_count size

pub candidates_room : (s : Cartesian3DTracker) → length s.candidates ≡ 64 → ltb (length (candidates_of s)) 64 ≡ ltb s.candidate_count 64
unfolding candidates_of
candidates_room s size = count_room s.candidates 64 s.candidate_count size

-- ---- a fresh tracker

pub fresh_state_lem : (c : Cartesian3DTrackerConfig) → state_of (fresh_of c) ≡ fresh_state
unfolding state_of tracks_of sequences_of candidates_of fresh_of
fresh_state_lem c = refl
