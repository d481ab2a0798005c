-- A batch on the record by its parts: what a refusal of each says of the whole, what each leaves to the next, and the answer where none refuses. Assumes nothing.
use Rattle.std.specs.Prelude.{Err, Ok, Option, Result, Some}
use mathlib.Core.Path.{◌≡◌, refl, sym, ap, ◌∙◌}
use mathlib.Core.Bool.{false}
use mathlib.Core.List.{List, map}
use Prim.Native.Nat.{ℕ, min, ◌≤◌}
use native.Mathlib.Omega.{arith}
use borrow.Author.Tests.{leb-true}
use mir.Syntax.{w64}
use mir.Val.{SFits, to_z, of_z}
use mir.Facts.{to_z-of_z}
use lib.IntN.{ℤ}
use lib.ListN.{length, take, replicate, length-map, length-take}
use lib.Seq.{length-take-le}
use Rattle.number.specs.Reply.{Reply, refused, given, and_then}
use Rattle.lists.specs.Lay.{lay}
use Rattle.lists.specs.Table.{table, over_table}
use Rattle.lists.specs.Sift.{sift}
use Rattle.lists.specs.Each.{each, each_at}
use Rattle.lists.proofs.Each.{each_length}
use Rattle.lists.proofs.Laying.{take_lay, lay_lay}
use Rattle.lists.proofs.Masks.{map_map}
use Rattle.kuhn_munkres.specs.Takers.{taken_by}
use Rattle.settings.specs.declared.Cartesian3DTrackerConfig.{Cartesian3DTrackerConfig}
use Rattle.detections.specs.declared.Detection.{Detection}
use Rattle.types.specs.declared.batch.ObservationBatch3D.{ObservationBatch3D}
use Rattle.types.specs.declared.batch.BatchReport3D.{BatchReport3D}
use Rattle.types.specs.declared.batch.ObservationAssociation.{ObservationAssociation}
use Rattle.types.specs.declared.refusal.Refusal.{Refusal}
use Rattle.types.specs.declared.track.Track3D.{Track3D}
use Rattle.types.specs.declared.tracker.BirthCandidate.{BirthCandidate}
use Rattle.types.specs.declared.tracker.SensorSequence.{SensorSequence}
use Rattle.types.specs.Refusals.{number_of}
use Rattle.types.specs.Track.{with_mark}
use Rattle.types.specs.Batches.{batch_of, whole_report, over_report}
use Rattle.types.specs.States.{State, state_of, sequences_of, candidates_of}
use Rattle.tables.specs.declared.sequences.Sequences.{Sequences}
use Rattle.tables.specs.Sequences.{noted, noted_in}
use Rattle.tables.specs.Sequences as Sequences'
use Rattle.batches.specs.Check.{batch_reply}
use Rattle.calls.specs.Predict.{at_time, predicted_tracks}
use Rattle.calls.specs.Pairing.{pair_config}
use Rattle.calls.specs.Update.{Column, Matched, matched_with, matched}
use Rattle.calls.specs.Births.{Births, remaining, with_candidates, confirmed_places, births_of}
use Rattle.calls.specs.Process.{Done, done_with, finished, process_reply}
use Rattle.calls.proofs.Accepted.{passed, noted_room}
use Rattle.calls.proofs.Spawning.{births_length}
use Rattle.moving.proofs.Passing.{Passed}
use Rattle.pairing.specs.declared.Row.{Row}
use Rattle.association.specs.Told.{mate_of, columns_from}
use Rattle.association.proofs.Telling.{unmatched_few}
use Rattle.association.proofs.Ties.{listed_told}
use Rattle.matching.specs.declared.Paired.{Paired}
use Rattle.matching.specs.Stage.{takers_for, rows_taken, Matches, RowsMatch}
use Rattle.matching.proofs.Ties.{rows_matched, stage_refused, stage_given}
use Rattle.updating.specs.declared.Update.{Update}
use Rattle.updating.specs.Updates.{update_of, updated_or_not}
use Rattle.birth_candidates.specs.declared.Candidates.{Candidates}
use Rattle.birth_candidates.specs.Candidates.{list_of, after_aging}
use Rattle.birth_candidates.specs.Candidates as Candidates'
use Rattle.birth_candidates.proofs.Listing.{aged_is, aged_not}
use Rattle.spawning.specs.declared.ruling.Places.{Places}
use Rattle.spawning.specs.Ruling.{places_of}
use Rattle.birth_stage.proofs.Walking.{told_length, columns_length}
use Rattle.birth_stage.proofs.Growing.{Grows, births_grow}
use Rattle.stages.proofs.Taking.{updates_by_mates}
use Rattle.flags.specs.Flags.{flagged}
use Rattle.records.specs.declared.tracks.PkTrack.{PkTrack}
use Rattle.records.specs.declared.tracker.PkTracker.{PkTracker}
use Rattle.records.specs.Tracks.{track_of, track_to}
use Rattle.records.specs.Configs.{settings_of}
use Rattle.records.specs.Trackers.{tracker_of, pk_state, pk_over, with_pk_parts}
use Rattle.owner.specs.declared.batch.Ran.{Ran}
use Rattle.owner.specs.Processes.{after_batch}
use Rattle.owner.proofs.Predicting.{with_pk_tracks}
use Rattle.owner.proofs.Carrying.{read_of, keeps_pk, moves_pk, all_refused, all_carried}
use Rattle.owner.proofs.Reached.{unmarked, meant, meant_is, start_at, Checked, Moved, Mated, Corrected, Aged}
use Rattle.owner.proofs.Noting.{Noted, noted_front}
use Rattle.owner.proofs.Correcting.{steps_pk, updates_refused}
use Rattle.owner.proofs.Bearing.{Bearing, bearing_end}

module _ (t : PkTracker) (b : ObservationBatch3D) where
  abbrev c : Cartesian3DTrackerConfig
  c = settings_of t.settings

  abbrev s : State
  s = pk_state t

  abbrev ds : List Detection
  ds = take b.count b.observations

  abbrev reply : Reply Done
  reply = process_reply c s b

  abbrev answer : Reply Ran
  answer = after_batch t reply

  refuses : {r : ℕ} → reply ≡ refused r → refused r ≡ answer
  refuses e = sym (ap (after_batch t) e)

  -- ---- the check, which the code makes of what the record means

  module _ {config : Cartesian3DTrackerConfig} {last : Option ℤ} (is : config ≡ c) (told : last ≡ flagged t.has_last_time (to_z w64 (of_z w64 t.last_time))) (fits : SFits w64 t.last_time) where
    abbrev asked : Reply (Unit {0})
    asked = batch_reply config.frame_id last (take t.sequence_count t.sequences) b

    check_is : asked ≡ batch_reply c.frame_id s.last s.sequences b
    unfolding state_of tracker_of sequences_of
    check_is = rw (is, told, to_z-of_z fits)

    pub check_refused : {r : ℕ} → refused r ≡ asked → refused r ≡ answer
    unfolding process_reply
    check_refused e = refuses (rw (sym (e ∙ check_is)))

    pub checked : length t.tracks ≡ 64 → length b.observations ≡ 64 → SFits w64 b.timestamp → given tt ≡ asked → Checked t b config (to_z w64 (of_z w64 b.timestamp))
    checked st sd z e = record { is = is; read = read_of is (to_z-of_z z) st; seen = sd; ok = sym (e ∙ check_is) }

  -- ---- the tracks at the batch's time

  -- what is left after the updates, and stages 4 to 9
  abbrev finishing : Reply Matched → Reply Done
  finishing r = and_then r (finished c s b)

  abbrev rest : List Track3D → Reply Done
  rest ts = finishing (matched_with c b.sensor_id b.timestamp ds ts)

  abbrev pairing : Reply (List Track3D) → Reply Done
  pairing r = and_then r (λ ms. rest (map (with_mark false) ms))

  module _ {config : Cartesian3DTrackerConfig} {now : ℤ} (k : Checked t b config now) where
    by_moved : reply ≡ pairing (predicted_tracks c b.timestamp s.tracks)
    unfolding process_reply matched batch_of
    by_moved = rw k.ok (go (predicted_tracks c b.timestamp s.tracks))
      where
        go : (r : Reply (List Track3D)) → and_then (and_then r (λ ms. matched_with c b.sensor_id b.timestamp ds (map (with_mark false) ms))) (finished c s b) ≡ pairing r
        go (refused n) = refl
        go (given ms) = refl

    pub move_refused : {all r : ℕ} → all ≡ min t.track_count 64
        → each (moves_pk unmarked config.accel_spectral_density now) (sift (keeps_pk config.lifecycle now) (take all t.tracks)) ≡ refused r → refused r ≡ answer
    move_refused taken e = refuses (by_moved ∙ ap pairing (all_refused k.read unmarked taken e))

    pub moved_all : {all : ℕ} {y : PkTracker} {i n : ℕ} → all ≡ min t.track_count 64 → i ≡ all → y ≡ with_pk_tracks t y.tracks → length y.tracks ≡ 64 → n ≤ 64
        → Passed (keeps_pk config.lifecycle now) (moves_pk unmarked config.accel_spectral_density now) t.tracks y.tracks i n → Moved t b config now y n
    moved_all {y = y} {n = n} taken h fields places few p =
        let z = all_carried k.read unmarked taken h p in
        let ms : List Track3D = map (with_mark false) z.tracks in
        let slots : y.tracks ≡ lay (map track_to ms) t.tracks = z.slots ∙ ap (λ (r : List PkTrack). lay r t.tracks) (sym (map_map (with_mark false) track_to unmarked (λ x. refl) z.tracks)) in
        let long : n ≡ length (map track_to ms) = z.count ∙ sym (length-map ms track_to ∙ length-map z.tracks (with_mark false)) in
        record { checked = k; fields = fields; places = places; few = few; before = z.tracks; gives = z.gives; slots = slots; stored = (λ i. take (long i) (slots i)) ∙ take_lay (map track_to ms) t.tracks }

    pub count_few : b.count ≤ 64
    count_few = leb-true b.count 64 (passed c.frame_id s.last s.sequences b k.ok).few

  -- ---- the pairing

  module _ {config : Cartesian3DTrackerConfig} {now : ℤ} {y : PkTracker} {n : ℕ} (m : Moved t b config now y n) where
    by_rest : reply ≡ rest (meant y n)
    by_rest = by_moved m.checked ∙ ap pairing m.gives ∙ ap rest (sym (meant_is y n m.stored))

    size : length (map track_of y.tracks) ≡ 64
    size = length-map y.tracks track_of ∙ m.places

    -- what the pairing told of the rows, it told of the tracks
    module _ {rows : List Row} (noted : Noted y.tracks rows n) where
      abbrev Paired_so : Result Paired Refusal → Type 0
      Paired_so = RowsMatch (pair_config config) (take n rows) ds (rows_taken (pair_config config) config.recent_track_window_ns now (take n rows) ds)

      told_by : (r : Result Paired Refusal) → Paired_so r → Matches (pair_config c) (meant y n) ds (takers_for (pair_config c) c.recent_track_window_ns b.timestamp (meant y n) ds) r
      told_by r a =
          rows_matched (pair_config c) c.recent_track_window_ns b.timestamp (meant y n) ds (take n rows) r (noted_front y.tracks noted (omega (arith, m.few, m.places))) (rw (m.checked.is, m.checked.read.when) at a)

      pub pair_refused : (why : Refusal) → Paired_so (Err why) → refused (number_of why) ≡ answer
      pair_refused why a =
          refuses (by_rest ∙ ap finishing (stage_refused c b.sensor_id b.timestamp (map track_of y.tracks) n b.observations b.count size m.checked.seen why (told_by (Err why) a)))

      pub paired_by : {p : Paired} → Paired_so (Ok p) → Mated t b config now y n p
      paired_by {p} a = record { moved = m; told = told_by (Ok p) a }

  -- ---- the updates

  abbrev columns : Paired → List Column
  columns p = columns_from b.count p.pairs b.observations

  abbrev told : Paired → List Track3D → Matched
  told p us = record { tracks = us; columns = columns p; unmatched = take p.unmatched_count p.unmatched }

  abbrev telling : Paired → Reply (List Track3D) → Reply Matched
  telling p r = and_then r (λ us. given (told p us))

  module _ {config : Cartesian3DTrackerConfig} {now : ℤ} {y : PkTracker} {n : ℕ} {p : Paired} (m : Mated t b config now y n p) where
    abbrev took : ℕ → Option Detection
    took = mate_of p.mates b.observations

    abbrev updated : Reply (List Track3D)
    updated = each_at (λ i x. updated_or_not (update_of c b.sensor_id b.timestamp) x (took i)) 0 (meant y n)

    few : length (meant y n) ≤ 64
    few = let q = length-take n (map track_of y.tracks) in omega (arith, size m.moved)

    by_updated : reply ≡ finishing (telling p updated)
    by_updated =
        by_rest m.moved
        ∙ ap finishing (stage_given c b.sensor_id b.timestamp (map track_of y.tracks) n b.observations b.count (size m.moved) m.moved.checked.seen p m.told)
        ∙ ap (λ (r : Reply (List Track3D)). finishing (telling p r))
        (sym (updates_by_mates c b.sensor_id b.timestamp (meant y n) few b.observations b.count m.moved.checked.seen p m.told (passed c.frame_id s.last s.sequences b m.moved.checked.ok).detections))

    pub update_refused : {u : Update} {r : ℕ} → u ≡ update_of config b.sensor_id now → each_at (steps_pk u took) 0 (take n y.tracks) ≡ refused r → refused r ≡ answer
    update_refused how e = refuses (by_updated ∙ ap (λ (r : Reply (List Track3D)). finishing (telling p r)) (updates_refused m how e))

  -- ---- the candidates' ages

  abbrev joining : Paired → List Track3D → Reply (List BirthCandidate) → Reply Done
  joining p us r = and_then r (λ l. and_then (births_of c b.sensor_id b.timestamp (confirmed_places us) (columns p) (with_candidates l (at_time b.timestamp us s))) (λ w. given (done_with b (told p us) w)))

  abbrev ages : Reply (List BirthCandidate)
  ages = remaining c.birth_candidate_timeout_ns b.timestamp s.candidates

  module _ {config : Cartesian3DTrackerConfig} {now : ℤ} {n : ℕ} {p : Paired} {x : PkTracker} {places : Places} (u : Corrected t b config now n p x places) where
    by_ages : reply ≡ joining p u.tracks ages
    unfolding finished
    by_ages = by_updated u.mated ∙ ap (λ (r : Reply (List Track3D)). finishing (telling p r)) u.gives

    -- the record has the candidates that it had
    abbrev held : Candidates
    held = record { items = x.candidates; count = x.candidate_count }

    abbrev ages_now : Reply (List BirthCandidate)
    ages_now = remaining config.birth_candidate_timeout_ns now (list_of held)

    ages_are : ages_now ≡ ages
    unfolding list_of state_of tracker_of candidates_of
    ages_are = let k = u.mated.moved.checked in λ i. remaining (k.is i).birth_candidate_timeout_ns (k.read.when i) (take (u.fields i).candidate_count (u.fields i).candidates)

    pub age_refused : {r : ℕ} → refused r ≡ after_aging held ages_now → refused r ≡ answer
    age_refused {r} e = refuses (by_ages ∙ ap (joining p u.tracks) (sym ages_are ∙ aged_not held r ages_now e))

    pub aged_by : {kept : Candidates} → given kept ≡ after_aging held ages_now → Aged t b config now n p x places kept
    aged_by {kept} e = record { corrected = u; stay = sym ages_are ∙ aged_is held kept ages_now e }

  -- ---- the births

  module _ {config : Cartesian3DTrackerConfig} {now : ℤ} {n : ℕ} {p : Paired} {x : PkTracker} {places : Places} {kept : Candidates} (a : Aged t b config now n p x places kept) where
    abbrev start : State
    start = start_at x n x.next_track_id now (list_of kept)

    start_is : start ≡ with_candidates (list_of kept) (at_time b.timestamp a.corrected.tracks s)
    unfolding state_of tracker_of sequences_of
    start_is =
        let u = a.corrected in
        λ i. record {
          tracks = meant_is x n u.stored i;
          next = (u.fields i).next_track_id;
          last = Some (u.mated.moved.checked.read.when i);
          sequences = take (u.fields i).sequence_count (u.fields i).sequences;
          candidates = list_of kept;
        }

    abbrev ended : Births → Reply Done
    ended w = given (done_with b (told p a.corrected.tracks) w)

    by_births : reply ≡ and_then (births_of config b.sensor_id now (places_of places) (columns p) start) ended
    by_births =
        let k = a.corrected.mated.moved.checked in
        by_ages a.corrected
        ∙ ap (joining p a.corrected.tracks) a.stay
        ∙ (λ i. and_then (births_of (sym k.is i) b.sensor_id (sym k.read.when i) (sym a.corrected.spots i) (columns p) (sym start_is i)) ended)

    pub births_refused : {r : ℕ} → births_of config b.sensor_id now (places_of places) (columns p) start ≡ refused r → refused r ≡ answer
    births_refused e = refuses (by_births ∙ ap (λ (r : Reply Births). and_then r ended) e)

    -- ---- the end, where the loop over the detections left the record z

    module _ {z : PkTracker} {n' id : ℕ} {kept' : Candidates} {associations : List ObservationAssociation} {j : ℕ}
        (w : Bearing config b.sensor_id now (places_of places) (columns p) start x.tracks z.tracks n' id kept' associations j) (over : b.count ≤ j) (fields : z ≡ with_pk_tracks x z.tracks)
        (sp : length p.pairs ≡ 64) (su : length p.unmatched ≡ 64) where
      abbrev u : Corrected t b config now n p x places
      u = a.corrected

      abbrev m : Mated t b config now u.from n p
      m = u.mated

      abbrev k : Checked t b config now
      k = m.moved.checked

      abbrev e : Births
      e = w.so_far

      bears : births_of config b.sensor_id now (places_of places) (columns p) start ≡ given e
      bears = bearing_end p.pairs b.observations w (count_few k) sp k.seen over

      grown : Grows start e.state
      grown = births_grow config b.sensor_id now (places_of places) (columns p) start e bears

      abbrev report : ℤ → List ObservationAssociation → ℕ → List ℕ → ℕ → BatchReport3D
      report time told count numbers many =
          record {
            timestamp = time;
            sensor_id = b.sensor_id;
            associations = told;
            association_count = count;
            unmatched_track_ids = numbers;
            unmatched_track_count = many;
          }

      -- each store lies over the one before it
      laid : z.tracks ≡ lay (map track_to e.state.tracks) t.tracks
      laid =
          let ts = e.state.tracks in
          let ms = map (with_mark false) m.moved.before in
          let g : length (meant x n) ≤ length ts = grown.tracks in
          let us : length u.tracks ≡ length (meant x n) = ap length (sym (meant_is x n u.stored)) in
          let vs : length u.tracks ≡ length ms = each_length _ 0 (meant u.from n) u.tracks u.gives ∙ ap length (meant_is u.from n m.moved.stored) in
          let longer : (r : List Track3D) → length r ≤ length ts → length (map track_to r) ≤ length (map track_to ts) = λ r h. omega (arith, length-map r track_to, length-map ts track_to) in
          w.tracks
          ∙ ap (lay (map track_to ts)) u.slots ∙ lay_lay (map track_to ts) (map track_to u.tracks) u.from.tracks (longer u.tracks (omega (arith, us, g)))
          ∙ ap (lay (map track_to ts)) m.moved.slots ∙ lay_lay (map track_to ts) (map track_to ms) t.tracks (longer ms (omega (arith, us, vs, g)))

      -- the sequence is noted, and the candidates that are left are laid over those that it had
      pub batch_done : {sequences : Sequences} {left : Candidates} → sequences ≡ Sequences'.over (record { entries = t.sequences; count = z.sequence_count }) (noted_in 32 b.sensor_id b.sequence (take z.sequence_count t.sequences))
          → left ≡ Candidates'.over (record { items = x.candidates; count = x.candidate_count }) (list_of kept')
          → given (record {
            tracker = with_pk_parts id (Some now) (table z.tracks n') (table sequences.entries sequences.count) (table left.items left.count) z;
            report = report now associations b.count p.unmatched p.unmatched_count;
          })
          ≡ answer
      unfolding pk_over done_with state_of sequences_of tracker_of whole_report over_report
      batch_done {sequences} {left} sequences_are left_are =
          let whole : z ≡ with_pk_tracks t z.tracks = fields ∙ ap (λ (y : PkTracker). with_pk_tracks y z.tracks) u.fields in
          let rest : noted_in 32 b.sensor_id b.sequence (take z.sequence_count t.sequences) ≡ noted b.sensor_id b.sequence e.state.sequences =
          ap (λ (y : PkTracker). noted_in 32 b.sensor_id b.sequence (take y.sequence_count t.sequences)) whole
          ∙ noted_room b.sensor_id b.sequence s.sequences (passed c.frame_id s.last s.sequences b k.ok).room
          ∙ ap (noted b.sensor_id b.sequence) (ap (λ (q : State). q.sequences) (sym start_is) ∙ sym grown.sequences) in
          let long : length e.fates ≡ b.count = births_length config b.sensor_id now (places_of places) (columns p) start e bears ∙ columns_length p.pairs b.observations b.count b.count sp k.seen (omega (arith, count_few k)) in
          let most : p.unmatched_count ≤ 64 = omega (arith, m.told.unmatched.many, unmatched_few (taken_by m.told.takers ds) 0 (meant u.from n), few m) in
          let places_now : table z.tracks n' ≡ over_table (map track_to e.state.tracks) t.tracks = λ i. table (laid i) ((w.count ∙ sym (length-map e.state.tracks track_to)) i) in
          let sequences_now = ap (λ (q : Sequences). table q.entries q.count) sequences_are ∙ ap (λ (l : List SensorSequence). over_table l t.sequences) rest in
          let left_now = ap (λ (q : Candidates). table q.items q.count) left_are ∙ (λ i. over_table (sym w.candidates i) (u.fields i).candidates) in
          let numbers = m.told.unmatched.slots ∙ ap (λ (q : List ℕ). lay q (replicate 64 0)) (sym (listed_told _ p.unmatched p.unmatched_count m.told.unmatched)) in
          (λ i. given (record {
            tracker = with_pk_parts (w.next i) (sym grown.last i) (places_now i) (sequences_now i) (left_now i) (whole i);
            report = report (k.read.when i) (w.slots i) (sym (told_length 0 e.fates ∙ long) i) (numbers i) (sym (length-take-le p.unmatched_count p.unmatched (omega (arith, most, su))) i);
          }))
          ∙ sym (ap (after_batch t) (by_births ∙ ap (λ (q : Reply Births). and_then q ended) bears))
