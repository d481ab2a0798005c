-- Two accepted batches from one state that differ only by far detections: what the far ones leave alone. Assumes nothing.
use Rattle.std.specs.Prelude.{Some}
use mathlib.Core.Path.{◌≡◌, refl, sym, ap, ◌∙◌, subst}
use mathlib.Core.List.{List, map, Memᴰ}
use mathlib.Core.Bool.{Bool}
use Prim.Native.Nat.{ℕ, ◌<◌}
use lib.IntN.{ℤ}
use Rattle.number.specs.Reply.{given}
use Rattle.settings.specs.declared.Cartesian3DTrackerConfig.{Cartesian3DTrackerConfig}
use Rattle.lists.specs.Masks.{left_by, Struck}
use Rattle.number.proofs.Replies.{given_same}
use Rattle.lists.proofs.Masks.{map_left}
use Rattle.detections.specs.declared.Detection.{Detection}
use Rattle.types.specs.declared.track.Track3D.{Track3D}
use Rattle.types.specs.declared.tracker.BirthCandidate.{BirthCandidate}
use Rattle.types.specs.declared.batch.ObservationBatch3D.{ObservationBatch3D}
use Rattle.types.specs.States.{State}
use Rattle.calls.specs.Predict.{at_time}
use Rattle.calls.specs.Update.{Column, Matched, matched}
use Rattle.calls.specs.Births.{Births, spawned, remaining, with_candidates, confirmed_places, births_of}
use Rattle.calls.specs.Process.{Done, associations_from, done_with, process_reply}
use Rattle.calls.specs.Numbers.{track_of}
use Rattle.calls.proofs.Spawning.{Later, births_later, births_length, births_told, births_found}
use Rattle.calls.proofs.Numbers.{stages}
use Rattle.guarantee.specs.Claim.{Last, detections_of, FarAt, DifferByFar, update_of, birth_of, Tells, Undisturbed}
use Rattle.guarantee.proofs.Matches.{struck_columns, matched_far}
use Rattle.guarantee.proofs.Lasts.{Begins, births_begin}
use Rattle.guarantee.proofs.Reports.{update_in, birth_in, report_tells, updates_left, births_left, associations_last, birth_in_lem}

module _ (c : Cartesian3DTrackerConfig) (s : State) (sensor : ℕ) (now : ℤ) where
  -- the state that the births start from
  abbrev before : Matched → List BirthCandidate → State
  before m l = with_candidates l (at_time now m.tracks s)

  -- an accepted batch, by its sensor, time and detections
  record Course (ds : List Detection) (x : Done) : Type 0 where
    made : Matched
    left : List BirthCandidate
    born : Births
    matches : matched c sensor now s.tracks ds ≡ given made
    ages : remaining c.birth_candidate_timeout_ns now s.candidates ≡ given left
    bears : births_of c sensor now (confirmed_places made.tracks) made.columns (before made left) ≡ given born
    tracks : x.state.tracks ≡ born.state.tracks
    tells : x.report.associations ≡ associations_from 0 born.fates
    unmatched : x.report.unmatched ≡ made.unmatched

  module _ (ka kb : List Bool) {ds es : List Detection} {x y : Done}
      (far_a : Struck (FarAt c s now) ka ds) (far_b : Struck (FarAt c s now) kb es) (common : left_by ka ds ≡ left_by kb es) (f : Course ds x) (g : Course es y) where
    -- without the far ones both are one batch
    one : struck_columns c sensor now ka f.made ≡ struck_columns c sensor now kb g.made
    one =
        given_same _ _
        (sym (matched_far c sensor now s.tracks ka ds f.made far_a f.matches).0
        ∙ ap (matched c sensor now s.tracks) common
        ∙ (matched_far c sensor now s.tracks kb es g.made far_b g.matches).0)

    same_tracks : f.made.tracks ≡ g.made.tracks
    same_tracks = ap (λ (m : Matched). m.tracks) one

    same_columns : left_by ka f.made.columns ≡ left_by kb g.made.columns
    same_columns = ap (λ (m : Matched). m.columns) one

    same_candidates : f.left ≡ g.left
    same_candidates = given_same _ _ (sym f.ages ∙ g.ages)

    -- one association for each detection
    tells_all : (k : List Bool) (ds : List Detection) (z : Done) (h : Course ds z) → Struck (FarAt c s now) k ds → Tells ds z.report
    tells_all k ds z h far =
        report_tells ds z.report h.born.fates h.tells
        (births_length c sensor now (confirmed_places h.made.tracks) h.made.columns _ h.born h.bears
        ∙ (matched_far c sensor now s.tracks k ds h.made far h.matches).1)

    tells_a : Tells ds x.report
    tells_a = tells_all ka ds x f far_a

    tells_b : Tells es y.report
    tells_b = tells_all kb es y g far_b

    same_unmatched : x.report.unmatched ≡ y.report.unmatched
    same_unmatched = f.unmatched ∙ ap (λ (m : Matched). m.unmatched) one ∙ sym g.unmatched

    -- the tracks that stood before
    later : (ds : List Detection) (z : Done) (h : Course ds z) → Later (before h.made h.left) h.born.state
    later ds z h = births_later c sensor now (confirmed_places h.made.tracks) h.made.columns _ h.born h.bears

    standing : (n : ℕ) → n < s.next → track_of n x.state.tracks ≡ track_of n y.state.tracks
    standing n h = rw (f.tracks, g.tracks, (later ds x f).stays n h, (later es y g).stays n h, same_tracks)

    -- the updates of the common detections
    told : (k : List Bool) (ds : List Detection) (z : Done) (h : Course ds z)
        → map update_of (left_by k z.report.associations) ≡ map update_in (map (λ (q : Column). q.pair) (left_by k h.made.columns))
    told k ds z h =
        ap (λ (l : List _). map update_of (left_by k l)) h.tells
        ∙ updates_left k h.born.fates
        ∙ ap (λ (l : List _). map update_in (left_by k l)) (births_told c sensor now (confirmed_places h.made.tracks) h.made.columns _ h.born h.bears)
        ∙ ap (map update_in) (sym (map_left (λ (q : Column). q.pair) k h.made.columns))

    updates : map update_of (left_by ka x.report.associations) ≡ map update_of (left_by kb y.report.associations)
    updates = told ka ds x f ∙ ap (λ (l : List Column). map update_in (map (λ (q : Column). q.pair) l)) same_columns ∙ sym (told kb es y g)

    -- the births of the common detections, where the others stand last
    module _ (lastA : Last ka) (lastB : Last kb) where
      A : Begins c sensor now (confirmed_places f.made.tracks) ka f.made.columns (before f.made f.left) f.born
      A = births_begin c sensor now (confirmed_places f.made.tracks) ka f.made.columns _ f.born lastA f.bears

      B : Begins c sensor now (confirmed_places g.made.tracks) kb g.made.columns (before g.made g.left) g.born
      B = births_begin c sensor now (confirmed_places g.made.tracks) kb g.made.columns _ g.born lastB g.bears

      same_part : A.part ≡ B.part
      same_part = given_same _ _ (sym A.runs ∙ (rw (same_tracks, same_columns, same_candidates)) ∙ B.runs)

      born_of : (k : List Bool) (ds : List Detection) (z : Done) (h : Course ds z) → map birth_of (left_by k z.report.associations) ≡ map birth_in (left_by k h.born.fates)
      born_of k ds z h = ap (λ (l : List _). map birth_of (left_by k l)) h.tells ∙ births_left k h.born.fates

      same_fates : left_by ka f.born.fates ≡ left_by kb g.born.fates
      same_fates = A.same ∙ ap (λ (p : Births). p.fates) same_part ∙ sym B.same

      begins : map birth_of (left_by ka x.report.associations) ≡ map birth_of (left_by kb y.report.associations)
      begins = born_of ka ds x f ∙ ap (map birth_in) same_fates ∙ sym (born_of kb es y g)

      said : left_by ka x.report.associations ≡ left_by kb y.report.associations
      said =
          ap (left_by ka) f.tells ∙ associations_last ka 0 f.born.fates lastA
          ∙ ap (associations_from 0) same_fates
          ∙ sym (ap (left_by kb) g.tells ∙ associations_last kb 0 g.born.fates lastB)

      begun : (n : ℕ) → Memᴰ (Some n) (map birth_of (left_by ka x.report.associations))
          → (t : Track3D) × (track_of n x.state.tracks ≡ Some t) × (track_of n y.state.tracks ≡ Some t)
      begun n m =
          let r = births_found c sensor now (confirmed_places f.made.tracks) (left_by ka f.made.columns) _ A.part A.runs n
          (subst (Memᴰ (spawned n)) A.same (birth_in_lem n (left_by ka f.born.fates) (subst (Memᴰ (Some n)) (born_of ka ds x f) m))) in (
            r.1.0,
            ap (track_of n) f.tracks ∙ A.later.stays n r.0 ∙ r.1.1,
            ap (track_of n) g.tracks ∙ B.later.stays n (subst (λ (p : Births). n < p.state.next) same_part r.0)
                ∙ ap (λ (p : Births). track_of n p.state.tracks) (sym same_part) ∙ r.1.1,
          )

module _ (c : Cartesian3DTrackerConfig) (s : State) where
  course : (b : ObservationBatch3D) (x : Done) → process_reply c s b ≡ given x → Course c s b.sensor_id b.timestamp (detections_of b) x
  unfolding done_with
  course b x e =
      let f = stages c s b x e in
      subst (Course c s b.sensor_id b.timestamp (detections_of b)) (sym f.whole)
      (record { made = f.made; left = f.left; born = f.born; matches = f.matches; ages = f.ages; bears = f.bears; tracks = refl; tells = refl; unmatched = refl })

  -- the claim for two batches from a state whose tracks' numbers are below its next one
  pub undisturbed : ((t : Track3D) → Memᴰ t s.tracks → t.id < s.next) → (a b : ObservationBatch3D) (x y : Done) (d : DifferByFar c s a b)
      → process_reply c s a ≡ given x → process_reply c s b ≡ given y → Undisturbed c s a b d x y
  undisturbed below a b x y d p q =
      let f = course a x p in
      let g : Course c s a.sensor_id a.timestamp (detections_of b) y = rw (d.sensor, d.time) (course b y q) in
      let far : Struck (FarAt c s a.timestamp) d.in_b (detections_of b) = rw d.time d.far_b in
      record {
        tells_a = tells_a c s a.sensor_id a.timestamp d.in_a d.in_b d.far_a far d.common f g;
        tells_b = tells_b c s a.sensor_id a.timestamp d.in_a d.in_b d.far_a far d.common f g;
        standing = λ t m. standing c s a.sensor_id a.timestamp d.in_a d.in_b d.far_a far d.common f g t.id (below t m);
        updates = updates c s a.sensor_id a.timestamp d.in_a d.in_b d.far_a far d.common f g;
        unmatched = same_unmatched c s a.sensor_id a.timestamp d.in_a d.in_b d.far_a far d.common f g;
        begins = begins c s a.sensor_id a.timestamp d.in_a d.in_b d.far_a far d.common f g;
        begun = begun c s a.sensor_id a.timestamp d.in_a d.in_b d.far_a far d.common f g;
        said = said c s a.sensor_id a.timestamp d.in_a d.in_b d.far_a far d.common f g;
      }
