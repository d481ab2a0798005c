-- The pairing and the updates of a batch, put together. Assumes nothing.
use Rattle.std.specs.Prelude.{Err, Ok, Option}
use mathlib.Core.Path.{◌≡◌, sym, ap, ◌∙◌}
use mathlib.Core.List.{List}
use Prim.Native.Nat.{ℕ, ◌≤◌}
use native.Mathlib.Omega.{arith}
use lib.ListN.{length, take, length-take}
use Rattle.number.specs.Reply.{Reply, refused, given, and_then}
use lib.IntN.{ℤ}
use Rattle.settings.specs.declared.Cartesian3DTrackerConfig.{Cartesian3DTrackerConfig}
use Rattle.detections.specs.declared.Detection.{Detection}
use Rattle.types.specs.declared.batch.ObservationBatch3D.{ObservationBatch3D}
use Rattle.types.specs.declared.refusal.Refusal.{Refusal}
use Rattle.types.specs.declared.track.Track3D.{Track3D}
use Rattle.types.specs.declared.tracker.Cartesian3DTracker.{Cartesian3DTracker}
use Rattle.types.specs.Refusals.{number_of}
use Rattle.types.specs.States.{tracks_of, over_tracks}
use Rattle.types.proofs.Overs.{tracks_over}
use Rattle.batches.specs.Check.{detections_reply}
use Rattle.lists.specs.Each.{each_at}
use Rattle.kuhn_munkres.specs.Takers.{taken_by}
use Rattle.number.proofs.Replies.{bound, given_same}
use Rattle.calls.specs.Pairing.{pair_config}
use Rattle.calls.specs.Update.{Matched, updated_by, updates}
use Rattle.matching.specs.declared.Paired.{Paired}
use Rattle.association.specs.Told.{mate_of, columns_from}
use Rattle.matching.specs.Stage.{takers_for, Matches}
use Rattle.association.proofs.Ties.{each_by_mates, chosen_passed}
use Rattle.matching.proofs.Ties.{takers_for_long, stage_refused, stage_given}
use Rattle.moving.proofs.Tracks.{refused_before}
use Rattle.updating.specs.declared.Update.{Update}
use Rattle.updating.specs.Updates.{update_of, updated_or_not, updated_tracks}
use Rattle.updating.proofs.Checked.{updates_checked}
use Rattle.stages.specs.Stages.{seen_in, takers_in, match_reply, MatchAnswers}

-- Each detection that a track took has passed its check, so that the updates by the mates, which ask for no check, are those of calls.
module _ (c : Cartesian3DTrackerConfig) (sensor : ℕ) (now : ℤ) (ts : List Track3D) (few : length ts ≤ 64) (seen : List Detection) (m : ℕ) (sd : length seen ≡ 64) (r : Paired)
    (a : Matches (pair_config c) ts (take m seen) (takers_for (pair_config c) (c.recent_track_window_ns) now ts (take m seen)) (Ok r)) (passed : detections_reply (take m seen) ≡ given tt) where
  pub updates_by_mates : each_at (λ i x. updated_or_not (update_of c sensor now) x (mate_of r.mates seen i)) 0 ts ≡ updates c sensor now (mate_of r.mates seen) ts
  unfolding updates
  updates_by_mates =
      let t : List (Option ℕ) = a.takers in
      let long = takers_for_long (pair_config c) (c.recent_track_window_ns) now ts (take m seen) t a.outcome in
      each_by_mates t r.mates seen m a.mates sd long (updated_or_not (update_of c sensor now)) ts few
      ∙ (unfold updates in updates_checked c sensor now (taken_by t (take m seen)) (λ i d e. chosen_passed t (take m seen) i d passed e) ts)
      ∙ sym (each_by_mates t r.mates seen m a.mates sd long (updated_by c sensor now) ts few)

module _ (u : Cartesian3DTracker) (b : ObservationBatch3D) (st : length u.tracks ≡ 64) (sd : length b.observations ≡ 64) where
  -- the pairing is refused
  pub pairing_refused : (why : Refusal) → Matches (pair_config u.config) (tracks_of u) (seen_in b) (takers_in u b) (Err why) → MatchAnswers u b (Err why)
  unfolding tracks_of
  pairing_refused why a = stage_refused u.config b.sensor_id b.timestamp u.tracks u.track_count b.observations b.count st sd why a

  module _ (r : Paired) (a : Matches (pair_config u.config) (tracks_of u) (seen_in b) (takers_in u b) (Ok r)) (passed : detections_reply (seen_in b) ≡ given tt) where
    abbrev took : ℕ → Option Detection
    took = mate_of r.mates b.observations

    abbrev how : Update
    how = update_of u.config b.sensor_id b.timestamp

    abbrev updating : Reply (List Track3D)
    updating = updates u.config b.sensor_id b.timestamp took (tracks_of u)

    few : length (tracks_of u) ≤ 64
    unfolding tracks_of
    few = let q = length-take u.track_count u.tracks in omega arith

    all_updated : updated_tracks u took how ≡ and_then updating (λ ts. given (over_tracks u ts))
    unfolding updated_tracks
    all_updated = ap (λ (x : Reply (List Track3D)). and_then x (λ ts. given (over_tracks u ts))) (updates_by_mates u.config b.sensor_id b.timestamp (tracks_of u) few b.observations b.count sd r a passed)

    abbrev with_tracks : List Track3D → Matched
    with_tracks us = record { tracks = us; columns = columns_from b.count r.pairs b.observations; unmatched = take r.unmatched_count r.unmatched }

    as_matched : match_reply u b ≡ and_then updating (λ us. given (with_tracks us))
    unfolding tracks_of
    as_matched = stage_given u.config b.sensor_id b.timestamp u.tracks u.track_count b.observations b.count st sd r a

    -- an update is refused
    pub update_refused : (why : Refusal) → refused (number_of why) ≡ updated_tracks u took how → MatchAnswers u b (Err why)
    update_refused why e =
        as_matched ∙ ap (λ (x : Reply (List Track3D)). and_then x (λ us. given (with_tracks us))) (refused_before updating (over_tracks u) (number_of why) (sym (e ∙ all_updated)))

    pub pairing_updated : (v : Cartesian3DTracker) → given v ≡ updated_tracks u took how → MatchAnswers u b (Ok (record { tracker = v; paired = r }))
    pairing_updated v e =
        let p = bound updating (λ ts. given (over_tracks u ts)) v (sym (e ∙ all_updated)) in
        let w : v ≡ over_tracks u p.0 = sym (given_same _ _ p.2) in
        let l : tracks_of v ≡ p.0 = ap tracks_of w ∙ tracks_over u p.0 in
        record {
          is = as_matched ∙ ap (λ (x : Reply (List Track3D)). and_then x (λ us. given (with_tracks us))) p.1 ∙ ap (λ (us : List Track3D). given (with_tracks us)) (sym l);
          whole = w ∙ ap (over_tracks u) (sym l);
          pairing = a;
        }
