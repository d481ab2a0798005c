-- Rules of the calls that no other law here rests on, each pinned at its edge: what is recent, which tracks suppress a birth, that a pair updates its track, that a detection with room
-- begins one, and that a report tells of its own batch. Assumes nothing.
use Rattle.std.specs.Prelude.{None, Some}
use mathlib.Core.Path.{◌≡◌, refl, sym, ap, ◌∙◌}
use mathlib.Core.List.{List, [], ◌∷◌}
use mathlib.Core.Bool.{true, false, ◌&&◌}
use Prim.Native.Nat.{ℕ, ◌^◌, ◌-◌}
use lib.Dec.{ltb}
use lib.IntN.{ℤ, pos}
use lib.ListN.{length}
use Rattle.number.specs.Reply.{given}
use Rattle.number.specs.Time.{duration_reply}
use Rattle.lifecycle.specs.declared.TrackLifecycleState.TheVariants.{Tentative, Confirmed, Lost}
use Rattle.settings.specs.declared.Cartesian3DTrackerConfig.{Cartesian3DTrackerConfig}
use Rattle.matrix.specs.Matrix.{Vector}
use Rattle.detections.specs.declared.Detection.{Detection}
use Rattle.types.specs.declared.track.Track3D.{Track3D}
use Rattle.types.specs.declared.batch.ObservationBatch3D.{ObservationBatch3D}
use Rattle.types.specs.Track.{with_filter, snapshot_of}
use Rattle.types.specs.States.{State}
use Rattle.calls.specs.Pairing.{recent}
use Rattle.calls.specs.Update.{moving, filter_updated, observation_applied, updated_with, updated_by, Matched}
use Rattle.calls.specs.Births.{Born, Births, spawned, born_filter, spawned_by, born_or_sighted, born_unless_low, born_unless_taken, confirmed_places, low_score, near_confirmed}
use Rattle.calls.specs.Process.{associations_from, done_with}
use Rattle.number.proofs.Replies.{given_same, bound, past_test}

-- ---- recent tracks

module _ (t : Track3D) where
  -- 01, Detection: "The cascade pairs tracks with age at most the window first"
  pub recent_at_the_window : t.lifecycle.last_observation ≡ Some (pos 100) → recent (pos 50) (pos 150) t ≡ given true
  unfolding recent duration_reply
  recent_at_the_window e = rw e

  pub not_recent_above_it : t.lifecycle.last_observation ≡ Some (pos 100) → recent (pos 50) (pos 151) t ≡ given false
  unfolding recent duration_reply
  not_recent_above_it e = rw e

  pub never_seen_is_not_recent : (window now : ℤ) → t.lifecycle.last_observation ≡ None → recent window now t ≡ given false
  unfolding recent
  never_seen_is_not_recent window now e = rw e

  -- ---- only confirmed tracks suppress a birth

  pub confirmed_suppresses : t.lifecycle.state ≡ Confirmed → confirmed_places (t ∷ []) ≡ (snapshot_of t).position ∷ []
  unfolding confirmed_places
  confirmed_suppresses e = rw e

  pub tentative_does_not : t.lifecycle.state ≡ Tentative → confirmed_places (t ∷ []) ≡ []
  unfolding confirmed_places
  tentative_does_not e = rw e

  pub lost_does_not : t.lifecycle.state ≡ Lost → confirmed_places (t ∷ []) ≡ []
  unfolding confirmed_places
  lost_does_not e = rw e

module _ (c : Cartesian3DTrackerConfig) (sensor : ℕ) (now : ℤ) where
  -- ---- a pair updates its track

  -- the filter is the one that the detection updates, and the observation is registered
  pub pair_updates : (t u : Track3D) (d : Detection) → updated_by c sensor now t (Some d) ≡ given u
      → filter_updated (moving c d) d t.filter ≡ given u.filter
      × (u ≡ observation_applied c.lifecycle c.max_contributing_sensors sensor now d.class_label (with_filter u.filter t))
  unfolding updated_by updated_with observation_applied
  pair_updates t u d e =
      let p = bound (filter_updated (moving c d) d t.filter) _ u e in
      let same = given_same _ u p.2 in
      let f : p.0 ≡ u.filter = ap (λ (v : Track3D). v.filter) same in
      (p.1 ∙ ap given f, sym same ∙ rw f)

  -- ---- a detection that no track took, whose score isn't low and which is near no confirmed track, begins a track with the next number

  spawned_begins : (sightings : ℕ) (d : Detection) (s : State) (r : Born) → spawned_by c sensor now sightings d s ≡ given r → r.fate ≡ spawned s.next
  unfolding spawned_by
  spawned_begins sightings d s r e =
      let q = past_test (ltb (length s.tracks) 64 && ltb s.next (2 ^ 64 - 1)) 11 _ r e in
      let p = bound (born_filter c.initial_velocity_variance (moving c d) d) _ r q.1 in
      ap (λ (b : Born). b.fate) (sym (given_same _ r p.2))

  pub free_begins : (places : List Vector) (d : Detection) (s : State) (r : Born) → low_score c d ≡ false → near_confirmed c places d ≡ false
      → born_unless_taken c sensor now places None d s ≡ given r → r.fate ≡ spawned s.next
  unfolding born_unless_taken born_unless_low born_or_sighted
  free_begins places d s r low near e = spawned_begins 1 d s r (rw (low, near) at e)

-- ---- a report tells of its own batch

pub report_of_the_batch : (b : ObservationBatch3D) (m : Matched) (r : Births)
    → (done_with b m r).report ≡ record { time = b.timestamp; sensor = b.sensor_id; associations = associations_from 0 r.fates; unmatched = m.unmatched }
unfolding done_with
report_of_the_batch b m r = refl
