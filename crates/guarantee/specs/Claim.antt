-- Demand 3, the shopkeeper's guarantee, and 01's "What demand 3 speaks of": each sentence stands beside the line that says it.
--
-- The guarantee is `Demand3Whole`, the last line of this page. It speaks of whole structs: `new`, the calls of the list and the two batches after it are related by their contracts
-- themselves (`NewAnswers`, `Steps` and `BatchAnswers` of calls, which the code is proved to keep), so that nothing of the code stands between it and what a head does. Its core
-- on lists is `Demand3`: there a tracker is its state, and a call is the definition that its contract names.
--
-- 01: "This is one claim, about the list and the two whole batch calls after it, and not one for each call or stage."
use Rattle.types.specs.declared.refusal.Refusal.{Refusal}
use Rattle.std.specs.Prelude.{ℕ, Bool, true, false, ◌≡◌, ℤ, Float, length, None, Ok, Option, Result, Some}
use mathlib.Core.List.{List, [], ◌∷◌, map, Memᴰ}
use Rattle.number.specs.Reply.{given}
use Rattle.settings.specs.Frame.{name_of}
use Rattle.settings.specs.declared.Cartesian3DTrackerConfig.{Cartesian3DTrackerConfig}
use Rattle.lists.specs.Masks.{left_by, Struck, Every, up_from}
use Rattle.detections.specs.declared.Detection.{Detection}
use Rattle.detections.specs.Far.{Far}
use Rattle.types.specs.declared.track.Track3D.{Track3D}
use Rattle.types.specs.declared.batch.ObservationBatch3D.{ObservationBatch3D}
use Rattle.types.specs.declared.batch.ObservationAssociation.{ObservationAssociation}
use Rattle.types.specs.declared.batch.ObservationOutcome.{ObservationOutcome}
use Rattle.types.specs.declared.batch.ObservationOutcome.TheVariants.{Updated, Spawned, Unmatched}
use Rattle.types.specs.declared.batch.BatchReport3D.{BatchReport3D}
use Rattle.types.specs.declared.tracker.Cartesian3DTracker.{Cartesian3DTracker}
use Rattle.types.specs.Batches.{batch_of, Report}
use Rattle.types.specs.States.{State, state_of}
use Rattle.types.specs.Fresh.{fresh_state}
use Rattle.calls.specs.Predict.{predicted_tracks}
use Rattle.calls.specs.Pairing.{pair_config, target_for}
use Rattle.calls.specs.Process.{Done, process_reply}
use Rattle.calls.specs.Run.{Call, run}
use Rattle.calls.specs.Numbers.{track_of, Numbered}
use Rattle.calls.specs.Answers.{done_of, NewAnswers, BatchAnswers, Steps}

-- ---- two batches that differ only by far detections

-- A mask has a Bool for each detection: true for a common one, false for one that is struck. `leftBy` leaves the common ones in their order.

-- "If the detections not common stand last in each": no common one stands after a struck one
unfoldable pub Last : List Bool → Type 0
Last [] = Unit {0}
Last (true ∷ k) = Last k
Last (false ∷ k) = Every (λ b. b ≡ false) k

abbrev pub detections_of : ObservationBatch3D → List Detection
detections_of b = (batch_of b).detections

module _ (c : Cartesian3DTrackerConfig) where
  -- A far detection, a term of 01's own: "Far is judged by the rule for a pair above, against each track that the lifecycle keeps at the batch's time, moved to it, before
  -- any update; with no such track every detection is far." The tracks ts are those; where there are none because the move is refused, so is the batch.
  abbrev pub FarAt : State → ℤ → Detection → Type 0
  FarAt s now d = (ts : List Track3D) → predicted_tracks c now s.tracks ≡ given ts → Far (pair_config c) (map target_for ts) d

  -- "Two batches differ only by far detections when all else in them is equal and striking some far ones from each, or none, leaves the same detections, bit for
  -- bit and in the same order." The sequence and the frame are here for these words: the proof has no need of them. What stands behind a batch's count is no part of it.
  pub record DifferByFar (s : State) (a b : ObservationBatch3D) : Type 0 where
    pub sensor : a.sensor_id ≡ b.sensor_id
    pub sequence : a.sequence ≡ b.sequence
    pub time : a.timestamp ≡ b.timestamp
    -- a frame is its bytes up to its length
    pub frame : name_of a.frame_id ≡ name_of b.frame_id
    -- The common detections, a term of 01's own: "Those left are the common ones; a far one may be among them."
    pub in_a : List Bool
    pub in_b : List Bool
    -- each mask is as long as its batch, and each one that it strikes is far
    pub far_a : Struck (FarAt s a.timestamp) in_a (detections_of a)
    pub far_b : Struck (FarAt s b.timestamp) in_b (detections_of b)
    pub common : left_by in_a (detections_of a) ≡ left_by in_b (detections_of b)

-- ---- what a report says of a detection

-- that it updated the track of this number, and the cost: "The cost is that pair's cost with prior penalty."
pub record Update : Type 0 where
  pub number : ℕ
  pub cost : Float

abbrev pub update_said : ObservationOutcome → Option ℕ → Option Float → Option Update
update_said Updated (Some n) (Some cost) = Some (record { number = n; cost = cost })
update_said Updated (Some n) None = None
update_said Updated None cost = None
update_said Spawned (Some n) cost = None
update_said Spawned None cost = None
update_said Unmatched t cost = None

unfoldable pub update_of : ObservationAssociation → Option Update
update_of a = update_said a.outcome a.track_id a.cost

-- That it began the track of this number. To begin a track is a term of 01's own: "A detection begins a track where the birth step puts a new one in the table for it;
-- leaving a candidate begins none."
abbrev pub birth_said : ObservationOutcome → Option ℕ → Option Float → Option ℕ
birth_said Updated t cost = None
birth_said Spawned (Some n) cost = Some n
birth_said Spawned None cost = None
birth_said Unmatched t cost = None

unfoldable pub birth_of : ObservationAssociation → Option ℕ
birth_of a = birth_said a.outcome a.track_id a.cost

-- The three forms: updated with a number and a cost, begun with a number, neither. Nothing hides in an association of another form.
abbrev pub is_plain : ObservationOutcome → Option ℕ → Option Float → Bool
is_plain Updated (Some n) (Some cost) = true
is_plain Updated (Some n) None = false
is_plain Updated None cost = false
is_plain Spawned (Some n) None = true
is_plain Spawned (Some n) (Some cost) = false
is_plain Spawned None cost = false
is_plain Unmatched None None = true
is_plain Unmatched None (Some cost) = false
is_plain Unmatched (Some n) cost = false

-- A report on these detections: one association for each, in their order, of one of the three forms. So what a mask leaves of the associations is what is said of the detections
-- that it leaves.
pub record Tells (ds : List Detection) (r : Report) : Type 0 where
  pub one_for_each : length r.associations ≡ length ds
  pub in_order : map (λ a. a.observation_index) r.associations ≡ up_from 0 ds
  pub plain : Every (λ a. is_plain a.outcome a.track_id a.cost ≡ true) r.associations

-- ---- the claim for two accepted batches

module _ (c : Cartesian3DTrackerConfig) where
  -- x is the answer to a, and y the answer to b, both from the state s
  pub record Undisturbed (s : State) (a b : ObservationBatch3D) (d : DifferByFar c s a b) (x y : Done) : Type 0 where
    pub tells_a : Tells (detections_of a) x.report
    pub tells_b : Tells (detections_of b) y.report
    -- Demand 3: "Then every track standing before is kept in both or dropped in both, and if kept ends with the same bits." A track standing before is a term of 01's own: "A track
    -- standing before is one in the table before the batch; the same track is the one of the same number. The same bits means every field of the record." `trackOf` gives the whole
    -- record of that number, or none: then the track was dropped.
    pub standing : (t : Track3D) → Memᴰ t s.tracks → track_of t.id x.state.tracks ≡ track_of t.id y.state.tracks
    -- "Every common detection updates a track in both or in neither, and where it does, the same one at the same cost, bit for bit."
    pub updates : map update_of (left_by d.in_a x.report.associations) ≡ map update_of (left_by d.in_b y.report.associations)
    -- and, beyond the demand, both report the same numbers of tracks that took no detection
    pub unmatched : x.report.unmatched ≡ y.report.unmatched
    -- "If the detections not common stand last in each, every common one also begins a track in both or in neither,
    pub begins : Last d.in_a → Last d.in_b → map birth_of (left_by d.in_a x.report.associations) ≡ map birth_of (left_by d.in_b y.report.associations)
    -- and that track is the same bit for bit, number included."
    pub begun : Last d.in_a → Last d.in_b → (n : ℕ) → Memᴰ (Some n) (map birth_of (left_by d.in_a x.report.associations))
        → (t : Track3D) × (track_of n x.state.tracks ≡ Some t) × (track_of n y.state.tracks ≡ Some t)
    -- and, beyond the demand, all that is said of the common ones is then the same
    pub said : Last d.in_a → Last d.in_b → left_by d.in_a x.report.associations ≡ left_by d.in_b y.report.associations

  -- ---- the core, on lists

  -- "It holds for every list of the calls .., refused ones included, in any order and with any arguments"; "Each call gets the state that the one before gave back (after a
  -- refusal, the old one) .. and the state after the list goes to both batches; an empty list leaves the fresh one. A call added later on the same state joins the list": it joins
  -- `Call` and `run` of calls, and this claim then speaks of it too.
  abbrev pub UndisturbedFrom : State → Type 0
  UndisturbedFrom s₀ = (calls : List Call) (a b : ObservationBatch3D) (x y : Done) → let s = run c calls s₀ in
      (d : DifferByFar c s a b) → process_reply c s a ≡ given x → process_reply c s b ≡ given y → Undisturbed s a b d x y

  -- From any state whose track numbers ascend below its next one, as calls make it and as it is read from text. Without that the claim is false: where an expired track 5 stands
  -- in the table and 5 is the next number, a far detection begins a track 5, and by its number the expired one is kept in one batch and dropped in the other.
  abbrev pub Demand3From : State → Type 0
  Demand3From s₀ = Numbered s₀ → UndisturbedFrom s₀

-- ".. from a fresh tracker under any accepted settings": under any settings at all, and the numbers ascend in a fresh state
abbrev pub Demand3 : Type 0
Demand3 = (c : Cartesian3DTrackerConfig) → UndisturbedFrom c fresh_state

-- ---- the guarantee, of whole structs

-- x and y are the answers to a and b, from the state s that these calls left of s₀
pub record Guaranteed (c : Cartesian3DTrackerConfig) (s₀ : State) (calls : List Call) (s : State) (a b : ObservationBatch3D) (d : DifferByFar c s a b) (x y : Done) : Type 0 where
  -- the state is what the definitions make of the start
  pub reached : s ≡ run c calls s₀
  -- numbers strictly ascend before and after, so that one number names one track
  pub numbered : Numbered s
  pub numbered_a : Numbered x.state
  pub numbered_b : Numbered y.state
  -- "In each batch the tracks kept, updated and begun are those that 01 gives." 01: "What 01 gives in a batch is what its rules, the Rust's where they are silent, make of the
  -- settings, the calls of the list and that batch, from the same start; tracks are compared by number."
  pub given_a : process_reply c (run c calls s₀) a ≡ given x
  pub given_b : process_reply c (run c calls s₀) b ≡ given y
  -- the sentences before that one
  pub undisturbed : Undisturbed c s a b d x y

-- "Whatever calls came since power-up, refused ones among them, let two batches, both accepted from the one state they left, differ only by detections that may pair with no track
-- once moved to the batch's time, the common ones in the same order." The calls lead from t to u, and u goes to both batches, which leave v and w with the reports p and q. "Nobody
-- else writes it meanwhile": each call gets what the one before left.
abbrev pub GuaranteedFrom : Cartesian3DTracker → Type 0
GuaranteedFrom t = (calls : List Call) (u v w : Cartesian3DTracker) (a b : ObservationBatch3D) (p q : BatchReport3D)
    → Steps t calls u → BatchAnswers u a v (Ok tt) p → BatchAnswers u b w (Ok tt) q → (d : DifferByFar t.config (state_of u) a b)
    → Guaranteed t.config (state_of t) calls (state_of u) a b d (done_of v p) (done_of w q)

-- from any tracker whose track numbers ascend below its next one, as one that is read from text; false without that, as above
abbrev pub Demand3WholeFrom : Cartesian3DTracker → Type 0
Demand3WholeFrom t = Numbered (state_of t) → GuaranteedFrom t

-- from what `new` gives, whatever it answers: 01 asks it of accepted settings only
abbrev pub Demand3Whole : Type 0
Demand3Whole = (c : Cartesian3DTrackerConfig) (o : Result (Unit {0}) Refusal) (t : Cartesian3DTracker) → NewAnswers c o t → GuaranteedFrom t
