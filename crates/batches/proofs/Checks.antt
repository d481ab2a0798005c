-- What the tests on the way of a batch's check say of its definition, and what a pass over its detections has found. Assumes nothing.
use Rattle.std.specs.Prelude.{None, Option}
use mathlib.Core.Path.{◌≡◌, refl, sym, ap, ◌∙◌}
use mathlib.Core.Bool.{Bool, true, false}
use lib.IntN.{ℤ}
use borrow.Author.Tests.{le-leb, lt-leb}
use mathlib.Core.List.{List, [], ◌∷◌, ◌++◌}
use Prim.Native.Nat.{ℕ, suc, ◌+◌, ◌≤◌, ◌<◌}
use native.Mathlib.Omega.{arith}
use native.Mathlib.Numerals.{add-one}
use lib.ListN.{length, take, drop, get_or, take-append-drop}
use lib.Seq.{take-suc, take-length}
use Rattle.number.specs.Reply.{Reply, refused, given, refuse_unless, and_then}
use Rattle.detections.specs.declared.Detection.{Detection}
use Rattle.detections.specs.Detection.{detection_reply}
use Rattle.settings.specs.Frame.{same_frame}
use Rattle.settings.specs.declared.frame.FrameName.{FrameName}
use Rattle.types.specs.declared.tracker.SensorSequence.{SensorSequence}
use Rattle.types.specs.declared.batch.ObservationBatch3D.{ObservationBatch3D}
use Rattle.tables.specs.Sequences.{last_of, room_for}
use Rattle.batches.specs.Check.{detections_reply, is_before, is_repeated, batch_reply}

-- a list and one more
after_all : (l : List Detection) (d : Detection) → detections_reply l ≡ given tt → detections_reply (l ++ (d ∷ [])) ≡ detection_reply d
unfolding detections_reply
after_all [] d e = last (detection_reply d)
  where
    last : (r : Reply (Unit {0})) → and_then r (λ u. given tt) ≡ r
    last (refused n) = refl
    last (given u) = refl
after_all (x ∷ l) d e = go (detection_reply x) e (after_all l d)
  where
    go : (r : Reply (Unit {0})) → and_then r (λ u. detections_reply l) ≡ given tt → (detections_reply l ≡ given tt → detections_reply (l ++ (d ∷ [])) ≡ detection_reply d) → and_then r (λ u. detections_reply (l ++ (d ∷ []))) ≡ detection_reply d
    go (refused n) w ih = absurd (let z : ◌≡◌ {A = ℕ} 0 1 = cc in omega arith)
    go (given u) w ih = ih w

-- one that is refused decides for all lists that begin so
refused_all : (l m : List Detection) (n : ℕ) → detections_reply l ≡ refused n → detections_reply (l ++ m) ≡ refused n
unfolding detections_reply
refused_all [] m n e = absurd (let z : ◌≡◌ {A = ℕ} 0 1 = cc in omega arith)
refused_all (x ∷ l) m n e = go (detection_reply x) e (refused_all l m n)
  where
    go : (r : Reply (Unit {0})) → and_then r (λ u. detections_reply l) ≡ refused n → (detections_reply l ≡ refused n → detections_reply (l ++ m) ≡ refused n) → and_then r (λ u. detections_reply (l ++ m)) ≡ refused n
    go (refused k) w ih = w
    go (given u) w ih = ih w

-- what stands past the end of an array of detections
abbrev pub no_detection : Detection
no_detection = record { position = []; covariance = []; velocity = None; class_label = None; score = None }

-- the first i are not refused
pub Passed : List Detection → ℕ → Type 0
Passed l i = detections_reply (take i l) ≡ given tt

pub passed_none : (l : List Detection) → Passed l 0
unfolding Passed detections_reply
passed_none l = refl

pub passed_all : (l : List Detection) (i : ℕ) → i ≡ length l → Passed l i → given tt ≡ detections_reply l
unfolding Passed
passed_all l i h p = sym p ∙ ap (λ (n : ℕ). detections_reply (take n l)) h ∙ ap detections_reply (take-length l)

module _ (l : List Detection) (i : ℕ) (inside : i < length l) (passed : Passed l i) where
  -- the next decides for a list that ends with it
  next : detections_reply (take (suc i) l) ≡ detection_reply (get_or l i no_detection)
  unfolding Passed
  next = rw (take-suc l i no_detection inside) (after_all (take i l) (get_or l i no_detection) passed)

  pub passed_more : detection_reply (get_or l i no_detection) ≡ given tt → Passed l (i + 1)
  unfolding Passed
  passed_more e = rw add-one (next ∙ e)

  pub passed_not : (k : ℕ) → detection_reply (get_or l i no_detection) ≡ refused k → detections_reply l ≡ refused k
  passed_not k e =
      ap detections_reply (sym (take-append-drop (suc i) l)) ∙ refused_all (take (suc i) l) (drop (suc i) l) k (next ∙ e)

-- ---- the tests in their order
module _ (frame : FrameName) (last : Option ℤ) (l : List SensorSequence) (b : ObservationBatch3D) where
  abbrev reply : Reply (Unit {0})
  reply = batch_reply frame last l b

  pub too_many : 64 < b.count → refused 11 ≡ reply
  unfolding batch_reply
  too_many h = rw (lt-leb b.count 64 h)

  module _ (few : b.count ≤ 64) where
    pub frame_differs : same_frame frame b.frame_id ≡ false → refused 2 ≡ reply
    unfolding batch_reply
    frame_differs f = rw (le-leb b.count 64 few, f)

    module _ (same : same_frame frame b.frame_id ≡ true) where
      pub earlier : is_before last b.timestamp ≡ true → refused 3 ≡ reply
      unfolding batch_reply
      earlier t = rw (le-leb b.count 64 few, same, t)

      module _ (timely : is_before last b.timestamp ≡ false) where
        pub repeated : is_repeated (last_of b.sensor_id l) b.sequence ≡ true → refused 4 ≡ reply
        unfolding batch_reply
        repeated r = rw (le-leb b.count 64 few, same, timely, r)

        -- past the tests of the batch itself, the detections decide, and then the room for its sensor
        pub decided : is_repeated (last_of b.sensor_id l) b.sequence ≡ false → (r : Reply (Unit {0})) → detections_reply (take b.count b.observations) ≡ r
            → (room : Bool) → room_for 32 b.sensor_id l ≡ room → reply ≡ and_then r (λ u. refuse_unless room 11 (given tt))
        unfolding batch_reply
        decided new r e room q = rw (le-leb b.count 64 few, same, timely, new, e, q)
