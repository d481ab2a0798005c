-- The rows of tracks: what a loop that makes them has done by index i, and what `calls` says of the tracks. Assumes nothing.
use Rattle.std.specs.Prelude.{None}
use mathlib.Core.Path.{◌≡◌, refl, sym, ap, ◌∙◌}
use mathlib.Core.List.{List, [], ◌∷◌, map}
use Prim.Native.Nat.{ℕ, zero, suc, ◌+◌, ◌<◌, min}
use native.Mathlib.Omega.{arith}
use lib.IntN.{ℤ}
use lib.ListN.{length, take, get_or, set, length-map, length-take}
use Rattle.number.specs.Reply.{Reply, and_then, given}
use Rattle.lists.specs.Lay.{lay}
use Rattle.lists.specs.Each.{each}
use Rattle.lists.proofs.Laying.{copy_lay, take_lay, take_min, length_lay}
use Rattle.kuhn_munkres.proofs.Labels.{map_at}
use Rattle.detections.specs.declared.Detection.{Detection}
use Rattle.detections.specs.declared.pairs.PairConfig.{PairConfig}
use Rattle.types.specs.declared.track.Track3D.{Track3D}
use Rattle.calls.specs.Pairing.{cost_reply, cost_table, recent}
use Rattle.pairing.specs.declared.Row.{Row}
use Rattle.pairing.specs.Rows.{row_of, recent_row, price_reply, row_costs}

-- what is read where there is no row
abbrev pub no_row : Row
no_row = record { target = record { expected = record { position = []; covariance = [] }; class_label = None; class_prior = None }; id = 0; last_observation = None }

-- ---- the loop

-- what g makes of one more of l, over m
pub map_lay : {A B : Type 0} (g : A → B) (l : List A) (m after : List B) (i : ℕ) (a : A) (y : B) → i < length l → i < length m → y ≡ g (get_or l i a) → after ≡ lay (take i (map g l)) m → set after i y ≡ lay (take (i + 1) (map g l)) m
map_lay {A} {B} g l m after i a y h w e s =
    ap (λ (q : List B). set q i y) s ∙ ap (set (lay (take i (map g l)) m) i) (e ∙ sym (map_at g l i a (g a) h)) ∙ copy_lay (map g l) m i (g a) (rw (length-map l g) h) w

-- what is laid in front is read there
pub lay_read : {A : Type 0} (n : ℕ) (l m : List A) → length l ≡ length m → take n (lay (take n l) m) ≡ take n l
lay_read {A} n l m e =
    let q = length-take n l in
    let long : length (lay (take n l) m) ≡ length m = length_lay (take n l) m (omega arith) in
    take_min n (lay (take n l) m) ∙ ap (λ (k : ℕ). take k (lay (take n l) m)) (ap (min n) (long ∙ sym e) ∙ sym q) ∙ take_lay (take n l) m

pub map_take : {A B : Type 0} (g : A → B) (n : ℕ) (l : List A) → take n (map g l) ≡ map g (take n l)
map_take g zero l = refl
map_take g (suc n) [] = refl
map_take {A} {B} g (suc n) (x ∷ l) = ap {B = List B} (λ r. g x ∷ r) (map_take g n l)

-- ---- what the definitions say of them

each_map : {A B C : Type 0} (f : B → Reply C) (g : A → B) (l : List A) → each f (map g l) ≡ each (λ x. f (g x)) l
unfolding each
each_map f g [] = refl
each_map {A} {B} {C} f g (x ∷ l) = ap (λ (r : Reply (List C)). and_then (f (g x)) (λ y. and_then r (λ m. given (y ∷ m)))) (each_map f g l)

pub costs_of_rows : (c : PairConfig) (ts : List Track3D) (ds : List Detection) → row_costs c (map row_of ts) ds ≡ cost_table c ts ds
unfolding row_costs cost_table price_reply cost_reply
costs_of_rows c ts ds = each_map (λ r. each (price_reply c r.target) ds) row_of ts

pub recent_of_rows : (window now : ℤ) (ts : List Track3D) → each (recent_row window now) (map row_of ts) ≡ each (recent window now) ts
unfolding recent_row recent
recent_of_rows window now ts = each_map (recent_row window now) row_of ts
