-- The rows that a batch notes of the tracks that it has moved: what the pairing reads of each. Assumes nothing.
use mathlib.Core.Path.{◌≡◌, refl, sym, ap, ◌∙◌}
use mathlib.Core.List.{List, [], ◌∷◌, ◌++◌, map}
use Prim.Native.Nat.{ℕ, ◌+◌, ◌≤◌, ◌<◌}
use native.Mathlib.Omega.{arith}
use lib.ListN.{length, take, set, replicate, length-map, length-append}
use lib.Seq.{length-take-le}
use Rattle.lists.specs.Lay.{lay}
use Rattle.lists.proofs.Laying.{set_lay, take_lay, push_lay}
use Rattle.lists.proofs.Filling.{map_append}
use Rattle.lists.proofs.Masks.{map_map}
use Rattle.types.specs.declared.track.Track3D.{Track3D}
use Rattle.pairing.specs.declared.Row.{Row}
use Rattle.pairing.specs.Rows.{row_of, blank_row}
use Rattle.records.specs.declared.tracks.PkTrack.{PkTrack}
use Rattle.records.specs.Tracks.{track_of, track_to}
use Rattle.records.proofs.Back.{track_back}
use Rattle.owner.proofs.Through.{map_take}

-- the rows of m's first j tracks, with blanks behind them
abbrev pub Noted : List PkTrack → List Row → ℕ → Type 0
Noted m rows j = rows ≡ lay (map (λ a. row_of (track_of a)) (take j m)) (replicate 64 blank_row)

pub noted_start : (m : List PkTrack) → Noted m (replicate 64 blank_row) 0
noted_start m = unfold lay in refl

-- the front with one more behind it
pub take_set : {A : Type 0} (m : List A) (j : ℕ) (x : A) → j < length m → take (j + 1) (set m j x) ≡ take j m ++ (x ∷ [])
take_set m j x h =
    let l = take j m ++ (x ∷ []) in
    let long : j + 1 ≡ length l = sym (length-append (take j m) (x ∷ []) ∙ ap (λ (k : ℕ). k + 1) (length-take-le j m (omega arith))) in
    (λ i. take (long i) (push_lay m j x h i)) ∙ take_lay l m

pub noted_more : (m : List PkTrack) (rows : List Row) (j : ℕ) (x : Track3D) → j < length m → j < 64 → Noted m rows j → Noted (set m j (track_to x)) (set rows j (row_of x)) (j + 1)
noted_more m rows j x h g e =
    let f : PkTrack → Row = λ a. row_of (track_of a) in
    let long : length (map f (take j m)) ≡ j = length-map (take j m) f ∙ length-take-le j m (omega arith) in
    let more : map f (take (j + 1) (set m j (track_to x))) ≡ map f (take j m) ++ (row_of x ∷ []) =
    ap (map f) (take_set m j (track_to x) h) ∙ map_append f (take j m) (track_to x ∷ []) ∙ ap (λ (t : Track3D). map f (take j m) ++ (row_of t ∷ [])) (track_back x) in
    ap (λ (r : List Row). set r j (row_of x)) e
    ∙ ap (λ (k : ℕ). set (lay (map f (take j m)) (replicate 64 blank_row)) k (row_of x)) (sym long)
    ∙ set_lay (map f (take j m)) (replicate 64 blank_row) (row_of x) (omega (arith, long))
    ∙ ap (λ (r : List Row). lay r (replicate 64 blank_row)) (sym more)

-- so the rows in front are those of the tracks in front
pub noted_front : (m : List PkTrack) {rows : List Row} {j : ℕ} → Noted m rows j → j ≤ length m → take j rows ≡ map row_of (take j (map track_of m))
noted_front m {rows} {j} e h =
    let l : List Row = map (λ a. row_of (track_of a)) (take j m) in
    let long : j ≡ length l = sym (length-map (take j m) (λ a. row_of (track_of a)) ∙ length-take-le j m h) in
    (λ i. take (long i) (e i)) ∙ take_lay l (replicate 64 blank_row) ∙ sym (ap (map row_of) (sym (map_take track_of j m)) ∙ map_map track_of row_of (λ a. row_of (track_of a)) (λ a. refl) (take j m))
