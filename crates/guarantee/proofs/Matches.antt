-- Striking far detections from a batch changes nothing in what it makes of the tracks that are there: the same updates, the same costs. Assumes nothing.
use Rattle.std.specs.Prelude.{Option}
use mathlib.Core.Path.{◌≡◌, refl, sym, ap, ◌∙◌, fun_ext}
use mathlib.Core.List.Memᴰ
use mathlib.Core.List.{List, [], ◌∷◌, map}
use mathlib.Core.Bool.{Bool, true, false}
use Prim.Native.Nat.{ℕ}
use lib.IntN.{ℤ}
use lib.Ieee.{Float}
use lib.ListN.{length}
use Rattle.number.specs.Reply.{Reply, refused, given, and_then}
use Rattle.settings.specs.declared.Cartesian3DTrackerConfig.{Cartesian3DTrackerConfig}
use Rattle.lists.specs.Masks.{left_by, Struck, Every, zipped}
use Rattle.lists.specs.Each.{each}
use Rattle.kuhn_munkres.specs.Takers.{taken_by}
use Rattle.number.proofs.Replies.{given_same, never_given, bound, then_given}
use Rattle.lists.proofs.Each.{each_nil, each_cons, cons_each, each_left}
use Rattle.lists.proofs.Masks.{struck_map, struck_length, count_left, zipped_left, zipped_long}
use Rattle.kuhn_munkres.proofs.Takers.{taken_left}
use Rattle.kuhn_munkres.proofs.FarColumns.{NoCost}
use Rattle.detections.specs.declared.Detection.{Detection}
use Rattle.detections.specs.declared.pairs.Ruling.{Ruling}
use Rattle.detections.specs.declared.pairs.Ruling.TheVariants.{Allowed, Forbidden}
use Rattle.detections.specs.Far.{MayPair, Far}
use Rattle.types.specs.declared.track.Track3D.{Track3D}
use Rattle.types.specs.Track.{with_mark}
use Rattle.calls.specs.Predict.{predicted_tracks}
use Rattle.calls.specs.Pairing.{pair_config, target_for, verdict, cost_of, cost_reply, cost_table, paired}
use Rattle.calls.specs.Update.{updates, column_for, unmatched_from, Matched, matched_with, matched}
use Rattle.guarantee.proofs.Assigned.{paired_steady}

module _ (c : Cartesian3DTrackerConfig) where
  abbrev NoPair : Track3D → Detection → Type 0
  NoPair t d = ¬ MayPair (pair_config c) (target_for t) d

  -- no track of the list may pair with d
  abbrev FarFrom : List Track3D → Detection → Type 0
  FarFrom ts d = Every (λ t. NoPair t d) ts

  -- ---- the cost table

  no_cost : (t : Track3D) (d : Detection) (x : Float) → NoPair t d → cost_reply (pair_config c) t d ≡ given x → NoCost x
  unfolding cost_reply
  no_cost t d x far e = go (verdict (pair_config c) t d) refl e
    where
      go : (r : Reply Ruling) → verdict (pair_config c) t d ≡ r → and_then r (λ q. given (cost_of q)) ≡ given x → NoCost x
      go (refused n) p e = never_given n x e
      go (given (Allowed cost)) p e = absurd (far (cost, p))
      go (given (Forbidden rule)) p e = rw (← given_same _ x e)

  row_struck : (t : Track3D) (k : List Bool) (ds : List Detection) (row : List Float) → each (cost_reply (pair_config c) t) ds ≡ given row → Struck (NoPair t) k ds → Struck NoCost k row
  unfolding Struck
  row_struck t [] [] row e h = rw (each_nil (cost_reply (pair_config c) t) row e) tt
  row_struck t [] (d ∷ ds) row e h = absurd h
  row_struck t (b ∷ k) [] row e h = absurd h
  row_struck t (true ∷ k) (d ∷ ds) row e h =
      let p = each_cons (cost_reply (pair_config c) t) d ds row e in rw p.whole (row_struck t k ds p.tail p.rest h)
  row_struck t (false ∷ k) (d ∷ ds) row e h =
      let p = each_cons (cost_reply (pair_config c) t) d ds row e in
      rw p.whole (no_cost t d p.head h.0 p.first, row_struck t k ds p.tail p.rest h.1)

  table_far : (ts : List Track3D) (k : List Bool) (ds : List Detection) (rows : List (List Float)) → cost_table (pair_config c) ts ds ≡ given rows → Struck (FarFrom ts) k ds
      → (cost_table (pair_config c) ts (left_by k ds) ≡ given (map (left_by k) rows)) × Every (Struck NoCost k) rows
  unfolding cost_table Every
  table_far [] k ds rows e h = rw (each_nil _ rows e) (unfold each in refl, tt)
  table_far (t ∷ ts) k ds rows e h =
      let p = each_cons (λ t. each (cost_reply (pair_config c) t) ds) t ts rows e in
      let q = table_far ts k ds p.tail p.rest (struck_map _ _ (λ d f. f.1) k ds h) in
      rw p.whole (
        cons_each (λ t. each (cost_reply (pair_config c) t) (left_by k ds)) t ts (left_by k p.head ∷ map (left_by k) p.tail)
            (record { head = left_by k p.head; tail = map (left_by k) p.tail; first = each_left (cost_reply (pair_config c) t) k ds p.head p.first; rest = q.0; whole = refl }),
        (row_struck t k ds p.head p.first (struck_map _ _ (λ d f. f.0) k ds h), q.1),
      )

  -- ---- pairing and updates

  module _ (sensor : ℕ) (now : ℤ) where
    record Chain (ds : List Detection) (ts : List Track3D) (m : Matched) : Type 0 where
      rows : List (List Float)
      takers : List (Option ℕ)
      costs : cost_table (pair_config c) ts ds ≡ given rows
      taken : paired c now ts rows (length ds) ≡ given takers
      done : updates c sensor now (taken_by takers ds) ts ≡ given m.tracks
      columns : m.columns ≡ zipped (column_for (pair_config c) ts) takers ds
      unmatched : m.unmatched ≡ unmatched_from (taken_by takers ds) 0 ts

    to_chain : (ds : List Detection) (ts : List Track3D) (m : Matched) → matched_with c sensor now ds ts ≡ given m → Chain ds ts m
    unfolding matched_with
    to_chain ds ts m e =
        let p = bound (cost_table (pair_config c) ts ds) _ m e in
        let q = bound (paired c now ts p.0 (length ds)) _ m p.2 in
        let r = bound (updates c sensor now (taken_by q.0 ds) ts) _ m q.2 in
        let same = given_same _ m r.2 in
        record {
          rows = p.0;
          takers = q.0;
          costs = p.1;
          taken = q.1;
          done = r.1 ∙ ap (λ (v : Matched). given v.tracks) same;
          columns = ap (λ (v : Matched). v.columns) (sym same);
          unmatched = ap (λ (v : Matched). v.unmatched) (sym same);
        }

    from_chain : (ds : List Detection) (ts : List Track3D) (m : Matched) → Chain ds ts m → matched_with c sensor now ds ts ≡ given m
    unfolding matched_with
    from_chain ds ts m p =
        then_given _ _ p.rows p.costs ∙ then_given _ _ p.takers p.taken ∙ then_given _ _ m.tracks p.done
        ∙ ap {B = Reply Matched} given (λ i. record { tracks = m.tracks; columns = sym p.columns i; unmatched = sym p.unmatched i })

    -- the columns without the struck ones
    abbrev pub struck_columns : List Bool → Matched → Matched
    struck_columns k m = record { tracks = m.tracks; columns = left_by k m.columns; unmatched = m.unmatched }

    matched_with_far : (k : List Bool) (ds : List Detection) (ts : List Track3D) (m : Matched) → Struck (FarFrom ts) k ds → matched_with c sensor now ds ts ≡ given m
        → (matched_with c sensor now (left_by k ds) ts ≡ given (struck_columns k m)) × (length m.columns ≡ length ds)
    matched_with_far k ds ts m h e =
        let p = to_chain ds ts m e in
        let t = table_far ts k ds p.rows p.costs h in
        let len : length k ≡ length ds = struck_length _ k ds h in
        let u = paired_steady c now ts k p.rows p.takers t.1 (rw len p.taken) in
        let f : taken_by (left_by k p.takers) (left_by k ds) ≡ taken_by p.takers ds = fun_ext (λ i. taken_left k p.takers ds i u.1) in (
          from_chain (left_by k ds) ts (struck_columns k m)
              (record {
                rows = map (left_by k) p.rows;
                takers = left_by k p.takers;
                costs = t.0;
                taken = rw (count_left k ds len) u.0;
                done = rw f p.done;
                columns = ap (left_by k) p.columns ∙ zipped_left (column_for (pair_config c) ts) k p.takers ds;
                unmatched = rw f p.unmatched;
              }),
          ap length p.columns ∙ zipped_long (column_for (pair_config c) ts) p.takers ds (sym (struck_length _ k p.takers u.1) ∙ len),
        )

    -- far as 01 has it, of the moved tracks, whose marks don't count
    every_far : (ts : List Track3D) (d : Detection) → Far (pair_config c) (map target_for ts) d → FarFrom (map (with_mark false) ts) d
    unfolding Every
    every_far [] d f = tt
    every_far (t ∷ ts) d f = (f (target_for t) (Memᴰ.head refl), every_far ts d (λ u m. f u (Memᴰ.tail m)))

    pub matched_far : (ts : List Track3D) (k : List Bool) (ds : List Detection) (m : Matched)
        → Struck (λ d. (ms : List Track3D) → predicted_tracks c now ts ≡ given ms → Far (pair_config c) (map target_for ms) d) k ds → matched c sensor now ts ds ≡ given m
        → (matched c sensor now ts (left_by k ds) ≡ given (struck_columns k m)) × (length m.columns ≡ length ds)
    unfolding matched
    matched_far ts k ds m h e =
        let p = bound (predicted_tracks c now ts) _ m e in
        let q = matched_with_far k ds (map (with_mark false) p.0) m (struck_map _ _ (λ d f. every_far p.0 d (f p.0 p.1)) k ds h) p.2 in
        (then_given _ _ p.0 p.1 ∙ q.0, q.1)
