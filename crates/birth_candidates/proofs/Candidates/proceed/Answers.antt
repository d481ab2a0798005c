use mathlib.Core.Path.{◌≡◌, refl}
use lib.ListN.{length, get_or}
use native.Mathlib.Omega.{arith}
use mir.Facts.{to_z-of_z}
use borrow.Author.Rules.{rules}
use Rattle.lists.proofs.Laying.{length_mapped}
use Rattle.calls.specs.Births.{seen_again}
use Rattle.birth_candidates.specs.Candidates.{list_of, no_candidate}
use Rattle.birth_candidates.proofs.Listing.{few}
use Rattle.birth_candidates.proofs.Seeing.{enough, not_yet}
use Rattle.birth_candidates.proofs.Candidates.proceed.Goals as goal

pub offset_bounds-self-k : goal.offset_bounds-self-k
offset_bounds-self-k c =
    let places : length c.args.self.now.items ≡ 64 = search (rules, length_mapped) in
    omega (arith, c.requires, few c.args.self.now (length (list_of c.args.self.now)) places refl)

pub bounds-self-k : goal.bounds-self-k
bounds-self-k c =
    let places : length c.args.self.now.items ≡ 64 = search (rules, length_mapped) in
    omega (arith, c.requires, few c.args.self.now (length (list_of c.args.self.now)) places refl)

pub returns-then-required-sightings : goal.returns-then-required-sightings
returns-then-required-sightings c =
    let a = c.args in
    λ radius. enough a.self.now a.required a.k (seen_again radius a.time a.d (get_or a.self.now.items a.k no_candidate)) c.next_count-sightings.result c.remove.new.self c.next_count-sightings.ensures c.if-required-sightings.true c.remove.ensures

pub returns : goal.returns
returns c =
    let a = c.args in
    let e = c.next_count-sightings.ensures in
    λ radius. not_yet a.self.now a.required a.k (seen_again radius a.time a.d (get_or a.self.now.items a.k no_candidate)) c.replace.new.self (omega (arith, e, c.if-required-sightings.false)) (rw (to_z-of_z c.ranges.time, e) at c.replace.ensures)
