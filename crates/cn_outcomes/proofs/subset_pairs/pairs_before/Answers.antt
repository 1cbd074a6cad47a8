use Rattle.std.proofs.Common.{ℕ, ◌≡◌, ◌↔◌, ◌<◌, length, get_or, arith, subst, sym, [], List}
use Rattle.std.proofs.lemmas.List.{get_or_default}
use Rattle.std.specs.Prelude.{IsBitSet}
use Rattle.cn_table.specs.TypeTable.{transition}
use Rattle.cn_outcomes.specs.PairSets.{Has}
use Rattle.cn_outcomes.specs.Subsets.{Below, GivesPair, IsWithout}
use Rattle.cn_outcomes.specs.Twins.{IsPacked}
use Rattle.cn_outcomes.proofs.BitSets.{member_below, without_less, without_one}
use Rattle.cn_outcomes.proofs.Packing.{rest_less, rest_packed}
use Rattle.cn_outcomes.proofs.Unions.{gives_leaves}
use Rattle.cn_outcomes.proofs.subset_pairs.pairs_before.Goals as goal
use Rattle.cn_outcomes.proofs.subset_pairs.pairs_before.Goals.{After-place-rest}

without_process : (c : After-place-rest) → IsWithout c.args.subset c.args.process c.place-rest.result
without_process c = subst (IsWithout c.args.subset c.args.process) (sym c.place-rest.ensures) c.without.ensures

less : (c : After-place-rest) → c.place-rest.result < c.args.subset
less c = rest_less c.args.subset c.args.process c.place-rest.result (without_less c.args.subset c.args.process c.place-rest.result c.requires.mover.0 (without_process c))

packed : (c : After-place-rest) → IsPacked c.args.setting.now.links c.place-rest.result
packed c = rest_packed c.args.setting.now.links c.args.subset c.args.process c.place-rest.result c.requires.rows.packed c.requires.mover (without_process c)

pub operation_of-operation-requires : goal.operation_of-operation-requires
operation_of-operation-requires c = member_below (length c.args.setting.now.choice.now.operations) c.args.subset c.args.process c.requires.rows.inside c.requires.mover.0

pub listed : goal.listed
listed c = omega (arith, less (goal.at.listed c).After-place-rest, c.requires.rows.small, c.requires.pairs.long)

pub bounds-pairs-rest : goal.bounds-pairs-rest
bounds-pairs-rest c = omega (arith, less (goal.at.bounds-pairs-rest c).After-place-rest, c.requires.rows.small)

pub listed-2 : goal.listed-2
listed-2 c = omega (arith, less (goal.at.listed-2 c).After-place-rest, c.requires.rows.small, c.requires.rows.before.long)

pub bounds-rows-rest : goal.bounds-rows-rest
bounds-rows-rest c = omega (arith, less (goal.at.bounds-rows-rest c).After-place-rest, c.requires.rows.small)

pub moved-requires-clause-operation : goal.moved-requires-clause-operation
moved-requires-clause-operation c =
    let s = c.args.setting.now in
    let l = member_below (length s.choice.now.operations) c.args.subset c.args.process c.requires.rows.inside c.requires.mover.0 in
    subst (λ (o : ℕ). o < length s.table.now.operations) (sym c.operation_of-operation.ensures) (c.requires.setting.fits.operations_known c.args.process 0 l)

pub moved-requires-clause-known : goal.moved-requires-clause-known
moved-requires-clause-known c =
    let e = (goal.at.moved-requires-clause-known c).After-place-rest in
    let inside : c.place-rest.result < length c.args.rows.now = omega (arith, less e, c.requires.rows.small, c.requires.rows.before.long) in
    subst (Below (length c.args.setting.now.table.now.states)) (get_or_default c.args.rows.now c.place-rest.result 0 c.index-rows-rest.result inside)
    (c.requires.rows.before.known c.place-rest.result (less e) (packed e))

pub moved-requires-clause-among : goal.moved-requires-clause-among
moved-requires-clause-among c r q =
    let s = c.args.setting.now in
    let e = (goal.at.moved-requires-clause-among c).After-place-rest in
    let inside : c.place-rest.result < length c.args.rows.now = omega (arith, less e, c.requires.rows.small, c.requires.rows.before.long) in
    let here : c.place-rest.result < length c.args.pairs.now = omega (arith, less e, c.requires.rows.small, c.requires.pairs.long) in
    subst (λ (row : ℕ). Has (get_or c.args.pairs.now c.place-rest.result c.index-pairs-rest.result) r q → IsBitSet row q)
    (get_or_default c.args.rows.now c.place-rest.result 0 c.index-rows-rest.result inside) (
    subst (λ (set : List ℕ). Has set r q → IsBitSet (get_or c.args.rows.now c.place-rest.result 0) q) (get_or_default c.args.pairs.now c.place-rest.result [] c.index-pairs-rest.result here) (λ h.
    (c.requires.rows.before.same c.place-rest.result (less e) (packed e) q).1
    (gives_leaves s.table.now s.choice.now s.team c.args.j c.place-rest.result r q ((c.requires.pairs.same c.place-rest.result (less e) (packed e) r q).0 h))))

pub returns : goal.returns
returns c r q =
    let s = c.args.setting.now in
    let t = s.table.now in
    let e = (goal.at.returns c).After-place-rest in
    let w = without_process e in
    let here : c.place-rest.result < length c.args.pairs.now = omega (arith, less e, c.requires.rows.small, c.requires.pairs.long) in
    let moved = subst (λ (o : ℕ). Has c.moved.result r q
    ↔ ((found : ℕ) × Has (get_or c.args.pairs.now c.place-rest.result c.index-pairs-rest.result) r found × ((transition t o found).1 ≡ q))) c.operation_of-operation.ensures (c.moved.ensures r q) in
    let gives : (found : ℕ) → Has (get_or c.args.pairs.now c.place-rest.result c.index-pairs-rest.result) r found ↔ GivesPair t s.choice.now s.team c.args.j c.place-rest.result r found = λ found.
    subst (λ (set : List ℕ). Has set r found ↔ GivesPair t s.choice.now s.team c.args.j c.place-rest.result r found)
    (get_or_default c.args.pairs.now c.place-rest.result [] c.index-pairs-rest.result here)
    (c.requires.pairs.same c.place-rest.result (less e) (packed e) r found) in (
      λ h. (let x = moved.0 h in (c.place-rest.result, w, (x.0, (gives x.0).0 x.1, x.2))),
      λ y.
          let same = without_one c.args.subset c.args.process y.0 c.place-rest.result c.requires.mover.0 y.1 w in
          let x = y.2 in
          moved.1 (x.0, (gives x.0).1 (subst (λ (k : ℕ). GivesPair t s.choice.now s.team c.args.j k r x.0) same x.1), x.2),
    )
