use Rattle.std.proofs.Common.{◌∙◌, ◌<◌, ◌≤◌, ℕ, arith, length, sym}
use Rattle.std.specs.Prelude.{vec_len}
use Rattle.std.proofs.lemmas.Bool.{eqb-true}
use Rattle.std.proofs.lemmas.Result.{IfOk-weaker}
use Rattle.cn_pairs.specs.SetNumbers.{set_lists}
use Rattle.cn_pairs.specs.Smallest.{NoneHas}
use Rattle.cn_pairs.proofs.FirstSets.{nothing_in, up_to_two}
use Rattle.cn_pairs.proofs.WholeSets.{whole_smallest}
use Rattle.cn_pairs.proofs.smallest.larger_sets.Goals as goal

pub returns-then-operations-le3 : goal.returns-then-operations-le3
returns-then-operations-le3 g c =
    let few : length c.args.table.now.operations ≤ 3 = omega (arith, c.if-operations-le3.true, c.operations-operations.ensures.number) in
    let none : (k : ℕ) → 1 ≤ k → k < length c.args.table.now.operations → NoneHas c.args.table.now k c.args.number =
    λ k some l. up_to_two (λ (k : ℕ). NoneHas c.args.table.now k c.args.number) c.requires.alone c.requires.pairs k some (omega (arith, l, few)) in
    IfOk-weaker c.sets_of_size.result _ _ (λ sets e. whole_smallest c.args.table.now c.args.number c.operations-operations.result (set_lists sets) c.requires.number
    c.operations-operations.ensures.number c.operations-operations.ensures.range.0 e none) c.sets_of_size.ensures

pub returns : goal.returns
returns g c =
    let none : (k : ℕ) → 1 ≤ k → k < length c.args.table.now.operations → NoneHas c.args.table.now k c.args.number =
    c.in_ok-found.ensures.none (nothing_in c.in_ok-found.found (eqb-true (vec_len c.in_ok-found.found) 0 (sym c.is_empty.ensures ∙ c.if-not-is_empty.false))) in
    IfOk-weaker c.sets_of_size-2.result _ _ (λ sets e. whole_smallest c.args.table.now c.args.number c.operations-operations.result (set_lists sets) c.requires.number
    c.operations-operations.ensures.number c.operations-operations.ensures.range.0 e none) c.sets_of_size-2.ensures
