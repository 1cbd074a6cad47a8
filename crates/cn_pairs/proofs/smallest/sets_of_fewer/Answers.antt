use Rattle.std.proofs.Common.{◌∙◌, ◌-◌, ◌<◌, ◌≤◌, ℕ, arith, length, sym}
use Rattle.std.specs.Prelude.{vec_len}
use Rattle.std.proofs.lemmas.Bool.{eqb-true}
use Rattle.std.proofs.lemmas.Result.{IfOk-weaker}
use borrow.Author.Count.{below_more}
use Rattle.cn_pairs.specs.SetNumbers.{set_lists}
use Rattle.cn_pairs.specs.Smallest.{NoneHas}
use Rattle.cn_pairs.proofs.FirstSets.{first_of_size, none_of_size, nothing_in, smallest_of_size, up_to_two}
use Rattle.cn_pairs.proofs.smallest.sets_of_fewer.Goals as goal

pub loop-size-init : goal.loop-size-init
loop-size-init g c = up_to_two (λ (k : ℕ). NoneHas c.args.table.now k c.args.number) c.requires.alone c.requires.pairs

pub loop-size-preserved : goal.loop-size-preserved
loop-size-preserved g c =
    let empty = nothing_in c.in_ok-found.found (eqb-true (vec_len c.in_ok-found.found) 0 (sym c.is_empty.ensures ∙ c.if-not-is_empty.false)) in
    let here : NoneHas c.args.table.now c.loop-size.size c.args.number =
    none_of_size c.args.table.now c.loop-size.size c.args.number c.in_ok-found.found c.in_ok-found.ensures empty in
    λ size some l. below_more (λ (k : ℕ). 1 ≤ k → NoneHas c.args.table.now k c.args.number) c.loop-size.size
    (λ k u s. c.loop-size.invariant k s u) (λ _. here) size l some

-- the sets of all operations but one
pub returns-clause-found : goal.returns-clause-found
returns-clause-found g c =
    let last : ℕ = length c.args.table.now.operations - 1 in
    let smaller : (k : ℕ) → 1 ≤ k → k < last → NoneHas c.args.table.now k c.args.number =
    λ k some l. c.loop-size.invariant k some (omega (arith, l, c.loop-size-test.false, c.operations-size-end.ensures.number)) in
    IfOk-weaker c.sets_with.result _ _ (λ sets e exist. smallest_of_size c.args.table.now last c.args.number sets
    (first_of_size c.args.table.now last c.args.number c.args.known.now (set_lists sets) c.requires.known e) (omega (arith, c.requires.some)) exist smaller) c.sets_with.ensures

pub returns-clause-none : goal.returns-clause-none
returns-clause-none g c =
    let last : ℕ = length c.args.table.now.operations - 1 in
    IfOk-weaker c.sets_with.result _ _ (λ sets e empty size some l.
    let here : NoneHas c.args.table.now last c.args.number = none_of_size c.args.table.now last c.args.number sets
    (first_of_size c.args.table.now last c.args.number c.args.known.now (set_lists sets) c.requires.known e) empty in
    below_more (λ (k : ℕ). 1 ≤ k → NoneHas c.args.table.now k c.args.number) last
    (λ k u s. c.loop-size.invariant k s (omega (arith, u, c.loop-size-test.false, c.operations-size-end.ensures.number)))
    (λ _. here) size (omega (arith, l)) some) c.sets_with.ensures
