use Rattle.std.proofs.Common.{◌∙◌, ℕ, arith, sym}
use Rattle.std.specs.Prelude.{vec_len}
use Rattle.std.proofs.lemmas.Bool.{eqb-true}
use Rattle.cn_pairs.specs.SetNumbers.{set_lists}
use Rattle.cn_pairs.specs.Smallest.{NoneHas}
use Rattle.cn_pairs.proofs.FirstSets.{first_of_size, none_of_size, nothing_in, smallest_of_size, something_in, up_to_one}
use Rattle.cn_pairs.proofs.smallest.smallest_after_pairs.Goals as goal

pub returns-then-not-is_empty : goal.returns-then-not-is_empty
returns-then-not-is_empty g c =
    smallest_of_size c.args.table.now 1 c.args.number c.in_ok-of_one.of_one
    (first_of_size c.args.table.now 1 c.args.number c.args.alone.now (set_lists c.in_ok-of_one.of_one) c.requires.alone c.in_ok-of_one.ensures) (omega arith)
    (something_in c.in_ok-of_one.of_one (sym c.is_empty.ensures ∙ c.if-not-is_empty.true)) (λ k some l. absurd (omega (arith, some, l)))

pub returns-then-not-is_empty-2 : goal.returns-then-not-is_empty-2
returns-then-not-is_empty-2 g c =
    let one : NoneHas c.args.table.now 1 c.args.number = none_of_size c.args.table.now 1 c.args.number c.in_ok-of_one.of_one
    (first_of_size c.args.table.now 1 c.args.number c.args.alone.now (set_lists c.in_ok-of_one.of_one) c.requires.alone c.in_ok-of_one.ensures)
    (nothing_in c.in_ok-of_one.of_one (eqb-true (vec_len c.in_ok-of_one.of_one) 0 (sym c.is_empty.ensures ∙ c.if-not-is_empty.false))) in
    smallest_of_size c.args.table.now 2 c.args.number c.in_ok-of_two.of_two
    (first_of_size c.args.table.now 2 c.args.number c.args.pairs.now (set_lists c.in_ok-of_two.of_two) c.requires.pairs c.in_ok-of_two.ensures) (omega arith)
    (something_in c.in_ok-of_two.of_two (sym c.is_empty-2.ensures ∙ c.if-not-is_empty-2.true)) (up_to_one (λ (k : ℕ). NoneHas c.args.table.now k c.args.number) one)

pub larger_sets-requires-clause-alone : goal.larger_sets-requires-clause-alone
larger_sets-requires-clause-alone g c κs within =
    none_of_size c.args.table.now 1 c.args.number c.in_ok-of_one.of_one
    (first_of_size c.args.table.now 1 c.args.number c.args.alone.now (set_lists c.in_ok-of_one.of_one) c.requires.alone c.in_ok-of_one.ensures)
    (nothing_in c.in_ok-of_one.of_one (eqb-true (vec_len c.in_ok-of_one.of_one) 0 (sym c.is_empty.ensures ∙ c.if-not-is_empty.false)))

pub larger_sets-requires-clause-pairs : goal.larger_sets-requires-clause-pairs
larger_sets-requires-clause-pairs g c κs within =
    none_of_size c.args.table.now 2 c.args.number c.in_ok-of_two.of_two
    (first_of_size c.args.table.now 2 c.args.number c.args.pairs.now (set_lists c.in_ok-of_two.of_two) c.requires.pairs c.in_ok-of_two.ensures)
    (nothing_in c.in_ok-of_two.of_two (eqb-true (vec_len c.in_ok-of_two.of_two) 0 (sym c.is_empty-2.ensures ∙ c.if-not-is_empty-2.false)))
