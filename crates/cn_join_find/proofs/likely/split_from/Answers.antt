use Rattle.std.proofs.Common.{ℕ, ap, arith, length, subst, sym}
use Rattle.cn_stocks.specs.Words.{IsKnown}
use Rattle.cn_join_find.specs.Marks.{IsWitnessFor}
use Rattle.cn_join_find.proofs.likely.split_from.Goals as goal

pub connect-requires-clause-known : goal.connect-requires-clause-known
connect-requires-clause-known c = subst (IsKnown (length c.args.table.now.operations)) (sym c.as_slice-operations.ensures.value) c.requires.known

pub connect-requires-clause-some : goal.connect-requires-clause-some
connect-requires-clause-some c = omega (arith, ap length c.as_slice-operations.ensures.value, c.requires.some)

pub split_by-requires-clause-part : goal.split_by-requires-clause-part
split_by-requires-clause-part c = rw c.in-Some.is at c.in_ok-found.ensures.part

pub split_by-requires-clause-known : goal.split_by-requires-clause-known
split_by-requires-clause-known c = subst (IsKnown (length c.args.table.now.operations)) (sym c.as_slice-operations.ensures.value) c.requires.known

pub returns-in-Some : goal.returns-in-Some
returns-in-Some c = subst (λ (n : ℕ). IsWitnessFor c.args.table.now n c.in_ok-split.split) (ap length c.as_slice-operations.ensures.value) c.in_ok-split.ensures
