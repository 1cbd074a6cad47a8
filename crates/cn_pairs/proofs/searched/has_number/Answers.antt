use Rattle.std.proofs.Common.{◌∙◌, ◌-◌, arith, length, sym}
use Rattle.cn_table.specs.Restriction.{with_operations}
use Rattle.cn_pairs.specs.SetNumbers.{numbers}
use Rattle.cn_pairs.proofs.Between.{within_other}
use Rattle.cn_pairs.proofs.FirstSets.{has_same}
use Rattle.cn_pairs.proofs.OneNumber.{one_number}
use Rattle.cn_pairs.proofs.searched.has_number.Goals as goal

pub returns-then-is_within_some : goal.returns-then-is_within_some
returns-then-is_within_some g c = (
  λ no. absurd (cc no),
  λ has. absurd (within_other c.args.table.now c.args.number (length c.args.table.now.operations - 1) c.args.known.now (numbers c.args.set.now)
      c.requires.number (omega (arith, c.requires.some)) c.requires.known (c.is_within_some.ensures.0 c.if-is_within_some.true) has),
)

pub returns : goal.returns
returns g c = (
  λ same. has_same c.args.table.now (numbers c.args.set.now) c.in_ok-own.own c.args.number c.in_ok-own.ensures (sym c.is_same.ensures ∙ same),
  λ has. c.is_same.ensures
      ∙ one_number (with_operations c.args.table.now (numbers c.args.set.now)) c.in_ok-own.own c.args.number c.in_ok-own.ensures has,
)
