use Rattle.std.proofs.Common.{inr, subst, sym}
use Rattle.cn_choice.specs.Discerning.{IsDiscerning}
use Rattle.cn_join_find.proofs.against.find_joins.Goals as goal

pub returns-then-is_decided_by_one : goal.returns-then-is_decided_by_one
returns-then-is_decided_by_one g c =
    let t = c.args.table.now in
    let one = c.is_decided_by_one.ensures.0 c.if-is_decided_by_one.true in
    subst (IsDiscerning t) (sym one.0) ((c.two_processes.ensures t).1 (inr one.1))
