use Rattle.std.proofs.Common.{◌<◌, length, arith, Some}
use Rattle.std.proofs.lemmas.List.Elements.{All-pop}
use Rattle.cn_further.specs.declared.follow_up.FollowUp.{FollowUp}
use Rattle.cn_further.proofs.search.advance.Goals as goal

pub overflow_add-next : goal.overflow_add-next
overflow_add-next c =
    let known = All-pop (λ (f : FollowUp). f.further.0 < length c.args.table.now.operations) c.loop-last.follow_ups.items c.pop.new.self.items (Some c.in-Some.last) c.in-Some.ensures.items c.loop-last.invariant in
    omega (arith, known.1)
