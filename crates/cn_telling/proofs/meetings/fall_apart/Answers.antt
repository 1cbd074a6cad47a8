use Rattle.std.proofs.Common.{arith}
use Rattle.cn_stocks.proofs.MeetingLemmas.{apart_by, outside_of}
use Rattle.cn_telling.proofs.meetings.fall_apart.Goals as goal

pub returns : goal.returns
returns c =
    let set = c.component-set.ensures in (
      λ h. apart_by c.args.sets.now c.args.first c.component-set.result (omega arith) c.requires.some set.first set.closed (c.some_outside.ensures.0 h),
      λ a. c.some_outside.ensures.1 (outside_of c.args.sets.now c.args.first c.component-set.result set.gathered a),
    )
