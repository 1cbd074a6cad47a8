use Rattle.std.proofs.Common.{◌∙◌, sym}
use Rattle.cn_further.specs.FurtherNodes.{further_of}
use Rattle.cn_further.proofs.Kept.{same_kept_decides}
use Rattle.cn_further.proofs.Meets.{meets}
use Rattle.cn_further.proofs.meeting.Meeting.is_sound.Goals as goal

pub returns-in-None : goal.returns-in-None
returns-in-None c = λ h.
    let one = c.are_moves.ensures in
    let other = c.are_moves-else-not-are_moves.ensures in
    rw (c.as_slice-a.ensures.value, c.as_slice-b.ensures.value) at
    (meets c.args.table.now c.args.state.0 c.args.size c.args.operations.now (further_of c.args.follow_ups.now) c.args.self.now.process c.as_slice-a.result.now c.as_slice-b.result.now
    c.scene_along.result c.scene_along-2.result _ _ c.if-self-all.false (one.known c.if-not-are_moves.false) (other.known c.if-not-are_moves-2.false) (one.some c.if-not-are_moves.false) (other.some c.if-not-are_moves-2.false)
    (one.high c.if-not-are_moves.false) (other.low c.if-not-are_moves-2.false) c.scene_along.ensures.along c.scene_along-2.ensures.along c.stage-one.ensures c.stage-other.ensures c.in-None.ensures
    ((same_kept_decides _ _).0 (sym c.is.ensures ∙ h)))
