use Rattle.cn_text.specs.Plays.{play_text}
use Rattle.cn_text.proofs.Numbered.{numbered_more}
use Rattle.cn_text.proofs.plays.push_plays.Goals as goal

pub loop-place-preserved : goal.loop-place-preserved
loop-place-preserved c =
    numbered_more (play_text c.args.table.now) c.loop-place.place c.args.plays.now c.index-plays-place.result _ _ _ c.loop-place-test.true c.index-plays-place.is c.loop-place.invariant
    c.in_ok-push_play.ensures
