use Rattle.std.proofs.lemmas.List.Elements.{All-push, All-same}
use Rattle.std.proofs.lemmas.Slice.Zip.{all_zipped_more}
use Rattle.cn_unread_reasons.specs.Known.{IsKnownPlay}
use Rattle.cn_unread_reasons.specs.Plays.{IsPlayOf}
use Rattle.cn_unread_reasons.proofs.trap.push_play.Goals as goal

pub returns-clause-plays : goal.returns-clause-plays
returns-clause-plays c before so_far =
    rw c.in_ok-push.ensures.items (all_zipped_more (IsPlayOf c.args.table.now) before c.args.plays.now.items c.args.choice.now _ so_far c.in_ok-play_of.ensures.play)

pub returns-clause-known : goal.returns-clause-known
returns-clause-known c =
    let IsKnown = IsKnownPlay c.args.table.now in
    All-same IsKnown _ _ c.in_ok-push.ensures.items (All-push IsKnown c.args.plays.now.items _ c.requires.so_far c.in_ok-play_of.ensures.known)
