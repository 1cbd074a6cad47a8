use Rattle.std.proofs.Common.{List, ◌++◌, subst}
use Rattle.std.specs.List.{AllZip}
use Rattle.std.proofs.lemmas.List.{take_all}
use Rattle.std.proofs.lemmas.List.Elements.{All-push, All-same}
use Rattle.cn_unread_reasons.specs.Known.{IsKnownUnreadView}
use Rattle.cn_unread_reasons.specs.UnreadWitnesses.{IsUnreadViewOf}
use Rattle.cn_reasons.specs.declared.group.Group.{Group}
use Rattle.cn_reasons.proofs.WayLemmas.{zip_at}
use Rattle.cn_unread_reasons.proofs.witness.push_views.Goals as goal

pub loop-group-preserved : goal.loop-group-preserved
loop-group-preserved c =
    let t = c.args.table.now in
    let i = c.loop-group.invariant in record {
      views = λ before h. rw c.in_ok-push.ensures.items
          (zip_at (IsUnreadViewOf t c.args.looks.now c.args.choice.now) before c.args.groups.now c.loop-group.views.items c.loop-group.group-index _ _ c.loop-group-test.true (i.views before h) c.in_ok-view_of.ensures.view);
      known = All-same (IsKnownUnreadView t) _ _ c.in_ok-push.ensures.items (All-push (IsKnownUnreadView t) c.loop-group.views.items _ i.known c.in_ok-view_of.ensures.known);
    }

pub returns-clause-views : goal.returns-clause-views
returns-clause-views c before so_far =
    let t = c.args.table.now in
    let groups : List Group = c.args.groups.now in
    subst (λ (gs : List Group). AllZip (IsUnreadViewOf t c.args.looks.now c.args.choice.now) (before ++ gs) c.loop-group.views.items) (take_all c.loop-group.group-index groups c.loop-group-test.false)
    (c.loop-group.invariant.views before so_far)
