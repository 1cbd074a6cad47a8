use Rattle.std.proofs.Common.{List, ◌++◌, subst}
use Rattle.std.specs.List.{AllZip}
use Rattle.std.proofs.lemmas.List.{take_all}
use Rattle.std.proofs.lemmas.List.Elements.{All-push, All-same}
use Rattle.cn_unread_reasons.specs.FurtherViews.{IsFurtherViewOf}
use Rattle.cn_unread_reasons.specs.Known.{IsKnownUnreadView}
use Rattle.cn_reasons.specs.declared.group.Group.{Group}
use Rattle.cn_reasons.proofs.WayLemmas.{zip_at}
use Rattle.cn_unread_reasons.proofs.further_views.push_views.Goals as goal

pub loop-group-preserved : goal.loop-group-preserved
loop-group-preserved c =
    let i = c.loop-group.invariant in record {
      views = λ t d fs before are h. rw c.in_ok-push.ensures.items
          (zip_at (IsFurtherViewOf t fs d) before c.args.groups.now c.loop-group.views.items c.loop-group.group-index _ _ c.loop-group-test.true (i.views t d fs before are h) (c.in_ok-view_of.ensures.view t d fs are));
      known = λ t are groups before. All-same (IsKnownUnreadView t) _ _ c.in_ok-push.ensures.items
          (All-push (IsKnownUnreadView t) c.loop-group.views.items _ (i.known t are groups before) (c.in_ok-view_of.ensures.known t are (groups c.loop-group.group-index _ c.loop-group-test.true)));
    }

pub returns-clause-views : goal.returns-clause-views
returns-clause-views c t d fs before are so_far =
    let groups : List Group = c.args.groups.now in
    subst (λ (gs : List Group). AllZip (IsFurtherViewOf t fs d) (before ++ gs) c.loop-group.views.items) (take_all c.loop-group.group-index groups c.loop-group-test.false)
    (c.loop-group.invariant.views t d fs before are so_far)
