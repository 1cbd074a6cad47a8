use Rattle.std.proofs.Common.{◌≡◌, ◌∙◌, [], ◌++◌, List, All, ap, subst}
use Rattle.std.specs.List.{AllZip}
use Rattle.std.proofs.lemmas.List.Elements.{All-nil}
use Rattle.cn_choice.specs.declared.team.Team.TheVariants.{A}
use Rattle.cn_reasons.specs.Groups.{groups, groups_of}
use Rattle.cn_reasons.specs.Known.{IsKnownGroup}
use Rattle.cn_reasons.specs.declared.group.ChoiceGroups.{ChoiceGroups}
use Rattle.cn_reasons.specs.declared.group.Group.{Group}
use Rattle.cn_unread_reasons.specs.FurtherViews.{IsFurtherViewOf}
use Rattle.cn_unread_reasons.specs.Known.{IsKnownUnreadView}
use Rattle.cn_unread_reasons.proofs.further_views.further_views.Goals as goal

pub returns-clause-views : goal.returns-clause-views
returns-clause-views c t choice fs are is =
    let IsView = IsFurtherViewOf t fs choice in
    let front = c.as_slice.result.now in
    let back = c.as_slice-2.result.now in
    let all : front ++ back ≡ groups_of choice =
    ap (λ (gs : List Group). gs ++ back) (c.as_slice.ensures.value ∙ ap (λ (g : ChoiceGroups). g.a.items) is)
    ∙ ap (λ (gs : List Group). groups A 0 choice.a ++ gs) (c.as_slice-2.ensures.value ∙ ap (λ (g : ChoiceGroups). g.b.items) is) in
    let first = c.in_ok-push_views.ensures.views t choice fs [] are (rw c.new-views.ensures.items tt) in
    subst (λ (gs : List Group). AllZip IsView gs c.push_views-2.new.views.items) all (c.in_ok-push_views-2.ensures.views t choice fs front are first)

pub returns-clause-known : goal.returns-clause-known
returns-clause-known c t known groups_known =
    let a : All (IsKnownGroup t) c.as_slice.result.now = rw c.as_slice.ensures.value groups_known.a in
    let b : All (IsKnownGroup t) c.as_slice-2.result.now = rw c.as_slice-2.ensures.value groups_known.b in
    c.in_ok-push_views-2.ensures.known t known b (c.in_ok-push_views.ensures.known t known a (rw c.new-views.ensures.items (All-nil (IsKnownUnreadView t))))
