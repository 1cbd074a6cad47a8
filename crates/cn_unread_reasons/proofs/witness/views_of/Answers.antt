use Rattle.std.proofs.Common.{◌≡◌, ◌∙◌, [], ◌++◌, List, ap, subst}
use Rattle.std.specs.List.{AllZip}
use Rattle.cn_choice.specs.declared.team.Team.TheVariants.{A}
use Rattle.cn_reasons.specs.Groups.{groups, groups_of}
use Rattle.cn_reasons.specs.declared.group.ChoiceGroups.{ChoiceGroups}
use Rattle.cn_reasons.specs.declared.group.Group.{Group}
use Rattle.cn_unread_reasons.specs.UnreadWitnesses.{IsUnreadViewOf}
use Rattle.cn_unread_reasons.proofs.witness.views_of.Goals as goal

pub push_views-requires-clause-within : goal.push_views-requires-clause-within
push_views-requires-clause-within c = rw c.as_slice.ensures.value c.requires.within.a

pub push_views-requires-2-clause-within : goal.push_views-requires-2-clause-within
push_views-requires-2-clause-within c = rw c.as_slice-2.ensures.value c.requires.within.b

pub returns-clause-views : goal.returns-clause-views
returns-clause-views c =
    let choice = c.args.choice.now in
    let IsView = IsUnreadViewOf c.args.table.now c.args.looks.now choice in
    let are = c.requires.groups in
    let front = c.as_slice.result.now in
    let back = c.as_slice-2.result.now in
    let all : front ++ back ≡ groups_of choice =
    ap (λ (gs : List Group). gs ++ back) (c.as_slice.ensures.value ∙ ap (λ (g : ChoiceGroups). g.a.items) are)
    ∙ ap (λ (gs : List Group). groups A 0 choice.a ++ gs) (c.as_slice-2.ensures.value ∙ ap (λ (g : ChoiceGroups). g.b.items) are) in
    let first = c.in_ok-push_views.ensures.views [] (rw c.new-views.ensures.items tt) in
    subst (λ (gs : List Group). AllZip IsView gs c.push_views-2.new.views.items) all (c.in_ok-push_views-2.ensures.views front first)
