use Rattle.std.proofs.Common.{◌≡◌, ◌∙◌, ap, length}
use Rattle.cn_choice.specs.declared.team.Team.TheVariants.{A, B}
use Rattle.cn_reasons.specs.Groups.{groups}
use Rattle.cn_reasons.specs.declared.group.ChoiceGroups.{ChoiceGroups}
use Rattle.cn_stock_text.proofs.witness.push_all_groups.Goals as goal

pub push_seen-requires-clause-a_within : goal.push_seen-requires-clause-a_within
push_seen-requires-clause-a_within c = rw c.as_slice-a.ensures.value c.choice_groups-groups.ensures.within.a

pub push_seen-requires-clause-b_within : goal.push_seen-requires-clause-b_within
push_seen-requires-clause-b_within c = rw c.as_slice-b.ensures.value c.choice_groups-groups.ensures.within.b

pub returns : goal.returns
returns c =
    let choice = c.args.choice.now in
    let are = c.choice_groups-groups.ensures.groups in
    let a : c.as_slice-a.result.now ≡ groups A 0 choice.a = c.as_slice-a.ensures.value ∙ ap (λ (g : ChoiceGroups). g.a.items) are in
    let b : c.as_slice-b.result.now ≡ groups B (length choice.a) choice.b = c.as_slice-b.ensures.value ∙ ap (λ (g : ChoiceGroups). g.b.items) are in
    rw (← a, ← b) c.push_seen.ensures
