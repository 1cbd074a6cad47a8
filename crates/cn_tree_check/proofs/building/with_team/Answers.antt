use Rattle.std.proofs.Common.{◌∷◌, subst, sym}
use Rattle.cn_trees.specs.Tree.{Teams}
use Rattle.cn_tree_plans.specs.Teams.{teams_of}
use Rattle.cn_tree_check.proofs.HeadLemmas.{none_team, one_team}
use Rattle.cn_tree_check.specs.Heads.{AreTeamsAtHead, BeginsBelow}
use Rattle.cn_tree_check.specs.Sizes.{teams_at}
use Rattle.cn_tree_check.proofs.building.with_team.Goals as goal

pub returns-in_default : goal.returns-in_default
returns-in_default c size sizes nodes left several first told =
    none_team size sizes nodes left (teams_of c.args.team) several first (subst (AreTeamsAtHead sizes left) c.in_default.is told)

pub returns : goal.returns
returns c size sizes nodes left several first told =
    let behind = teams_at c.in-Some.further.behind.now in
    let begun : BeginsBelow sizes left (teams_of c.in-Some.further.teams) behind = subst (AreTeamsAtHead sizes left) c.in-Some.is told in
    subst (λ (s : Teams). BeginsBelow (size ∷ sizes) nodes s behind) (sym c.in_ok-teams.ensures)
    (one_team size sizes nodes left (teams_of c.args.team) (teams_of c.in-Some.further.teams) behind first begun)
