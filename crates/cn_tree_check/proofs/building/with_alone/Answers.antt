use Rattle.std.proofs.Common.{◌∷◌, subst, sym}
use Rattle.cn_trees.specs.Tree.{Teams}
use Rattle.cn_tree_plans.specs.Teams.{teams_of}
use Rattle.cn_tree_check.proofs.HeadLemmas.{none_alone, one_alone}
use Rattle.cn_tree_check.specs.Heads.{AreTeamsAtHead, BeginsBelow}
use Rattle.cn_tree_check.specs.Sizes.{teams_at}
use Rattle.cn_tree_check.proofs.building.with_alone.Goals as goal

pub returns-in_default : goal.returns-in_default
returns-in_default c sizes nodes told = none_alone sizes nodes (subst (AreTeamsAtHead sizes nodes) c.in_default.is told)

pub returns : goal.returns
returns c sizes nodes told =
    let behind = teams_at c.in-Some.further.behind.now in
    let begun : BeginsBelow sizes nodes (teams_of c.in-Some.further.teams) behind = subst (AreTeamsAtHead sizes nodes) c.in-Some.is told in
    subst (λ (s : Teams). BeginsBelow (1 ∷ sizes) nodes s behind) (sym c.in_ok-teams.ensures)
    (one_alone sizes nodes (teams_of c.in-Some.further.teams) behind begun)
