use Rattle.std.proofs.Common.{ℕ, ◌≡◌, ◌≢◌, ◌<◌, ◌≤◌, ◌∷◌, List, false, true, ap, arith, length, subst, sym, ◌∙◌}
use Rattle.cn_choice.specs.declared.limits.TheConstants.{MOST_PROCESSES}
use Rattle.std.specs.Prelude.{IfOk}
use Rattle.cn_trees.specs.Tree.{Teams, members}
use Rattle.cn_tree_cert.specs.Certificate.{TreeNode}
use Rattle.cn_tree_plans.specs.Teams.{teams_of}
use Rattle.cn_tree_check.proofs.HeadLemmas.{AreOfRoot, no_root, none_tree, too_many}
use Rattle.cn_tree_check.specs.Heads.{AreTeamsAtHead, BeginsBelow, BeginsWithTree, IsTreeAtHead}
use Rattle.cn_tree_check.specs.Sizes.{teams_at}
use Rattle.cn_tree_check.proofs.building.+nodes.Goals as goal

pub next_tree-returns-then-len-gt-MOST_PROCESSES : goal.next_tree-returns-then-len-gt-MOST_PROCESSES
next_tree-returns-then-len-gt-MOST_PROCESSES t c =
    let root = c.in-Some.root.now in
    let below = teams_at c.in-Some.below.now in
    let is : teams_at c.args.nodes.now ≡ root.teams ∷ below = ap teams_at c.in-Some.ensures.cases.0 in
    let long = ap (λ (n : TreeNode). length n.teams) c.root.view_is in
    let many : MOST_PROCESSES < length root.teams = omega (arith, c.if-len-gt-MOST_PROCESSES.true, c.len.ensures, long) in
    subst (λ (nodes : List (List ℕ)). (s : Teams) (behind : List (List ℕ)) → ¬ BeginsWithTree c.args.size nodes s behind) (sym is)
    (too_many c.args.size root.teams below many)

pub next_tree-returns : goal.next_tree-returns
next_tree-returns t c =
    let root = c.in-Some.root.now in
    let below = teams_at c.in-Some.below.now in
    let begun = c.in-Some-2.begun in
    let is : teams_at c.args.nodes.now ≡ root.teams ∷ below = ap teams_at c.in-Some.ensures.cases.0 in
    let sizes : c.as_slice.result.now ≡ root.teams = c.as_slice.ensures.value ∙ ap (λ (n : TreeNode). n.teams) c.root.view_is in
    let told : BeginsBelow c.as_slice.result.now below (teams_of begun.teams) (teams_at begun.behind.now) =
    subst (AreTeamsAtHead c.as_slice.result.now below) c.in-Some-2.is c.in_ok-begun.ensures in
    let there : BeginsBelow root.teams below (teams_of begun.teams) (teams_at begun.behind.now) =
    subst (λ (m : List ℕ). BeginsBelow m below (teams_of begun.teams) (teams_at begun.behind.now)) sizes told in
    let wrong : ¬ AreOfRoot c.args.size (teams_of begun.teams) = λ right. let e : false ≡ true = c.if-are_of_root.ensures.1 right in absurd (let f = e in cc) in
    subst (λ (nodes : List (List ℕ)). (s : Teams) (behind : List (List ℕ)) → ¬ BeginsWithTree c.args.size nodes s behind) (sym is)
    (no_root c.args.size root.teams below (teams_of begun.teams) (teams_at begun.behind.now) there wrong)

pub next_teams-returns-then-size-eq1 : goal.next_teams-returns-then-size-eq1
next_teams-returns-then-size-eq1 t c =
    let further = c.in-Some.further.now in
    let nodes = teams_at c.args.nodes.now in
    let one : c.in-Some.size.now ≡ 1 = omega (arith, c.if-size-eq1.true) in
    let all : 1 ∷ further ≡ c.args.sizes.now = ap (λ (m : ℕ). m ∷ further) (sym one) ∙ sym c.in-Some.ensures.cases.0 in
    subst (λ (m : List ℕ). IfOk c.with_alone.result (AreTeamsAtHead m nodes)) all (c.with_alone.ensures further nodes c.in_ok-others.ensures)

pub next_teams-returns-in_default-2 : goal.next_teams-returns-in_default-2
next_teams-returns-in_default-2 t c =
    let size = c.in-Some.size.now in
    let nodes = teams_at c.args.nodes.now in
    let several : size ≢ 1 = λ e. absurd (omega (arith, c.if-size-eq1.false, e)) in
    let none : (s : Teams) (behind : List (List ℕ)) → ¬ BeginsWithTree size nodes s behind = subst (IsTreeAtHead size nodes) c.in_default-2.is c.in_ok-begun.ensures in
    subst (λ (m : List ℕ). (s : Teams) (behind : List (List ℕ)) → members s ≤ MOST_PROCESSES → ¬ BeginsBelow m nodes s behind) (sym c.in-Some.ensures.cases.0)
    (none_tree size c.in-Some.further.now nodes several none)

pub next_teams-returns : goal.next_teams-returns
next_teams-returns t c =
    let size = c.in-Some.size.now in
    let further = c.in-Some.further.now in
    let nodes = teams_at c.args.nodes.now in
    let begun = c.in-Some-2.begun in
    let several : size ≢ 1 = λ e. absurd (omega (arith, c.if-size-eq1.false, e)) in
    let first : BeginsWithTree size nodes (teams_of begun.teams) (teams_at begun.behind.now) = subst (IsTreeAtHead size nodes) c.in-Some-2.is c.in_ok-begun.ensures in
    subst (λ (m : List ℕ). IfOk c.with_team.result (AreTeamsAtHead m nodes)) (sym c.in-Some.ensures.cases.0)
    (c.with_team.ensures size further nodes (teams_at begun.behind.now) several first c.in_ok-others-2.ensures)
