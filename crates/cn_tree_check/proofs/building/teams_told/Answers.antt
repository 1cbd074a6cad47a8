use Rattle.std.proofs.Common.{ℕ, ◌≡◌, List, [], true, false, ap, arith, length, nat_eq, subst, sym, ◌∙◌}
use Rattle.std.proofs.lemmas.List.{length-map}
use Rattle.cn_trees.specs.Tree.{Teams}
use Rattle.cn_tree_cert.specs.Certificate.{TreeCertificate, TreeNode}
use Rattle.cn_tree_plans.specs.Teams.{teams_of}
use Rattle.cn_tree_check.proofs.HeadLemmas.{few_nodes, nothing_behind, whole}
use Rattle.cn_tree_check.specs.Heads.{BeginsWithTree, IsTreeAtHead}
use Rattle.cn_tree_check.specs.Right.{teams_in}
use Rattle.cn_tree_check.specs.Sizes.{teams_at}
use Rattle.cn_tree_check.proofs.building.teams_told.Goals as goal

pub returns-then-len-ge-MOST_PROCESSES-clause-none : goal.returns-then-len-ge-MOST_PROCESSES-clause-none
returns-then-len-ge-MOST_PROCESSES-clause-none c = λ s is.
    let few = few_nodes c.args.certificate.now.nodes s is.proper is.few is.teams in
    let long = ap (λ (k : TreeCertificate). length k.nodes) c.certificate.view_is in
    absurd (omega (arith, c.if-len-ge-MOST_PROCESSES.true, c.len.ensures, long, few))

pub returns-in_default-clause-none : goal.returns-in_default-clause-none
returns-in_default-clause-none c = λ s is.
    let size = c.certificate.inside.processes in
    let nodes = teams_at c.as_slice-nodes.result.now in
    let processes : size ≡ c.args.certificate.now.processes = ap (λ (k : TreeCertificate). k.processes) c.certificate.view_is in
    let same : nodes ≡ teams_in c.args.certificate.now = ap teams_at (c.as_slice-nodes.ensures.value ∙ ap (λ (k : TreeCertificate). k.nodes) c.certificate.view_is) in
    let none : (r : Teams) (behind : List (List ℕ)) → ¬ BeginsWithTree size nodes r behind = subst (IsTreeAtHead size nodes) c.in_default.is c.in_ok-begun.ensures in
    none s [] (whole size nodes s is.proper is.few (is.processes ∙ sym processes) (is.teams ∙ sym same))

pub returns-else-is_empty-clause-none : goal.returns-else-is_empty-clause-none
returns-else-is_empty-clause-none c = λ s is.
    let size = c.certificate.inside.processes in
    let nodes = teams_at c.as_slice-nodes.result.now in
    let begun = c.in-Some.begun in
    let same : nodes ≡ teams_in c.args.certificate.now = ap teams_at (c.as_slice-nodes.ensures.value ∙ ap (λ (k : TreeCertificate). k.nodes) c.certificate.view_is) in
    let first : BeginsWithTree size nodes (teams_of begun.teams) (teams_at begun.behind.now) = subst (IsTreeAtHead size nodes) c.in-Some.is c.in_ok-begun.ensures in
    let none = ap length (nothing_behind size nodes (teams_at begun.behind.now) (teams_of begun.teams) s first is.proper (is.teams ∙ sym same)) in
    let empty : length begun.behind.now ≡ 0 = omega (arith, none, length-map begun.behind.now (λ (n : TreeNode). n.teams)) in
    let test : nat_eq (length begun.behind.now) 0 ≡ false = sym c.is_empty.ensures ∙ c.if-is_empty.false in
    let e : true ≡ false = subst (λ (n : ℕ). nat_eq n 0 ≡ false) empty test in
    absurd (let f = e in cc)
