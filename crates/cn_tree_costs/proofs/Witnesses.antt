-- Trees of witnesses by the sizes of the teams at each node.
use Rattle.std.proofs.Common.{ℕ, zero, suc, ◌≡◌, Bool, ◌+◌, ◌-◌, ◌<◌, List, [], ◌∷◌, refl, sym, ap, ◌∙◌, subst, arith, nat_lt, inl, inr}
use Rattle.std.specs.Prelude.{sum}
use Rattle.std.proofs.lemmas.Bool.{cases_lt}
use Rattle.std.proofs.lemmas.Bool.Decides.{nat_tests}
use Rattle.cn_table.specs.TypeTable.{TypeTable}
use Rattle.cn_meetings.specs.Choices.{renamed}
use Rattle.cn_meetings.specs.Meeting.{IsSightOf, Meeting, Sight}
use Rattle.cn_meetings.specs.Witness.{BeginsIn, Has, IsShown, IsTeamWitness}
use Rattle.cn_meetings.proofs.Renaming.{renaming}
use Rattle.cn_meetings.proofs.Witnesses.{fewer_processes, fewer_teams}
use Rattle.cn_trees.specs.Tree.{AreWitnesses, IsOfType, PlanTree, Teams, comes_to, members, team_in}
use Rattle.cn_tree_costs.specs.Nodes.{Node, node_at}
use Rattle.cn_tree_costs.specs.Sizes.{HasSizes, block, sizes_of}
use Rattle.cn_tree_costs.proofs.NodesOf.{among_comes, comes_among, team_of_node}
use Rattle.cn_tree_costs.proofs.Numbers.{block_in, block_out, sizes_sum, sum_cons}

-- a witness depends on the teams of its processes alone
pub same_teams : (t : TypeTable) (M : Meeting) (processes : ℕ → Bool) (team other : ℕ → ℕ) → ((p : ℕ) → Has processes p → team p ≡ other p) → IsTeamWitness t M processes team → IsTeamWitness t M processes other
same_teams t M processes team other same witness g h p response saw alpha beta a b bg bh = witness g h p response saw alpha beta a b (begins alpha a g bg) (begins beta b h bh)
  where
    begins : (order : List ℕ) → IsShown t M processes order p response saw → (side : ℕ) → BeginsIn other side order → BeginsIn team side order
    begins [] shown side b = b
    begins (x ∷ order) shown side b = same x (shown.is_order.members 0 x refl) ∙ b

-- ---- the witness of a node
module _ (T : PlanTree) (witnesses : AreWitnesses T) (of_type : IsOfType T) (v : ℕ) (sight : Sight) (alike : (p : ℕ) → Has (comes_to T.teams v) p → (T.meeting v).sight p ≡ sight) where
  abbrev own : Node
  own = node_at T.teams v

  abbrev own_sizes : List ℕ
  own_sizes = sizes_of (node_at T.teams v).teams

  member : (p : ℕ) → p < sum own_sizes → Has (comes_to T.teams v) (own.first + p)
  member p lt = among_comes T.teams v (own.first + p) (omega arith, omega (arith, sizes_sum own.teams))

  pub sizes_at : 0 < members own.teams → HasSizes T.table sight own_sizes
  sizes_at some = record {
    meeting = renamed (λ p. own.first + p) (T.meeting v);
    start = of_type.starts v;
    operations = λ p lt. of_type.operations v (own.first + p) (member p lt);
    sights = λ p lt. alike (own.first + p) (member p lt);
    known = (let one = member 0 (omega (arith, sizes_sum own.teams)) in subst (IsSightOf T.table) (alike (own.first + 0) one) (of_type.sights v (own.first + 0) one));
    witness = same_teams T.table (renamed (λ p. own.first + p) (T.meeting v)) (λ p. nat_lt p (sum own_sizes)) (λ p. team_in T.teams v (own.first + p)) (block own_sizes)
        (λ p h. team_of_node T.teams v (own.first + p) (member p (grind (arith, nat_tests))) ∙ ap (block own_sizes) (omega arith))
        (renaming T.table (T.meeting v) (comes_to T.teams v) (λ p. nat_lt p (sum own_sizes)) (λ p. own.first + p) (λ p h. member p (grind (arith, nat_tests))) (λ p q hp hq e. omega arith) (team_in T.teams v) (witnesses v));
  }

-- ---- a tree from a witness for each node
module _ (t : TypeTable) (s : Teams) (sights : ℕ → Sight) (given : (v : ℕ) → HasSizes t (sights v) (sizes_of (node_at s v).teams)) where
  abbrev pub tree_of : PlanTree
  tree_of = record {
    table = t;
    teams = s;
    meeting = λ v. renamed (λ p. p - (node_at s v).first) (given v).meeting;
    judge = λ v p response saw. 0;
  }

  inside : (v p : ℕ) → Has (comes_to s v) p → p - (node_at s v).first < sum (sizes_of (node_at s v).teams)
  inside v p h = let i = comes_among s v p h in let a = i.0 in let b = i.1 in omega (arith, sizes_sum (node_at s v).teams)

  pub tree_witnesses : AreWitnesses tree_of
  tree_witnesses v =
      same_teams t (renamed (λ p. p - (node_at s v).first) (given v).meeting) (comes_to s v) (λ p. block (sizes_of (node_at s v).teams) (p - (node_at s v).first)) (team_in s v) (λ p h. sym (team_of_node s v p h))
      (renaming t (given v).meeting (λ p. nat_lt p (sum (sizes_of (node_at s v).teams))) (comes_to s v) (λ p. p - (node_at s v).first) (λ p h. let i = inside v p h in grind (arith, nat_tests))
      (λ p q hp hq e. let i = (comes_among s v p hp).0 in let j = (comes_among s v q hq).0 in omega arith) (block (sizes_of (node_at s v).teams)) (given v).witness)

  pub tree_of_type : IsOfType tree_of
  tree_of_type = record {
    starts = λ v. (given v).start;
    operations = λ v p h. (given v).operations (p - (node_at s v).first) (inside v p h);
    sights = λ v p h. subst (IsSightOf t) (sym ((given v).sights (p - (node_at s v).first) (inside v p h))) (given v).known;
  }

  pub tree_alike : (v p : ℕ) → Has (comes_to s v) p → (tree_of.meeting v).sight p ≡ sights v
  tree_alike v p h = (given v).sights (p - (node_at s v).first) (inside v p h)

-- ---- empty teams
-- without the sizes that are 0
abbrev pub shrink : List ℕ → List ℕ
shrink [] = []
shrink (zero ∷ sizes) = shrink sizes
shrink (suc m ∷ sizes) = suc m ∷ shrink sizes

-- the new number of a team
abbrev kept : List ℕ → ℕ → ℕ
kept [] g = 0
kept (zero ∷ sizes) zero = 0
kept (zero ∷ sizes) (suc g) = kept sizes g
kept (suc m ∷ sizes) zero = 0
kept (suc m ∷ sizes) (suc g) = suc (kept sizes g)

pub shrink_sum : (sizes : List ℕ) → sum (shrink sizes) ≡ sum sizes
shrink_sum [] = refl
shrink_sum (zero ∷ sizes) = omega (arith, sum_cons 0 sizes, shrink_sum sizes)
shrink_sum (suc m ∷ sizes) = omega (arith, sum_cons (suc m) sizes, sum_cons (suc m) (shrink sizes), shrink_sum sizes)

shrink_block : (sizes : List ℕ) (p : ℕ) → p < sum sizes → kept sizes (block sizes p) ≡ block (shrink sizes) p
shrink_block [] p lt = refl
shrink_block (zero ∷ sizes) p lt =
    let same : p - 0 ≡ p = omega arith in
    rw (block_out 0 p sizes (omega arith), same) (shrink_block sizes p (omega (arith, sum_cons 0 sizes)))
shrink_block (suc m ∷ sizes) p lt = elim (cases_lt p (suc m)) [
  | inl l ↦ rw (block_in (suc m) p sizes l, block_in (suc m) p (shrink sizes) l) refl
  | inr l ↦ rw (block_out (suc m) p sizes l, block_out (suc m) p (shrink sizes) l) (ap suc (shrink_block sizes (p - suc m) (omega (arith, sum_cons (suc m) sizes))))
]

-- a team is not there where it is empty
pub shrink_has : (t : TypeTable) (sight : Sight) (sizes : List ℕ) → HasSizes t sight sizes → HasSizes t sight (shrink sizes)
shrink_has t sight sizes has = let same = shrink_sum sizes in record {
  meeting = has.meeting;
  start = has.start;
  operations = λ p lt. has.operations p (omega arith);
  sights = λ p lt. has.sights p (omega arith);
  known = has.known;
  witness = fewer_processes t has.meeting (λ p. nat_lt p (sum (shrink sizes))) (λ p. nat_lt p (sum sizes)) (block (shrink sizes)) (λ p h. rw same at h)
      (same_teams t has.meeting (λ p. nat_lt p (sum sizes)) (λ p. kept sizes (block sizes p)) (block (shrink sizes)) (λ p h. shrink_block sizes p (grind (arith, nat_tests)))
      (fewer_teams t has.meeting (λ p. nat_lt p (sum sizes)) (block sizes) (kept sizes) has.witness));
}
