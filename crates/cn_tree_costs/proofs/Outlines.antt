-- The outline of a tree: without empty teams, and without nodes of a single team.
use Rattle.std.proofs.Common.{ℕ, zero, suc, ◌≡◌, Bool, true, ◌+◌, ◌-◌, ◌*◌, ◌<◌, ◌≤◌, max, List, [], ◌∷◌, ◌++◌, length, refl, sym, ap, ◌∙◌, subst, arith, inl, inr}
use Rattle.std.specs.Prelude.{All, sum}
use Rattle.std.proofs.lemmas.Bool.{cases_lt}
use Rattle.std.proofs.lemmas.List.Elements.{All-cons, All-nil}
use Rattle.cn_table.specs.TypeTable.{TypeTable}
use Rattle.cn_meetings.specs.Meeting.{Sight}
use Rattle.cn_trees.specs.Consensus.{steps_of}
use Rattle.cn_trees.specs.Tree.{AreWitnesses, IsOfType, PlanTree, Teams, members, nodes_in, processes_of}
use Rattle.cn_trees.specs.Tree.Teams.{Alone, Last, Meet}
use Rattle.cn_tree_costs.specs.Cost.{IsTreeFor, IsUniform, cost, total}
use Rattle.cn_tree_costs.specs.Nodes.{node_at, node_below}
use Rattle.cn_tree_costs.specs.Outline.{AreGroups, Outline, groups_in, members_in, sizes_in, steps_in, sum_in}
use Rattle.cn_tree_costs.specs.Outline.Outline.{End, Group, One}
use Rattle.cn_tree_costs.specs.Sizes.{HasSizes, price, sizes_of}
use Rattle.cn_tree_costs.proofs.NodesOf.{meet_nodes}
use Rattle.cn_tree_costs.proofs.Numbers.{greatest_from, sizes_sum, sum_cons, total_first, total_plus, total_same}
use Rattle.cn_tree_costs.proofs.Steps.{steps_are, total_under, under, under_first, under_later}
use Rattle.cn_tree_costs.proofs.Witnesses.{shrink, shrink_has, shrink_sum, sizes_at}

pub members_sum : (s : Outline) → sum (sizes_in s) ≡ members_in s
members_sum End = refl
members_sum (One r) = omega (arith, sum_cons 1 (sizes_in r), members_sum r)
members_sum (Group k s r) = omega (arith, sum_cons (members_in s) (sizes_in r), members_sum r)

-- the teams of both
abbrev pub join : Outline → Outline → Outline
join End q = q
join (One r) q = One (join r q)
join (Group k s r) q = Group k s (join r q)

pub join_sizes : (p q : Outline) → sizes_in (join p q) ≡ sizes_in p ++ sizes_in q
join_sizes End q = refl
join_sizes (One r) q = ap (λ (x : List ℕ). 1 ∷ x) (join_sizes r q)
join_sizes (Group k s r) q = ap (λ (x : List ℕ). members_in s ∷ x) (join_sizes r q)

pub join_steps : (p q : Outline) → steps_in (join p q) ≡ max (steps_in p) (steps_in q)
join_steps End q = omega arith
join_steps (One r) q = join_steps r q
join_steps (Group k s r) q = omega (arith, join_steps r q)

pub join_groups : (p q : Outline) → groups_in (join p q) ≡ groups_in p + groups_in q
join_groups End q = omega arith
join_groups (One r) q = join_groups r q
join_groups (Group k s r) q = omega (arith, join_groups r q)

pub join_sum : (p q : Outline) → sum_in (join p q) ≡ sum_in p + sum_in q
join_sum End q = omega arith
join_sum (One r) q = join_sum r q
join_sum (Group k s r) q = omega (arith, join_sum r q)

pub join_are : (t : TypeTable) (allowed : Sight → Bool) (p q : Outline) → AreGroups t allowed p → AreGroups t allowed q → AreGroups t allowed (join p q)
join_are t allowed End q hp hq = hq
join_are t allowed (One r) q hp hq = join_are t allowed r q hp hq
join_are t allowed (Group k s r) q hp hq = (hp.0, hp.1, hp.2, hp.3, join_are t allowed r q hp.4 hq)

-- an outline for teams of these sizes, within this many steps, objects, and steps of all
pub record Grown (t : TypeTable) (allowed : Sight → Bool) (sizes : List ℕ) (b n y : ℕ) : Type 0 where
  pub outline : Outline
  pub proper : AreGroups t allowed outline
  pub sizes_are : sizes_in outline ≡ sizes
  pub within : steps_in outline ≤ b
  pub few : groups_in outline ≤ n
  pub light : sum_in outline ≤ y

weaker : (t : TypeTable) (allowed : Sight → Bool) (sizes : List ℕ) (b n y b' n' y' : ℕ) → b ≤ b' → n ≤ n' → y ≤ y' → Grown t allowed sizes b n y → Grown t allowed sizes b' n' y'
weaker t allowed sizes b n y b' n' y' lb ln ly g = record {
  outline = g.outline;
  proper = g.proper;
  sizes_are = g.sizes_are;
  within = (let w = g.within in omega arith);
  few = (let f = g.few in omega arith);
  light = (let l = g.light in omega arith);
}

joined : (t : TypeTable) (allowed : Sight → Bool) (m : ℕ) (sizes : List ℕ) (b n y n' y' : ℕ) → Grown t allowed (m ∷ []) b n y → Grown t allowed sizes b n' y' → Grown t allowed (m ∷ sizes) b (n + n') (y + y')
joined t allowed m sizes b n y n' y' g h = record {
  outline = join g.outline h.outline;
  proper = join_are t allowed g.outline h.outline g.proper h.proper;
  sizes_are = join_sizes g.outline h.outline ∙ rw (g.sizes_are, h.sizes_are) refl;
  within = (let v = g.within in let w = h.within in omega (arith, join_steps g.outline h.outline));
  few = (let v = g.few in let w = h.few in omega (arith, join_groups g.outline h.outline));
  light = (let v = g.light in let w = h.light in omega (arith, join_sum g.outline h.outline));
}

shrink_inhabited : (sizes : List ℕ) → All (λ m. 1 ≤ m) (shrink sizes)
shrink_inhabited [] = All-nil (λ m. 1 ≤ m)
shrink_inhabited (zero ∷ sizes) = shrink_inhabited sizes
shrink_inhabited (suc m ∷ sizes) = All-cons (λ k. 1 ≤ k) (suc m) (shrink sizes) (omega arith) (shrink_inhabited sizes)

shrink_some : (m : ℕ) (sizes : List ℕ) → 1 ≤ m → shrink (m ∷ sizes) ≡ m ∷ shrink sizes
shrink_some zero sizes le = absurd (omega arith)
shrink_some (suc m) sizes le = refl

shrink_none : (m : ℕ) (sizes : List ℕ) → m < 1 → shrink (m ∷ sizes) ≡ shrink sizes
shrink_none zero sizes lt = refl
shrink_none (suc m) sizes lt = absurd (omega arith)

-- a node with some process: a group, or its only team
one_team : (t : TypeTable) (allowed : Sight → Bool) (k : Sight) (sizes : List ℕ) (m b n y : ℕ) → allowed k ≡ true → HasSizes t k sizes → sum sizes ≡ m → 1 ≤ m → Grown t allowed (shrink sizes) b n y
    → Grown t allowed (m ∷ []) (b + price k) (1 + n) (y + m * price k)
one_team t allowed k sizes m b n y is has whole some g = go (shrink sizes) refl
  where
    total_is : sum (shrink sizes) ≡ m
    total_is = shrink_sum sizes ∙ whole

    members_are : members_in g.outline ≡ m
    members_are = sym (members_sum g.outline) ∙ (ap sum g.sizes_are ∙ total_is)

    go : (l : List ℕ) → shrink sizes ≡ l → Grown t allowed (m ∷ []) (b + price k) (1 + n) (y + m * price k)
    go [] e = absurd (let z : 0 ≡ m = sym (ap sum e) ∙ total_is in omega arith)
    go (a ∷ []) e =
        let z : sum (a ∷ []) ≡ m = sym (ap sum e) ∙ total_is in
        let same : a ≡ m = omega (arith, sum_cons a []) in
        record {
          outline = g.outline;
          proper = g.proper;
          sizes_are = g.sizes_are ∙ (e ∙ ap (λ (x : ℕ). x ∷ []) same);
          within = (let w = g.within in omega arith);
          few = (let f = g.few in omega arith);
          light = (let l = g.light in omega arith);
        }
    go (a ∷ c ∷ l) e = record {
      outline = Group k g.outline End;
      proper = (
        is,
        subst (HasSizes t k) (sym g.sizes_are) (shrink_has t k sizes has),
        record {
          whole = members_sum g.outline;
          several = (let z : length (sizes_in g.outline) ≡ suc (suc (length l)) = ap length (g.sizes_are ∙ e) in omega arith);
          inhabited = subst (All (λ q. 1 ≤ q)) (sym g.sizes_are) (shrink_inhabited sizes);
        },
        g.proper,
        tt,
      );
      sizes_are = ap (λ (x : ℕ). x ∷ []) members_are;
      within = (let w = g.within in omega arith);
      few = (let f = g.few in omega arith);
      light = (let l = g.light in let z : members_in g.outline * price k ≡ m * price k = ap (λ (x : ℕ). x * price k) members_are in omega arith);
    }

-- ---- from the teams of a tree
module _ (t : TypeTable) (allowed : Sight → Bool) (sights : ℕ → Sight) (each : (v : ℕ) → allowed (sights v) ≡ true) where
  abbrev prices : ℕ → ℕ
  prices v = price (sights v)

  abbrev HaveSizes : Teams → ℕ → Type 0
  HaveSizes u next = (v : ℕ) → v < nodes_in u → 0 < members (node_below u v).teams → HasSizes t (sights (next + v)) (sizes_of (node_below u v).teams)

  abbrev FromTeams : Teams → ℕ → ℕ → Type 0
  FromTeams u next b = Grown t allowed (shrink (sizes_of u)) b (nodes_in u) (total (under prices u next) (members u))

  have_here : (s r : Teams) (next : ℕ) → HaveSizes (Meet s r) next → 0 < members s → HasSizes t (sights next) (sizes_of s)
  have_here s r next has some = let e : next + zero ≡ next = omega arith in rw e at (has zero (omega arith) some)

  have_first : (s r : Teams) (next : ℕ) → HaveSizes (Meet s r) next → HaveSizes s (next + 1)
  have_first s r next has v lv =
      meet_nodes (λ w x. w ≡ suc v → (0 < members x.teams → HasSizes t (sights (next + w)) (sizes_of x.teams)) → 0 < members (node_below s v).teams → HasSizes t (sights (next + 1 + v)) (sizes_of (node_below s v).teams)) s r
      (λ e h some. absurd (omega arith))
      (λ w lw e h some. (let same : w ≡ v = omega arith in let d : next + suc w ≡ next + 1 + v = omega arith in
      subst (λ n. HasSizes t (sights n) (sizes_of (node_below s v).teams)) d (subst (λ n. HasSizes t (sights (next + suc w)) (sizes_of (node_below s n).teams)) same (h (subst (λ n. 0 < members (node_below s n).teams) (sym same) some)))))
      (λ w le e h some. absurd (omega arith)) (suc v) refl (has (suc v) (omega arith))

  have_later : (s r : Teams) (next : ℕ) → HaveSizes (Meet s r) next → HaveSizes r (next + 1 + nodes_in s)
  have_later s r next has v lv =
      meet_nodes (λ w x. w ≡ suc (nodes_in s + v) → (0 < members x.teams → HasSizes t (sights (next + w)) (sizes_of x.teams)) → 0 < members (node_below r v).teams → HasSizes t (sights (next + 1 + nodes_in s + v)) (sizes_of (node_below r v).teams)) s r
      (λ e h some. absurd (omega arith))
      (λ w lw e h some. absurd (omega arith))
      (λ w le e h some. (let same : w - nodes_in s ≡ v = omega arith in let d : next + suc w ≡ next + 1 + nodes_in s + v = omega arith in
      subst (λ n. HasSizes t (sights n) (sizes_of (node_below r v).teams)) d (subst (λ n. HasSizes t (sights (next + suc w)) (sizes_of (node_below r n).teams)) same (h (subst (λ n. 0 < members (node_below r n).teams) (sym same) some)))))
      (suc (nodes_in s + v)) refl (has (suc (nodes_in s + v)) (omega arith))

  from_teams : (u : Teams) (next b : ℕ) → HaveSizes u next → ((p : ℕ) → p < members u → under prices u next p ≤ b) → FromTeams u next b
  from_teams Last next b has bound = record { outline = End; proper = tt; sizes_are = refl; within = omega arith; few = omega arith; light = omega arith }
  from_teams (Alone r) next b has bound = lone (from_teams r next b has (λ p lt. bound (suc p) (omega arith)))
    where
      lone : FromTeams r next b → FromTeams (Alone r) next b
      lone g = record {
        outline = One g.outline;
        proper = g.proper;
        sizes_are = ap (λ (x : List ℕ). 1 ∷ x) g.sizes_are;
        within = g.within;
        few = g.few;
        light = (let l = g.light in let e : 1 + members r ≡ suc (members r) = omega arith in rw e (omega (arith, total_first (under prices (Alone r) next) (members r))));
      }
  from_teams (Meet s r) next b has bound =
      meeting
      (λ some. from_teams s (next + 1) (b - prices next) (have_first s r next has) (λ p lt. let h = bound p (omega arith) in omega (arith, under_first prices s r next p lt)))
      (from_teams r (next + 1 + nodes_in s) b (have_later s r next has) (λ p lt. let h = bound (members s + p) (omega arith) in omega (arith, under_later prices s r next p)))
    where
      meeting : (0 < members s → FromTeams s (next + 1) (b - prices next)) → FromTeams r (next + 1 + nodes_in s) b → FromTeams (Meet s r) next b
      meeting first rest = elim (cases_lt (members s) 1) [
        | inl none ↦ rw (shrink_none (members s) (sizes_of r) none)
            (weaker t allowed (shrink (sizes_of r)) b (nodes_in r) (total (under prices r (next + 1 + nodes_in s)) (members r)) b (1 + nodes_in s + nodes_in r) (total (under prices (Meet s r) next) (members s + members r))
            (omega arith) (omega arith) (omega (arith, total_under prices s r next)) rest)
        | inr some ↦ rw (shrink_some (members s) (sizes_of r) some)
            (let g = one_team t allowed (sights next) (sizes_of s) (members s) (b - prices next) (nodes_in s) (total (under prices s (next + 1)) (members s)) (each next) (have_here s r next has some) (sizes_sum s) some (first some) in
            let paid : b - prices next + prices next ≤ b = (let h = bound 0 (omega arith) in let u = under_first prices s r next 0 some in omega arith) in
            weaker t allowed (members s ∷ shrink (sizes_of r)) b (1 + nodes_in s + nodes_in r) (total (under prices s (next + 1)) (members s) + members s * prices next + total (under prices r (next + 1 + nodes_in s)) (members r)) b
            (1 + nodes_in s + nodes_in r) (total (under prices (Meet s r) next) (members s + members r))
            (omega arith) (omega arith) (omega (arith, total_under prices s r next))
            (joined t allowed (members s) (shrink (sizes_of r)) b (1 + nodes_in s) (total (under prices s (next + 1)) (members s) + members s * prices next) (nodes_in r) (total (under prices r (next + 1 + nodes_in s)) (members r))
            (weaker t allowed (members s ∷ []) (b - prices next + prices next) (1 + nodes_in s) (total (under prices s (next + 1)) (members s) + members s * prices next) b (1 + nodes_in s) (total (under prices s (next + 1)) (members s) + members s * prices next) paid (omega arith) (omega arith) g)
            rest))
      ]

-- every tree has an outline that costs no more
module _ (allowed : Sight → Bool) (T : PlanTree) (witnesses : AreWitnesses T) (of_type : IsOfType T) (uniform : IsUniform allowed T) where
  abbrev pub own_sights : ℕ → Sight
  own_sights v = (uniform v).0

  abbrev pub own_prices : ℕ → ℕ
  own_prices v = price (own_sights v)

  abbrev lower_sum : ℕ
  lower_sum = total (under own_prices T.teams 1) (members T.teams)

  pub own_steps : (p : ℕ) → p < processes_of T → steps_of T p ≡ under own_prices T.teams 1 p + own_prices 0
  own_steps p lp = steps_are T own_sights (λ v q h. (uniform v).2 q h) p lp

  own_sum : (cost T).sum ≡ lower_sum + members T.teams * own_prices 0
  own_sum = total_same (steps_of T) (λ p. under own_prices T.teams 1 p + own_prices 0) (processes_of T) own_steps ∙ total_plus (under own_prices T.teams 1) (own_prices 0) (members T.teams)

  pub own_has : (v : ℕ) → 0 < members (node_at T.teams v).teams → HasSizes T.table (own_sights v) (sizes_of (node_at T.teams v).teams)
  own_has v some = sizes_at T witnesses of_type v (own_sights v) (λ p h. (uniform v).2 p h) some

  within_cost : (p : ℕ) → p < members T.teams → under own_prices T.teams 1 p ≤ (cost T).steps - own_prices 0
  within_cost p lp = let g = greatest_from (steps_of T) (processes_of T) p lp in omega (arith, own_steps p lp)

  pub outline_of : 1 ≤ members T.teams → Grown T.table allowed (members T.teams ∷ []) (cost T).steps (cost T).nodes (cost T).sum
  outline_of some =
      let g = from_teams T.table allowed own_sights (λ v. (uniform v).1) T.teams 1 ((cost T).steps - own_prices 0) (λ v lv more. let e : 1 + v ≡ suc v = omega arith in rw e (own_has (suc v) more)) within_cost in
      let paid : (cost T).steps - own_prices 0 + own_prices 0 ≤ (cost T).steps = (let a = greatest_from (steps_of T) (processes_of T) 0 some in let b = own_steps 0 some in omega arith) in
      weaker T.table allowed (members T.teams ∷ []) ((cost T).steps - own_prices 0 + own_prices 0) (1 + nodes_in T.teams) (lower_sum + members T.teams * own_prices 0) (cost T).steps (cost T).nodes (cost T).sum
      paid (omega arith) (omega (arith, own_sum))
      (one_team T.table allowed (own_sights 0) (sizes_of T.teams) (members T.teams) ((cost T).steps - own_prices 0) (nodes_in T.teams) lower_sum (uniform 0).1 (own_has 0 some) (sizes_sum T.teams) some g)

pub outline_of_tree : (t : TypeTable) (allowed : Sight → Bool) (n : ℕ) (T : PlanTree) → IsTreeFor t allowed n T → 1 ≤ n → Grown t allowed (n ∷ []) (cost T).steps (cost T).nodes (cost T).sum
outline_of_tree t allowed n T tree some =
    subst (λ x. Grown x allowed (n ∷ []) (cost T).steps (cost T).nodes (cost T).sum) tree.table
    (subst (λ m. Grown T.table allowed (m ∷ []) (cost T).steps (cost T).nodes (cost T).sum) tree.processes
    (outline_of allowed T tree.witnesses tree.of_type tree.uniform (let e = tree.processes in omega arith)))
