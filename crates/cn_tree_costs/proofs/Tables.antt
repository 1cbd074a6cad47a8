-- The recursion gives the costs of least plans.
use Rattle.std.proofs.Common.{ℕ, zero, suc, ◌≡◌, Bool, ◌+◌, ◌-◌, ◌*◌, ◌<◌, ◌≤◌, ◌⊎◌, ◌↔◌, List, [], ◌∷◌, Option, Some, None, IsSome, refl, sym, ap, ◌∙◌, subst, arith, inl, inr, true≢false}
use Rattle.std.specs.Prelude.{All, Contains, IsPermutation, sum, sum_by}
use Rattle.std.proofs.lemmas.Bool.{cases_lt}
use Rattle.std.proofs.lemmas.List.Elements.{All-cons, All-head, All-nil, All-tail, All-weaker}
use Rattle.std.proofs.lemmas.List.Sorted.{All-permutation, sum_by-IsPermutation}
use Rattle.std.proofs.lemmas.List.Sums.{sum_by-cons}
use Rattle.std.proofs.Math.Nat.{mul-le-mul_left}
use Rattle.cn_table.specs.TypeTable.{TypeTable}
use Rattle.cn_meetings.specs.Meeting.{Sight}
use Rattle.cn_trees.specs.Tree.{PlanTree}
use Rattle.cn_tree_costs.specs.Cost.{IsLeastPlan, IsLess, IsTreeFor, cost}
use Rattle.cn_tree_costs.specs.Least.{AreRoots, IsAtMost, IsLoadTable, IsRoot, Load, LoadTable, Root, load_of_teams, plus}
use Rattle.cn_tree_costs.specs.Outline.{AreGroups, Outline, groups_in, members_in, sizes_in, steps_in, sum_in}
use Rattle.cn_tree_costs.specs.Outline.Outline.{End, Group, One}
use Rattle.cn_tree_costs.specs.Sizes.{price}
use Rattle.cn_tree_costs.proofs.Growing.{Raised, raised, same_cost}
use Rattle.cn_tree_costs.proofs.Loads.{AreParts, at_most_trans, nodes_or, plus_some, sum_or}
use Rattle.cn_tree_costs.proofs.Numbers.{fewer_each, price_few, two_or_more}
use Rattle.cn_tree_costs.proofs.Outlines.{Grown, members_sum, join, join_groups, join_are, join_sizes, join_sum, join_steps, outline_of_tree}

-- ---- loads
abbrev load : ℕ → ℕ → Load
load n y = record { nodes = n; sum = y }

abbrev root_of : Sight → List ℕ → Root
root_of k sizes = record { sight = k; sizes = sizes }

abbrev both : Load → Load → Load
both x y = load (x.nodes + y.nodes) (x.sum + y.sum)

at_most_both : (x x' y y' : Load) → IsAtMost x x' → IsAtMost y y' → IsAtMost (both x y) (both x' y')
at_most_both x x' y y' (inl h) (inl k) = inl (omega arith)
at_most_both x x' y y' (inl h) (inr k) = inl (let a = k.0 in omega arith)
at_most_both x x' y y' (inr h) (inl k) = inl (let a = h.0 in omega arith)
at_most_both x x' y y' (inr h) (inr k) = inr ((let a = h.0 in let b = k.0 in omega arith), (let a = h.1 in let b = k.1 in omega arith))

at_most_on : (x y z : Load) → IsAtMost x y → y.nodes ≤ z.nodes → y.sum ≤ z.sum → IsAtMost x z
at_most_on x y z (inl h) n s = inl (omega arith)
at_most_on x y z (inr h) n s = let a = h.0 in let b = h.1 in elim (cases_lt y.nodes z.nodes) [
  | inl lt ↦ inl (omega arith)
  | inr ge ↦ inr (omega arith, omega arith)
]

-- ---- the loads of teams in another order
record IsLoadOf (best : LoadTable) (b : ℕ) (sizes : List ℕ) (z : Load) : Type 0 where
  pub each : All (λ m. IsSome (best m b)) sizes
  pub nodes_are : z.nodes ≡ sum_by (λ m. nodes_or (best m b)) sizes
  pub sum_is : z.sum ≡ sum_by (λ m. sum_or (best m b)) sizes

load_parts : (best : LoadTable) (b : ℕ) (sizes : List ℕ) (z : Load) → load_of_teams best b sizes ≡ Some z → IsLoadOf best b sizes z
load_parts best b [] z e =
    let same : load 0 0 ≡ z = cc in
    record { each = All-nil (λ m. IsSome (best m b)); nodes_are = sym (ap (λ (l : Load). l.nodes) same); sum_is = sym (ap (λ (l : Load). l.sum) same) }
load_parts best b (m ∷ sizes) z e =
    let parts = plus_some (best m b) (load_of_teams best b sizes) z e in
    let rest = load_parts best b sizes parts.y parts.rest in
    record {
      each = All-cons (λ q. IsSome (best q b)) m sizes (rw parts.first refl) rest.each;
      nodes_are = (let n = parts.nodes_are in let r = rest.nodes_are in let f : nodes_or (best m b) ≡ parts.x.nodes = ap nodes_or parts.first in omega (arith, sum_by-cons (λ q. nodes_or (best q b)) m sizes));
      sum_is = (let n = parts.sum_is in let r = rest.sum_is in let f : sum_or (best m b) ≡ parts.x.sum = ap sum_or parts.first in omega (arith, sum_by-cons (λ q. sum_or (best q b)) m sizes));
    }

load_from : (best : LoadTable) (b : ℕ) (sizes : List ℕ) (z : Load) → IsLoadOf best b sizes z → load_of_teams best b sizes ≡ Some z
load_from best b [] z is = same_load 0 0 z.nodes z.sum (sym is.nodes_are) (sym is.sum_is)
  where
    same_load : (n y n' y' : ℕ) → n ≡ n' → y ≡ y' → Some (load n y) ≡ Some (load n' y')
    same_load n y n' y' e f = rw (e, f) refl
load_from best b (m ∷ sizes) z is =
    from (best m b) refl (All-head (λ q. IsSome (best q b)) m sizes is.each)
    (λ y n s. load_from best b sizes y (record { each = All-tail (λ q. IsSome (best q b)) m sizes is.each; nodes_are = n; sum_is = s }))
  where
    same_load : (n y n' y' : ℕ) → n ≡ n' → y ≡ y' → Some (load n y) ≡ Some (load n' y')
    same_load n y n' y' e f = rw (e, f) refl

    from : (o : Option Load) → best m b ≡ o → IsSome o → ((y : Load) → y.nodes ≡ sum_by (λ q. nodes_or (best q b)) sizes → y.sum ≡ sum_by (λ q. sum_or (best q b)) sizes → load_of_teams best b sizes ≡ Some y)
        → load_of_teams best b (m ∷ sizes) ≡ Some z
    from None e some rest = absurd (true≢false (sym some))
    from (Some x) e some rest =
        let y : Load = load (sum_by (λ q. nodes_or (best q b)) sizes) (sum_by (λ q. sum_or (best q b)) sizes) in
        let f : nodes_or (best m b) ≡ x.nodes = rw e refl in
        let g : sum_or (best m b) ≡ x.sum = rw e refl in
        let n = is.nodes_are in let s = is.sum_is in
        rw (e, rest y refl refl) (same_load (x.nodes + y.nodes) (x.sum + y.sum) z.nodes z.sum (omega (arith, sum_by-cons (λ q. nodes_or (best q b)) m sizes)) (omega (arith, sum_by-cons (λ q. sum_or (best q b)) m sizes)))

load_shuffled : (best : LoadTable) (b : ℕ) (xs ys : List ℕ) (z : Load) → IsPermutation xs ys → load_of_teams best b xs ≡ Some z → load_of_teams best b ys ≡ Some z
load_shuffled best b xs ys z shuffled e =
    let parts = load_parts best b xs z e in
    load_from best b ys z (record {
      each = All-permutation (λ m. IsSome (best m b)) xs ys shuffled parts.each;
      nodes_are = parts.nodes_are ∙ sym (sum_by-IsPermutation (λ m. nodes_or (best m b)) xs ys shuffled);
      sum_is = parts.sum_is ∙ sym (sum_by-IsPermutation (λ m. sum_or (best m b)) xs ys shuffled);
    })

-- an outline is within four steps for each process but one
steps_few : (t : TypeTable) (allowed : Sight → Bool) (s : Outline) (c : ℕ) → AreGroups t allowed s → All (λ m. 4 * m ≤ c + 4) (sizes_in s) → steps_in s ≤ c
steps_few t allowed End c proper each = omega arith
steps_few t allowed (One r) c proper each = steps_few t allowed r c proper (All-tail (λ m. 4 * m ≤ c + 4) 1 (sizes_in r) each)
steps_few t allowed (Group k s r) c proper each =
    let h : 4 * members_in s ≤ c + 4 = All-head (λ m. 4 * m ≤ c + 4) (members_in s) (sizes_in r) each in
    let two = two_or_more (members_in s) (sizes_in s) proper.2 in
    let few = (price_few k).1 in
    let first = steps_few t allowed s (c - 4) proper.3
    (All-weaker (λ m. (1 ≤ m) × (m < members_in s)) (λ m. 4 * m ≤ c - 4 + 4) (λ m z. (let y = z.1 in omega arith)) (sizes_in s) (fewer_each (members_in s) (sizes_in s) proper.2)) in
    let rest = steps_few t allowed r c proper.4 (All-tail (λ m. 4 * m ≤ c + 4) (members_in s) (sizes_in r) each) in
    omega arith

-- two or more processes are a group
pub group_of_tree : (t : TypeTable) (allowed : Sight → Bool) (n : ℕ) (T : PlanTree) → 2 ≤ n → IsTreeFor t allowed n T
    → (k : Sight) × (o : Outline) × AreGroups t allowed (Group k o End) × (members_in o ≡ n) × (steps_in o + price k ≤ (cost T).steps) × (1 + groups_in o ≤ (cost T).nodes) × (sum_in o + members_in o * price k ≤ (cost T).sum)
group_of_tree t allowed n T two tree =
    let g = outline_of_tree t allowed n T tree (omega arith) in
    from g.outline g.proper g.sizes_are g.within g.few g.light
  where
    from : (o : Outline) → AreGroups t allowed o → sizes_in o ≡ n ∷ [] → steps_in o ≤ (cost T).steps → groups_in o ≤ (cost T).nodes → sum_in o ≤ (cost T).sum
        → (k : Sight) × (o : Outline) × AreGroups t allowed (Group k o End) × (members_in o ≡ n) × (steps_in o + price k ≤ (cost T).steps) × (1 + groups_in o ≤ (cost T).nodes) × (sum_in o + members_in o * price k ≤ (cost T).sum)
    from End are sizes w f l = absurd cc
    from (One r) are sizes w f l = let e : 1 ≡ n = cc in absurd (omega arith)
    from (Group k s (One r)) are sizes w f l = absurd cc
    from (Group k s (Group j u r)) are sizes w f l = absurd cc
    from (Group k s End) are sizes w f l = let e : members_in s ≡ n = cc in (k, s, are, e, omega arith, omega arith, omega arith)

module _ (t : TypeTable) (allowed : Sight → Bool) (most top : ℕ) (best : LoadTable) (roots : ℕ → List Root) (are : AreRoots t allowed most roots) (is : IsLoadTable roots most top best) where
  -- ---- what the table has is the load of an outline
  record Built (sizes : List ℕ) (b : ℕ) (x : Load) : Type 0 where
    pub outline : Outline
    pub proper : AreGroups t allowed outline
    pub sizes_are : sizes_in outline ≡ sizes
    pub within : steps_in outline ≤ b
    pub nodes_are : groups_in outline ≡ x.nodes
    pub sum_is : sum_in outline ≡ x.sum

  -- several teams, from each
  list_built : (bound b : ℕ) → ((m : ℕ) (y : Load) → 1 ≤ m → m ≤ bound → best m b ≡ Some y → Built (m ∷ []) b y) → (sizes : List ℕ) → All (λ m. (1 ≤ m) × (m ≤ bound)) sizes
      → (x : Load) → load_of_teams best b sizes ≡ Some x → Built sizes b x
  list_built bound b each [] all x e =
      let same : load 0 0 ≡ x = cc in
      record { outline = End; proper = tt; sizes_are = refl; within = omega arith; nodes_are = ap (λ (l : Load). l.nodes) same; sum_is = ap (λ (l : Load). l.sum) same }
  list_built bound b each (m ∷ sizes) all x e =
      let parts = plus_some (best m b) (load_of_teams best b sizes) x e in
      let h : (1 ≤ m) × (m ≤ bound) = All-head (λ q. (1 ≤ q) × (q ≤ bound)) m sizes all in
      let f = each m parts.x h.0 h.1 parts.first in
      let g = list_built bound b each sizes (All-tail (λ q. (1 ≤ q) × (q ≤ bound)) m sizes all) parts.y parts.rest in
      record {
        outline = join f.outline g.outline;
        proper = join_are t allowed f.outline g.outline f.proper g.proper;
        sizes_are = join_sizes f.outline g.outline ∙ rw (f.sizes_are, g.sizes_are) refl;
        within = (let v = f.within in let w = g.within in omega (arith, join_steps f.outline g.outline));
        nodes_are = (let v = f.nodes_are in let w = g.nodes_are in let z = parts.nodes_are in omega (arith, join_groups f.outline g.outline));
        sum_is = (let v = f.sum_is in let w = g.sum_is in let z = parts.sum_is in omega (arith, join_sum f.outline g.outline));
      }

  one_alone : (b : ℕ) (y : Load) → b ≤ top → best 1 b ≡ Some y → Built (1 ∷ []) b y
  one_alone b y lb e =
      let a = is.alone b lb in
      let same : load 0 0 ≡ y = cc in
      record { outline = One End; proper = tt; sizes_are = refl; within = omega arith; nodes_are = ap (λ (l : Load). l.nodes) same; sum_is = ap (λ (l : Load). l.sum) same }

  one_group : (n b : ℕ) (y : Load) (k : Sight) (sizes : List ℕ) → IsRoot t allowed n (root_of k sizes) → price k ≤ b → (parts : AreParts (Some (load 1 (n * price k))) (load_of_teams best (b - price k) sizes) y) → Built sizes (b - price k) parts.y → Built (n ∷ []) b y
  one_group n b y k sizes root c parts g =
      let same : load 1 (n * price k) ≡ parts.x = (let f = parts.first in cc) in
      let whole : members_in g.outline ≡ n = sym (members_sum g.outline) ∙ (ap sum g.sizes_are ∙ root.division.whole) in
      record {
        outline = Group k g.outline End;
        proper = (
          root.is_allowed,
          rw g.sizes_are root.witness,
          rw (g.sizes_are, whole) root.division,
          g.proper,
          tt,
        );
        sizes_are = ap (λ (m : ℕ). m ∷ []) whole;
        within = (let w = g.within in omega arith);
        nodes_are = (let a : 1 ≡ parts.x.nodes = ap (λ (l : Load). l.nodes) same in let w = g.nodes_are in let z = parts.nodes_are in omega arith);
        sum_is = (let a : n * price k ≡ parts.x.sum = ap (λ (l : Load). l.sum) same in let w = g.sum_is in let z = parts.sum_is in let d : members_in g.outline * price k ≡ n * price k = ap (λ (m : ℕ). m * price k) whole in omega arith);
      }

  one_built : (fuel m b : ℕ) (y : Load) → 1 ≤ m → m ≤ fuel → m ≤ most → b ≤ top → best m b ≡ Some y → Built (m ∷ []) b y
  one_built zero m b y some lf lm lb e = absurd (omega arith)
  one_built (suc fuel) m b y some lf lm lb e = elim (cases_lt m 2) [
    | inl small ↦ (let one : m ≡ 1 = omega arith in rw one (one_alone b y lb (rw one at e)))
    | inr two ↦ larger two (λ c k z a l w d. one_built fuel k c z a l w d)
  ]
    where
      larger : 2 ≤ m → ((c k : ℕ) (z : Load) → 1 ≤ k → k ≤ fuel → k ≤ most → c ≤ top → best k c ≡ Some z → Built (k ∷ []) c z) → Built (m ∷ []) b y
      larger two below =
          let a = is.attained m b y two lm lb e in
          let k : Sight = a.0.sight in
          let sizes : List ℕ = a.0.sizes in
          let root = are.sound m a.0 a.1 in
          let paid = a.2 in
          let parts = plus_some (Some (load 1 (m * price k))) (load_of_teams best (b - price k) sizes) y a.3 in
          let shorter : All (λ q. (1 ≤ q) × (q ≤ m - 1)) sizes = All-weaker (λ q. (1 ≤ q) × (q < m)) (λ q. (1 ≤ q) × (q ≤ m - 1)) (λ q h. (h.0, (let l = h.1 in omega arith))) sizes (fewer_each m sizes root.division) in
          one_group m b y k sizes root paid parts
          (list_built (m - 1) (b - price k) (λ q z some' le e'. below (b - price k) q z some' (omega arith) (omega arith) (omega arith) e') sizes shorter parts.y parts.rest)

  raise : (n b : ℕ) (x : Load) (s : Outline) → 2 ≤ n → AreGroups t allowed s → sizes_in s ≡ n ∷ [] → steps_in s ≤ b → groups_in s ≡ x.nodes → sum_in s ≡ x.sum → Raised t allowed n b x.nodes x.sum
  raise n b x End two proper sizes w o y = absurd cc
  raise n b x (One r) two proper sizes w o y = let e : 1 ≡ n = cc in absurd (omega arith)
  raise n b x (Group k s (One r)) two proper sizes w o y = absurd cc
  raise n b x (Group k s (Group j u r)) two proper sizes w o y = absurd cc
  raise n b x (Group k s End) two proper sizes w o y =
      let r = raised t allowed k s proper in
      let e : members_in s ≡ n = cc in
      record {
        tree = r.tree;
        is = subst (λ m. IsTreeFor t allowed m r.tree) e r.is;
        within = (let z = r.within in omega arith);
        nodes_are = (let z = r.nodes_are in omega arith);
        sum_is = (let z = r.sum_is in omega arith);
      }

  pub tree_of_load : (n b : ℕ) (x : Load) → 2 ≤ n → n ≤ most → b ≤ top → best n b ≡ Some x → Raised t allowed n b x.nodes x.sum
  tree_of_load n b x two ln lb e =
      let g = one_built n n b x (omega arith) (omega arith) ln lb e in
      raise n b x g.outline two g.proper g.sizes_are g.within g.nodes_are g.sum_is

  -- ---- and it has no more than each outline
  abbrev HasLoad : ℕ → List ℕ → Load → Type 0
  HasLoad b sizes most_load = (z : Load) × (load_of_teams best b sizes ≡ Some z) × IsAtMost z most_load

  load_of_outline : (s : Outline) (b : ℕ) → b ≤ top → AreGroups t allowed s → All (λ m. m ≤ most) (sizes_in s) → steps_in s ≤ b → HasLoad b (sizes_in s) (load (groups_in s) (sum_in s))
  load_of_outline End b lb proper each w = (load 0 0, refl, inr (refl, omega arith))
  load_of_outline (One r) b lb proper each w =
      let h = load_of_outline r b lb proper (All-tail (λ m. m ≤ most) 1 (sizes_in r) each) w in (
        both (load 0 0) h.0,
        rw (is.alone b lb, h.1) refl,
        at_most_on (both (load 0 0) h.0) (both (load 0 0) (load (groups_in r) (sum_in r))) (load (groups_in r) (sum_in r))
            (at_most_both (load 0 0) (load 0 0) h.0 (load (groups_in r) (sum_in r)) (inr (refl, omega arith)) h.2) (omega arith) (omega arith),
      )
  load_of_outline (Group k s r) b lb proper each w =
      let listed = found in
      let cheaper = listed.2 in
      group listed.0.sight listed.0.sizes listed.1 listed.2 listed.3
      (load_of_outline s (b - price listed.0.sight) (omega arith) proper.3 (All-weaker (λ m. (1 ≤ m) × (m < members_in s)) (λ m. m ≤ most) (λ m z. (let y = z.1 in omega (arith, head))) (sizes_in s) (fewer_each (members_in s) (sizes_in s) proper.2)) (omega arith))
      (load_of_outline r b lb proper.4 (All-tail (λ m. m ≤ most) (members_in s) (sizes_in r) each) (omega arith))
    where
      head : members_in s ≤ most
      head = All-head (λ m. m ≤ most) (members_in s) (sizes_in r) each

      found : (other : Root) × Contains (roots (members_in s)) other × (price other.sight ≤ price k) × IsPermutation (sizes_in s) other.sizes
      found = are.enough (members_in s) (root_of k (sizes_in s)) head (record { is_allowed = proper.0; witness = proper.1; division = proper.2 })

      group : (other : Sight) (sizes : List ℕ) → Contains (roots (members_in s)) (root_of other sizes) → price other ≤ price k → IsPermutation (sizes_in s) sizes
          → HasLoad (b - price other) (sizes_in s) (load (groups_in s) (sum_in s)) → HasLoad b (sizes_in r) (load (groups_in r) (sum_in r))
          → HasLoad b (members_in s ∷ sizes_in r) (load (1 + groups_in s + groups_in r) (sum_in s + members_in s * price k + sum_in r))
      group other sizes listed cheaper shuffled g h =
          let node : Load = load 1 (members_in s * price other) in
          let own : Load = both node g.0 in
          let least = is.least (members_in s) b own (root_of other sizes) (two_or_more (members_in s) (sizes_in s) proper.2) head lb listed (omega arith)
          (rw (load_shuffled best (b - price other) (sizes_in s) sizes g.0 shuffled g.1) refl) in
          let less : IsAtMost own (both node (load (groups_in s) (sum_in s))) = at_most_both node node g.0 (load (groups_in s) (sum_in s)) (inr (refl, omega arith)) g.2 in
          let whole : IsAtMost (both least.0 h.0) (both (both node (load (groups_in s) (sum_in s))) (load (groups_in r) (sum_in r))) =
          at_most_both least.0 (both node (load (groups_in s) (sum_in s))) h.0 (load (groups_in r) (sum_in r)) (at_most_trans least.0 own (both node (load (groups_in s) (sum_in s))) least.2 less) h.2 in
          let m : members_in s * price other ≤ members_in s * price k = mul-le-mul_left (members_in s) cheaper in (
            both least.0 h.0,
            rw (least.1, h.1) refl,
            at_most_on (both least.0 h.0) (both (both node (load (groups_in s) (sum_in s))) (load (groups_in r) (sum_in r))) (load (1 + groups_in s + groups_in r) (sum_in s + members_in s * price k + sum_in r)) whole (omega arith) (omega arith),
          )

  -- within these steps the table has a load for n, and it is no more
  abbrev LoadWithin : ℕ → ℕ → Load → Type 0
  LoadWithin n b y = (x : Load) × (best n b ≡ Some x) × IsAtMost x y

  load_of_grown : (n b c : ℕ) (y : Load) → n ≤ most → b ≤ top → (g : Grown t allowed (n ∷ []) c y.nodes y.sum) → steps_in g.outline ≤ b → LoadWithin n b y
  load_of_grown n b c y ln lb g w =
      let h = load_of_outline g.outline b lb g.proper (rw g.sizes_are (All-cons (λ m. m ≤ most) n [] ln (All-nil (λ m. m ≤ most)))) w in
      let e : plus (best n b) (Some (load 0 0)) ≡ Some h.0 = subst (λ sizes. load_of_teams best b sizes ≡ Some h.0) g.sizes_are h.1 in
      let parts = plus_some (best n b) (Some (load 0 0)) h.0 e in
      let f = g.few in let l = g.light in
      let none : load 0 0 ≡ parts.y = (let r = parts.rest in cc) in
      let a : 0 ≡ parts.y.nodes = ap (λ (z : Load). z.nodes) none in
      let c' : 0 ≡ parts.y.sum = ap (λ (z : Load). z.sum) none in
      let p = parts.nodes_are in let q = parts.sum_is in
      (parts.x, parts.first, same_load parts.x h.0 y (omega arith) (omega arith) (at_most_on h.0 (load (groups_in g.outline) (sum_in g.outline)) y h.2 f l))
    where
      same_load : (x z y : Load) → z.nodes ≡ x.nodes → z.sum ≡ x.sum → IsAtMost z y → IsAtMost x y
      same_load x z y n s (inl h) = inl (omega arith)
      same_load x z y n s (inr h) = inr ((let a = h.0 in omega arith), (let a = h.1 in omega arith))

  pub load_of_tree : (n b : ℕ) (T : PlanTree) → 1 ≤ n → n ≤ most → b ≤ top → IsTreeFor t allowed n T → (cost T).steps ≤ b → LoadWithin n b (load (cost T).nodes (cost T).sum)
  load_of_tree n b T some ln lb tree w =
      let g = outline_of_tree t allowed n T tree some in
      load_of_grown n b (cost T).steps (load (cost T).nodes (cost T).sum) ln lb g (let v = g.within in omega arith)

  -- four steps for each process but one are enough
  pub load_of_any : (n : ℕ) (T : PlanTree) → 1 ≤ n → n ≤ most → 4 * (n - 1) ≤ top → IsTreeFor t allowed n T → LoadWithin n (4 * (n - 1)) (load (cost T).nodes (cost T).sum)
  load_of_any n T some ln lb tree =
      let g = outline_of_tree t allowed n T tree some in
      load_of_grown n (4 * (n - 1)) (cost T).steps (load (cost T).nodes (cost T).sum) ln lb g
      (steps_few t allowed g.outline (4 * (n - 1)) g.proper (rw g.sizes_are (All-cons (λ m. 4 * m ≤ 4 * (n - 1) + 4) n [] (omega arith) (All-nil (λ m. 4 * m ≤ 4 * (n - 1) + 4)))))

  -- ---- least plans
  module _ (n b : ℕ) (x : Load) (two : 2 ≤ n) (ln : n ≤ most) (lb : b ≤ top) (e : best n b ≡ Some x) (first : (c : ℕ) → c < b → best n c ≡ None) where
    raised_tree : Raised t allowed n b x.nodes x.sum
    raised_tree = tree_of_load n b x two ln lb e

    -- no tree has fewer steps
    not_fewer : (U : PlanTree) → IsTreeFor t allowed n U → (cost U).steps < b → ⊥
    not_fewer U tree lt =
        let h = load_of_tree n (cost U).steps U (omega arith) ln (omega arith) tree (omega arith) in
        let none = first (cost U).steps lt in
        let has = h.1 in
        absurd cc

    steps_are_b : (cost raised_tree.tree).steps ≡ b
    steps_are_b = elim (cases_lt (cost raised_tree.tree).steps b) [
      | inl lt ↦ absurd (not_fewer raised_tree.tree raised_tree.is lt)
      | inr ge ↦ (let w = raised_tree.within in omega arith)
    ]

    not_lighter : (U : PlanTree) → IsTreeFor t allowed n U → (cost U).steps ≤ b → IsAtMost x (load (cost U).nodes (cost U).sum)
    not_lighter U tree le =
        let h = load_of_tree n b U (omega arith) ln lb tree le in
        let same : h.0 ≡ x = (let a = h.1 in cc) in
        subst (λ z. IsAtMost z (load (cost U).nodes (cost U).sum)) same h.2

    not_less : (U : PlanTree) → IsTreeFor t allowed n U → IsLess (cost U) (cost raised_tree.tree) → ⊥
    not_less U tree (inl lt) = not_fewer U tree (let s = steps_are_b in omega arith)
    not_less U tree (inr h) = heavier h.1 (not_lighter U tree (let s = steps_are_b in let z = h.0 in omega arith))
      where
        heavier : ((cost U).nodes < (cost raised_tree.tree).nodes) ⊎ (((cost U).nodes ≡ (cost raised_tree.tree).nodes) × ((cost U).sum < (cost raised_tree.tree).sum)) → IsAtMost x (load (cost U).nodes (cost U).sum) → ⊥
        heavier (inl lt) (inl k) = let s = raised_tree.nodes_are in omega arith
        heavier (inl lt) (inr k) = let s = raised_tree.nodes_are in let z = k.0 in omega arith
        heavier (inr l) (inl k) = let s = raised_tree.nodes_are in let z = l.0 in omega arith
        heavier (inr l) (inr k) = let s = raised_tree.sum_is in let z = l.1 in let y = k.1 in omega arith

    pub least_plan : (T : PlanTree) × IsLeastPlan t allowed n T × (cost T ≡ record { steps = b; nodes = x.nodes; sum = x.sum })
    least_plan = (
      raised_tree.tree,
      record { tree = raised_tree.is; least = not_less },
      same_cost (cost raised_tree.tree).steps (cost raised_tree.tree).nodes (cost raised_tree.tree).sum b x.nodes x.sum steps_are_b raised_tree.nodes_are raised_tree.sum_is,
    )

    -- a least plan costs so
    pub cost_of_least : (T : PlanTree) → IsLeastPlan t allowed n T → cost T ≡ record { steps = b; nodes = x.nodes; sum = x.sum }
    cost_of_least T least = same_cost (cost T).steps (cost T).nodes (cost T).sum b x.nodes x.sum same_steps same_nodes same_sum
      where
        other : IsLess (record { steps = b; nodes = x.nodes; sum = x.sum }) (cost T) → ⊥
        other less = least.least least_plan.0 least_plan.1.tree (subst (λ c. IsLess c (cost T)) (sym least_plan.2) less)

        own : IsLess (cost T) (record { steps = b; nodes = x.nodes; sum = x.sum }) → ⊥
        own less = least_plan.1.least T least.tree (subst (IsLess (cost T)) (sym least_plan.2) less)

        same_steps : (cost T).steps ≡ b
        same_steps = elim (cases_lt (cost T).steps b) [
          | inl lt ↦ absurd (own (inl lt))
          | inr ge ↦ elim (cases_lt b (cost T).steps) [ inl lt ↦ absurd (other (inl lt)) | inr le ↦ omega arith ]
        ]

        same_nodes : (cost T).nodes ≡ x.nodes
        same_nodes = elim (cases_lt (cost T).nodes x.nodes) [
          | inl lt ↦ absurd (own (inr (same_steps, inl lt)))
          | inr ge ↦ elim (cases_lt x.nodes (cost T).nodes) [ inl lt ↦ absurd (other (inr (sym same_steps, inl lt))) | inr le ↦ omega arith ]
        ]

        same_sum : (cost T).sum ≡ x.sum
        same_sum = elim (cases_lt (cost T).sum x.sum) [
          | inl lt ↦ absurd (own (inr (same_steps, inr (same_nodes, lt))))
          | inr ge ↦ elim (cases_lt x.sum (cost T).sum) [ inl lt ↦ absurd (other (inr (sym same_steps, inr (sym same_nodes, lt)))) | inr le ↦ omega arith ]
        ]

  -- ---- whether there is a tree
  pub some_tree : (n : ℕ) → 2 ≤ n → n ≤ most → 4 * (n - 1) ≤ top → IsSome (best n (4 * (n - 1))) ↔ ((T : PlanTree) × IsTreeFor t allowed n T)
  some_tree n two ln lb = (λ s. from (best n (4 * (n - 1))) refl s, λ tree. (let h = load_of_any n tree.0 (omega arith) ln lb tree.1 in rw h.1 refl))
    where
      from : (o : Option Load) → best n (4 * (n - 1)) ≡ o → IsSome o → (T : PlanTree) × IsTreeFor t allowed n T
      from None e s = absurd (true≢false (sym s))
      from (Some x) e s = let r = tree_of_load n (4 * (n - 1)) x two ln lb e in (r.tree, r.is)
