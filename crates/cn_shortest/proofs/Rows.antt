-- Rows of loads.
use Rattle.std.proofs.Common.{ℕ, zero, suc, ◌≡◌, ◌+◌, ◌-◌, ◌*◌, ◌<◌, ◌≤◌, ◌⊎◌, inl, inr, List, [], ◌∷◌, ◌++◌, length, length-append, refl, sym, ap, ◌∙◌, subst, arith, Option, Some, None, get_or}
use Rattle.std.specs.Prelude.{Contains, slice_get}
use Rattle.std.proofs.lemmas.Bool.{cases_lt}
use Rattle.std.proofs.lemmas.Option.{none-some, slice_get-get_or, slice_get_past}
use Rattle.std.proofs.Math.ListN.{get_or-eq_default}
use Rattle.cn_meetings.specs.Sights.{sight_of}
use Rattle.cn_stocks.specs.Each.{EachAt}
use Rattle.cn_stocks.proofs.StockLemmas.{get_before, get_behind}
use Rattle.cn_tree_costs.specs.Least as least
use Rattle.cn_tree_costs.specs.Least.{IsAtMost, IsLoadTable, LoadTable, Root, load_of_root}
use Rattle.cn_tree_costs.specs.Sizes.{IsDivision, price}
use Rattle.cn_shortest.specs.Loads.{AreAllOf, IsEntry, IsSmallTable, all_roots, load_at, load_in, load_of, root_with, roots_at, roots_by, roots_in, table_of}
use Rattle.cn_shortest.specs.Sizes.{AreOf}
use Rattle.cn_shortest.specs.declared.loads.Load.{Load}
use Rattle.cn_shortest.specs.declared.loads.Row.{Row}
use Rattle.cn_shortest.specs.declared.roots.Roots.{Roots}
use Rattle.cn_shortest.proofs.Elements.{all_at, contains_flat, contains_mapped}
use Rattle.cn_shortest.proofs.Loading.{root_small, same_root}
use Rattle.cn_tree_costs.proofs.Loads.{nodes_or, sum_or}

pub read : (loads : List (Option Load)) (b : ℕ) → load_in (slice_get loads b) ≡ load_of (get_or loads b None)
read [] b = refl
read (x ∷ loads) zero = refl
read (x ∷ loads) (suc b) = read loads b

pub table_at : (rows : List Row) (place b : ℕ) (none : Row) → place < length rows → table_of rows (place + 1) b ≡ load_of (get_or (get_or rows place none).loads b None)
table_at rows place b none l =
    let p : place + 1 - 1 ≡ place = omega arith in
    ap (λ (i : ℕ). load_at (slice_get rows i) b) p ∙ (ap (λ (r : Option Row). load_at r b) (slice_get-get_or rows place none l) ∙ read (get_or rows place none).loads b)

-- the roots are those of divisions
pub division_in : (n : ℕ) (r : Roots) (root : Root) → AreAllOf n r → Contains (roots_in r) root → IsDivision n root.sizes
division_in n r root all h =
    let f = contains_flat roots_by r.by_sight.items root h in
    let x = f.1 in
    let m = contains_mapped (root_with (sight_of x.sight)) x.sizes.items root f.3 in
    subst (λ (y : Root). IsDivision n y.sizes) m.3 (all_at (λ s. AreOf n s.counts) x.sizes.items m.0 m.1 (all f.0 x f.2) m.2).division

pub division_at : (roots : List Roots) (all : (i : ℕ) (r : Roots) → slice_get roots i ≡ Some r → AreAllOf (i + 2) r) (n : ℕ) (root : Root) → 2 ≤ n → Contains (all_roots roots n) root → IsDivision n root.sizes
division_at roots all zero root two h = absurd (omega (arith, two))
division_at roots all (suc zero) root two h = absurd (omega (arith, two))
division_at roots all (suc (suc n)) root two h = go (slice_get roots n) refl h
  where
    go : (o : Option Roots) → slice_get roots n ≡ o → Contains (roots_at o) root → IsDivision (suc (suc n)) root.sizes
    go None e i = let l = i.1 in absurd (omega (arith, l))
    go (Some r) e i = let same : n + 2 ≡ suc (suc n) = omega arith in subst (λ m. IsDivision m root.sizes) same (division_in (n + 2) r root (all n r e) i)

module _ (roots : List Roots) (rows : List Row) (row : Row) (k : ℕ) (here : Roots) (long : length rows ≡ k + 1) (at : slice_get roots k ≡ Some here) (few : k < 7)
    (all : (i : ℕ) (r : Roots) → slice_get roots i ≡ Some r → AreAllOf (i + 2) r) (small : IsSmallTable (table_of rows)) (table : IsLoadTable (all_roots roots) (k + 1) 28 (table_of rows))
    (entries : EachAt (λ b load. IsEntry (table_of rows) (length rows + 1) b (roots_in here) load) 29 row.loads) where
  abbrev new : List Row
  new = rows ++ row ∷ []

  abbrev top : ℕ
  top = suc (suc k)

  before : (m b : ℕ) → 1 ≤ m → m < top → table_of new m b ≡ table_of rows m b
  before m b l u = ap (λ (o : Option Row). load_at o b) (get_before rows (row ∷ []) (m - 1) (omega (arith, l, u, long)))

  last_at : (b : ℕ) → table_of new top b ≡ load_of (get_or row.loads b None)
  last_at b =
      let g = get_behind rows (row ∷ []) (top - 1) (omega (arith, long)) in
      let z : g.0 ≡ 0 = (let e = g.1 in omega (arith, e, long)) in
      ap (λ (o : Option Row). load_at o b) (g.2 ∙ ap (slice_get (row ∷ [])) z) ∙ read row.loads b

  top_entry : (b : ℕ) → b ≤ 28 → IsEntry (table_of rows) top b (roots_in here) (get_or row.loads b None)
  top_entry b l =
      let e : length rows + 1 ≡ top = omega (arith, long) in
      subst (λ n. IsEntry (table_of rows) n b (roots_in here) (get_or row.loads b None)) e
      (entries.1 b (get_or row.loads b None) (slice_get-get_or row.loads b None (let n = entries.0 in omega (arith, n, l))))

  roots_top : all_roots roots top ≡ roots_in here
  roots_top = ap roots_at at

  -- the same load by both tables
  same_load : (n b : ℕ) (root : Root) → 2 ≤ n → n ≤ top → Contains (all_roots roots n) root → load_of_root (table_of new) n b root ≡ load_of_root (table_of rows) n b root
  same_load n b root two l h = same_root (table_of new) (table_of rows) n b root (λ m c lm um. before m c lm (omega (arith, um, l))) (division_at roots all n root two h)

  below_top : (n : ℕ) → n ≤ top → (n < top) ⊎ (n ≡ top)
  below_top n l = elim (cases_lt n top) [ inl m ↦ inl m | inr m ↦ inr (omega (arith, l, m)) ]

  attained_top : (b : ℕ) (x : least.Load) → b ≤ 28 → table_of new top b ≡ Some x → (root : Root) × Contains (all_roots roots top) root × (price root.sight ≤ b) × (load_of_root (table_of new) top b root ≡ Some x)
  attained_top b x lb e =
      let h = (top_entry b lb).attained x (sym (last_at b) ∙ e) in
      let i : Contains (all_roots roots top) h.0 = subst (λ (l : List Root). Contains l h.0) (sym roots_top) h.1 in
      (h.0, i, h.2, same_load top b h.0 (omega arith) (omega arith) i ∙ h.3)

  least_top : (b : ℕ) (y : least.Load) (root : Root) → b ≤ 28 → Contains (all_roots roots top) root → price root.sight ≤ b → load_of_root (table_of new) top b root ≡ Some y
      → (x : least.Load) × (table_of new top b ≡ Some x) × IsAtMost x y
  least_top b y root lb i paid e =
      let h = (top_entry b lb).least_is y (root, subst (λ (l : List Root). Contains l root) roots_top i, paid, sym (same_load top b root (omega arith) (omega arith) i) ∙ e) in
      (h.0, last_at b ∙ h.1, h.2)

  pub table_more : IsLoadTable (all_roots roots) (k + 2) 28 (table_of new)
  table_more = record {
    alone = λ b l. before 1 b (omega arith) (omega arith) ∙ table.alone b l;
    attained = λ n b x two most lb e. elim (below_top n (omega (arith, most))) [
      | inl l ↦ (let o = table.attained n b x two (omega (arith, l)) lb (sym (before n b (omega (arith, two)) l) ∙ e) in (o.0, o.1, o.2, same_load n b o.0 two (omega (arith, l)) o.1 ∙ o.3))
      | inr s ↦ subst (λ m. (root : Root) × Contains (all_roots roots m) root × (price root.sight ≤ b) × (load_of_root (table_of new) m b root ≡ Some x)) (sym s)
          (attained_top b x lb (ap (λ m. table_of new m b) (sym s) ∙ e))
    ];
    least = λ n b y root two most lb i paid e. elim (below_top n (omega (arith, most))) [
      | inl l ↦ (let o = table.least n b y root two (omega (arith, l)) lb i paid (sym (same_load n b root two (omega (arith, l)) i) ∙ e) in (o.0, before n b (omega (arith, two)) l ∙ o.1, o.2))
      | inr s ↦ subst (λ m. (x : least.Load) × (table_of new m b ≡ Some x) × IsAtMost x y) (sym s)
          (least_top b y root lb (subst (λ m. Contains (all_roots roots m) root) s i) paid (ap (λ m. load_of_root (table_of new) m b root) (sym s) ∙ e))
    ];
  }

  small_top : (b : ℕ) (x : least.Load) → table_of new top b ≡ Some x → (x.nodes + 1 ≤ top) × (x.sum ≤ 32 * x.nodes)
  small_top b x e = elim (cases_lt b 29) [
    | inl l ↦ (let h = (top_entry b (omega (arith, l))).attained x (sym (last_at b) ∙ e) in
        root_small (table_of rows) top b h.0 x (omega (arith, few)) small (division_at roots all top h.0 (omega arith) (subst (λ (l : List Root). Contains l h.0) (sym roots_top) h.1)) h.3)
    | inr l ↦ absurd (none-some x (sym (last_at b ∙ ap load_of (get_or-eq_default row.loads None (let n = entries.0 in omega (arith, n, l)))) ∙ e))
  ]

  pub small_more : IsSmallTable (table_of new)
  small_more n b x one e = elim (cases_lt n top) [
    | inl l ↦ small n b x one (sym (before n b one l) ∙ e)
    | inr l ↦ elim (cases_lt top n) [
      | inl m ↦ absurd (none-some x (sym (ap (λ (o : Option Row). load_at o b) (slice_get_past new (n - 1) (omega (arith, m, long, length-append rows (row ∷ []))))) ∙ e))
      | inr m ↦ (let s : n ≡ top = omega (arith, l, m) in
          subst (λ j. (x.nodes + 1 ≤ j) × (x.sum ≤ 32 * x.nodes)) (sym s) (small_top b x (ap (λ j. table_of new j b) (sym s) ∙ e)))
    ]
  ]

-- ---- the first row
module _ (row : Row) (none : (b : ℕ) → b ≤ 28 → get_or row.loads b None ≡ Some (record { nodes = 0; sum = 0 })) (long : length row.loads ≡ 29) where
  first_at : (b : ℕ) → b ≤ 28 → table_of (row ∷ []) 1 b ≡ Some (record { nodes = 0; sum = 0 })
  first_at b l = read row.loads b ∙ ap load_of (none b l)

  pub first_table : (roots : List Roots) → IsLoadTable (all_roots roots) 1 28 (table_of (row ∷ []))
  first_table roots = record {
    alone = first_at;
    attained = λ n b x two most. absurd (omega (arith, two, most));
    least = λ n b y root two most. absurd (omega (arith, two, most));
  }

  pub first_small : IsSmallTable (table_of (row ∷ []))
  first_small zero b x one e = absurd (omega (arith, one))
  first_small (suc zero) b x one e = elim (cases_lt b 29) [
    | inl l ↦ (let same = sym (first_at b (omega (arith, l))) ∙ e in
        let n : 0 ≡ x.nodes = ap nodes_or same in let s : 0 ≡ x.sum = ap sum_or same in (omega (arith, n), omega (arith, s)))
    | inr l ↦ absurd (none-some x (sym (read row.loads b ∙ ap load_of (get_or-eq_default row.loads None (omega (arith, long, l)))) ∙ e))
  ]
  first_small (suc (suc n)) b x one e =
      absurd (none-some x (sym (ap (λ (o : Option Row). load_at o b) (slice_get_past (row ∷ []) (suc (suc n) - 1) (omega arith))) ∙ e))
