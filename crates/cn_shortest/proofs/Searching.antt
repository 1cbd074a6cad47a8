-- The root that a search chooses.
use Rattle.std.proofs.Common.{ℕ, zero, suc, ◌≡◌, ◌+◌, ◌-◌, ◌<◌, ◌≤◌, inl, inr, Bool, true, List, drop, length, take, sym, ap, ◌∙◌, subst, arith, Option, Some}
use Rattle.std.specs.Prelude.{All, Contains, slice_get}
use Rattle.std.proofs.lemmas.Bool.{cases_lt}
use Rattle.std.proofs.lemmas.List.{length-take-le, take-append-drop}
use Rattle.std.proofs.lemmas.Option.{none-some, slice_get_past}
use Rattle.cn_stocks.proofs.StockLemmas.{get_before}
use Rattle.cn_meetings.specs.Meeting.{IsSightOf, Sight}
use Rattle.cn_table.specs.TypeTable.{TypeTable}
use Rattle.cn_tree_costs.specs.Least as least
use Rattle.cn_tree_costs.specs.Least.{Root, load_of_root}
use Rattle.cn_shortest.specs.Choosing.{IsChoice}
use Rattle.cn_shortest.specs.Examples.{IsExample}
use Rattle.cn_shortest.specs.Loads.{AreAllOf, IsLoadOf, IsSmallTable, all_roots, load_at, root_with, roots_at, roots_in, table_of}
use Rattle.cn_shortest.specs.Roots.{IsFound}
use Rattle.cn_shortest.specs.Searches.{HasExamples, HaveExamples, IsRootOf, IsSearch}
use Rattle.cn_meetings.specs.Sights.{sight_of}
use Rattle.cn_shortest.specs.Sizes.{AreOf}
use Rattle.cn_shortest.specs.declared.choosing.Choice.{Choice}
use Rattle.cn_shortest.specs.declared.loads.Row.{Row}
use Rattle.cn_shortest.specs.declared.roots.Roots.{Roots}
use Rattle.cn_shortest.specs.declared.search.Search.{Search}
use Rattle.cn_shortest.proofs.Elements.{all_at}
use Rattle.cn_shortest.proofs.Loading.{same_root}
use Rattle.cn_shortest.proofs.Rows.{division_at}

pub roots_of : (roots : List Roots) (n : ℕ) → 2 ≤ n → all_roots roots n ≡ roots_at (slice_get roots (n - 2))
roots_of roots zero l = absurd (omega (arith, l))
roots_of roots (suc zero) l = absurd (omega (arith, l))
roots_of roots (suc (suc n)) l = (let e : n ≡ suc (suc n) - 2 = omega arith in ap (λ i. roots_at (slice_get roots i)) e)

-- ---- the first rows
module _ (rows : List Row) (k : ℕ) (short : k ≤ length rows) where
  abbrev pub front : List Row
  front = take k rows

  pub front_long : length front ≡ k
  front_long = length-take-le k rows short

  front_get : (i : ℕ) → i < k → slice_get front i ≡ slice_get rows i
  front_get i l = sym (get_before front (drop k rows) i (omega (arith, l, front_long))) ∙ ap (λ (xs : List Row). slice_get xs i) (take-append-drop k rows)

  pub front_at : (m b : ℕ) → 1 ≤ m → m < k + 1 → table_of front m b ≡ table_of rows m b
  front_at m b one l = ap (λ (o : Option Row). load_at o b) (front_get (m - 1) (omega (arith, one, l)))

  pub front_small : IsSmallTable (table_of rows) → IsSmallTable (table_of front)
  front_small small m b x one e = elim (cases_lt (m - 1) k) [
    | inl l ↦ small m b x one (sym (front_at m b one (omega (arith, one, l))) ∙ e)
    | inr l ↦ absurd (none-some x (sym (ap (λ (o : Option Row). load_at o b) (slice_get_past front (m - 1) (omega (arith, l, front_long)))) ∙ e))
  ]

module _ (s : Search) (is : IsSearch s) (n b : ℕ) (two : 2 ≤ n) (few : n ≤ length s.rows.items) (within : b ≤ 28) (here : Roots) (at : slice_get s.roots.items (n - 2) ≡ Some here) where
  abbrev rows : List Row
  rows = take (n - 1) s.rows.items

  abbrev roots : List Roots
  roots = s.roots.items

  short : n - 1 ≤ length s.rows.items
  short = omega (arith, few)

  pub rows_long : length rows + 1 ≡ n
  rows_long = omega (arith, front_long s.rows.items (n - 1) short, two)

  pub rows_small : IsSmallTable (table_of rows)
  rows_small = front_small s.rows.items (n - 1) short is.small

  all_here : AreAllOf n here
  all_here = (let e : n - 2 + 2 ≡ n = omega (arith, two) in subst (λ m. AreAllOf m here) e (is.sizes (n - 2) here at))

  pub roots_are : AreAllOf (length rows + 1) here
  roots_are = subst (λ m. AreAllOf m here) (sym rows_long) all_here

  same_load : (root : Root) → Contains (all_roots roots n) root → load_of_root (table_of rows) n b root ≡ load_of_root (table_of s.rows.items) n b root
  same_load root h = same_root (table_of rows) (table_of s.rows.items) n b root (λ m c l u. front_at s.rows.items (n - 1) short m c l (omega (arith, u, two))) (division_at roots is.sizes n root two h)

  pub load_is : (x : least.Load) → table_of s.rows.items n b ≡ Some x → IsLoadOf (table_of rows) (length rows + 1) b (roots_in here) x
  load_is x e =
      let long = is.long in
      let o = is.table.attained n b x two (omega (arith, few, long)) within e in
      let i : Contains (roots_in here) o.0 = subst (λ (l : List Root). Contains l o.0) (roots_of roots n two ∙ ap roots_at at) o.1 in
      subst (λ m. IsLoadOf (table_of rows) m b (roots_in here) x) (sym rows_long) (o.0, i, o.2, same_load o.0 o.1 ∙ o.3)

  pub root_is : (x : least.Load) (choice : Choice) → table_of s.rows.items n b ≡ Some x → IsChoice (table_of rows) (length rows + 1) b here x choice → IsRootOf s n b choice
  root_is x choice e h =
      let of_n : AreOf n choice.sizes.counts = all_at (λ c. AreOf n c.counts) h.of_sight.sizes.items h.place choice.sizes (all_here h.which h.of_sight h.is_there) h.is_at in
      let k = sight_of choice.sight in
      let load : load_of_root (table_of rows) n b (root_with k choice.sizes) ≡ Some x = subst (λ m. load_of_root (table_of rows) m b (root_with k choice.sizes) ≡ Some x) rows_long h.has.1 in
      let same = same_root (table_of rows) (table_of s.rows.items) n b (root_with k choice.sizes) (λ m c l u. front_at s.rows.items (n - 1) short m c l (omega (arith, u, two))) of_n.division in
      let m : n - 2 + 2 ≡ n = omega (arith, two) in
      let examples : (t : TypeTable) (allowed : Sight → Bool) → HaveExamples t allowed roots → HasExamples t allowed n h.of_sight =
      λ t allowed have. subst (λ m. HasExamples t allowed m h.of_sight) m (have (n - 2) h.which here h.of_sight at h.is_there) in
      let found : (t : TypeTable) (allowed : Sight → Bool) → HaveExamples t allowed roots → IsFound t (sight_of h.of_sight.sight) n choice.sizes =
      λ t allowed have. all_at (IsFound t (sight_of h.of_sight.sight) n) h.of_sight.sizes.items h.place choice.sizes (examples t allowed have).found h.is_at in
      record {
        paid = h.has.0;
        load = sym same ∙ (load ∙ sym e);
        of_n = of_n;
        is_allowed = λ t allowed have. subst (λ s. allowed (sight_of s) ≡ true) h.sight_is (examples t allowed have).is_allowed;
        of_type = λ t allowed have. subst (λ s. IsSightOf t (sight_of s)) h.sight_is (found t allowed have).has.known;
        example = λ t allowed have. subst (λ s. IsExample t (sight_of s) n choice.sizes.counts choice.sizes.example) h.sight_is (found t allowed have).example;
      }
