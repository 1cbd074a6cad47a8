use Rattle.std.proofs.Common.{ℕ, List, ◌≡◌, ◌+◌, ◌∙◌, arith, ap, refl, subst, sym, length, Some, slice_get}
use Rattle.cn_divisions.specs.declared.search.Divisions.{Divisions}
use Rattle.cn_divisions.specs.Divisions.{AreDivisions}
use Rattle.cn_tree_costs.specs.Least.{AreRoots, IsLoadTable}
use Rattle.cn_meetings.specs.Sights.{AreSightsOf}
use Rattle.cn_meetings.specs.declared.sight.Sight.{Sight}
use Rattle.cn_shortest.specs.Looks.{AreSights, allowed}
use Rattle.cn_shortest.specs.Loads.{all_roots, table_of}
use Rattle.cn_shortest.specs.declared.roots.Roots.{Roots}
use Rattle.cn_shortest.proofs.search.Search.new.Goals as goal

pub find_divisions-requires-clause-sights : goal.find_divisions-requires-clause-sights
find_divisions-requires-clause-sights c = subst (AreSightsOf c.args.table.now) (sym c.as_slice.ensures.value) c.in_ok-sights.ensures.of_type

pub roots_of_all-requires-clause-sights : goal.roots_of_all-requires-clause-sights
roots_of_all-requires-clause-sights c = subst (AreSights c.args.table.now c.args.looks) (sym c.as_slice-2.ensures.value) c.in_ok-sights.ensures

pub roots_of_all-requires-clause-divisions : goal.roots_of_all-requires-clause-divisions
roots_of_all-requires-clause-divisions c = (
  refl,
  subst (λ (l : List Divisions). (i : ℕ) (x : Divisions) → slice_get l i ≡ Some x → AreDivisions c.args.table.now c.as_slice-2.result.now (i + 2) x) (sym c.as_slice-3.ensures.value)
      (subst (λ (l : List Sight). (i : ℕ) (x : Divisions) → slice_get c.in_ok-divisions.divisions.items i ≡ Some x → AreDivisions c.args.table.now l (i + 2) x) (c.as_slice.ensures.value ∙ sym c.as_slice-2.ensures.value) c.in_ok-divisions.ensures.1),
)

pub rows-requires-clause-roots : goal.rows-requires-clause-roots
rows-requires-clause-roots c i here e = c.in_ok-roots.ensures.each.1 i here (ap (λ (l : List Roots). slice_get l i) (sym c.as_slice-4.ensures.value) ∙ e)

pub returns-clause-found : goal.returns-clause-found
returns-clause-found c =
    let these : c.as_slice-4.result.now ≡ c.in_ok-roots.roots.items = c.as_slice-4.ensures.value in
    let rows = c.in_ok-rows.rows.items in
    let count : length c.in_ok-roots.roots.items + 1 ≡ c.args.n = omega (arith, c.in_ok-roots.ensures.each.0, ap length c.as_slice-3.ensures.value, c.in_ok-divisions.ensures.0, c.requires.some) in (
      record {
        few = omega (arith, count, c.requires.few);
        long = c.in_ok-rows.ensures.long ∙ ap (λ (l : List Roots). length l + 1) these;
        table = subst (λ (l : List Roots). IsLoadTable (all_roots l) (length l + 1) 28 (table_of rows)) these c.in_ok-rows.ensures.table;
        small = c.in_ok-rows.ensures.small;
        sizes = c.in_ok-roots.ensures.each.1;
      },
      count,
    )

pub returns-clause-roots : goal.returns-clause-roots
returns-clause-roots c =
    let roots = c.in_ok-roots.roots.items in
    subst (λ m. AreRoots c.args.table.now (allowed c.args.looks) (m + 1) (all_roots roots)) (sym c.in_ok-roots.ensures.each.0) c.in_ok-roots.ensures.are
