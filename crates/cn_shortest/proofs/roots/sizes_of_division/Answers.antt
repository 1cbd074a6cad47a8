use Rattle.std.proofs.Common.{ℕ, List, ◌≤◌, ◌<◌, arith, sym, subst, ap, length}
use Rattle.std.specs.Prelude.{All}
use Rattle.std.proofs.lemmas.List.Elements.{All-weaker}
use Rattle.cn_shortest.specs.Sizes.{AreCounts}
use Rattle.cn_tree_costs.proofs.Numbers.{fewer_each, long_sum}
use Rattle.cn_shortest.proofs.roots.sizes_of_division.Goals as goal

pub count-requires-clause-few : goal.count-requires-clause-few
count-requires-clause-few c =
    let d = c.requires.division.division in
    let w = d.whole in
    omega (arith, ap length c.as_slice.ensures.value, long_sum c.args.division.now.sizes.items d.inhabited, w, c.requires.n)

pub count-requires-clause-sizes : goal.count-requires-clause-sizes
count-requires-clause-sizes c =
    let n = c.args.n in
    let few = c.requires.n in
    let d = c.args.division.now in
    subst (λ (l : List ℕ). All (λ m. (1 ≤ m) × (m ≤ 8)) l) (sym c.as_slice.ensures.value)
    (All-weaker (λ m. (1 ≤ m) × (m < n)) (λ m. (1 ≤ m) × (m ≤ 8)) (λ m h. (h.0, (let l = h.1 in omega (arith, l, few)))) d.sizes.items (fewer_each n d.sizes.items c.requires.division.division))

pub returns-clause-counts : goal.returns-clause-counts
returns-clause-counts c = subst (λ (l : List ℕ). AreCounts l c.count.result) c.as_slice.ensures.value c.count.ensures

pub returns-clause-example : goal.returns-clause-example
returns-clause-example c t sight is = c.example_of.ensures t sight c.count.result is (subst (λ (l : List ℕ). AreCounts l c.count.result) c.as_slice.ensures.value c.count.ensures)
