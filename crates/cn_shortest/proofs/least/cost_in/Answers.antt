use Rattle.std.proofs.Common.{◌+◌, ◌-◌, ◌*◌, ◌≤◌, ◌∙◌, ap, arith, get_or, length, refl, None, Option}
use Rattle.std.proofs.lemmas.List.Elements.{All-from_get_or}
use Rattle.std.proofs.lemmas.Option.{slice_get_read}
use Rattle.cn_shortest.specs.Loads.{IsBelow, all_roots, load_at, table_of}
use Rattle.cn_shortest.specs.declared.loads.Row.{Row}
use Rattle.cn_shortest.proofs.Costs.{first_load, least_cost_is}
use Rattle.cn_shortest.proofs.Loading.{team_below}
use Rattle.cn_shortest.proofs.Rows.{read}
use Rattle.cn_shortest.proofs.least.cost_in.Goals as goal

pub returns-clause-cost : goal.returns-clause-cost
returns-clause-cost c t allowed are =
    let roots = c.args.found.now.roots.items in
    let most = length roots + 1 in
    let rows = c.args.found.now.rows.items in
    let n = c.args.n in
    let is = c.requires.found in
    let laws = c.loads_are_least_costs.ensures in
    let two = c.requires.some in
    let few : n ≤ 8 = omega (arith, is.few, c.requires.most) in
    let top : 4 * (n - 1) ≤ 28 = omega (arith, few) in
    let at = slice_get_read rows (length rows) (n - 1) c.index.result.now refl (omega (arith, is.long, c.requires.most, two)) c.index.ensures in
    least_cost_is rows c.index.result.now n t allowed few at
    (λ b x l e f. laws.plan t allowed most 28 n b (table_of rows) x (all_roots roots) are is.table two c.requires.most l e f)
    (laws.some_tree t allowed most 28 n (table_of rows) (all_roots roots) are is.table two c.requires.most top)
    c.first_cost.result c.first_cost.ensures.first c.first_cost.ensures.none

pub returns-clause-load : goal.returns-clause-load
returns-clause-load c =
    let rows = c.args.found.now.rows.items in
    let n = c.args.n in
    let at = slice_get_read rows (length rows) (n - 1) c.index.result.now refl (omega (arith, c.requires.found.long, c.requires.most, c.requires.some)) c.index.ensures in
    first_load rows c.index.result.now n c.first_cost.result at c.first_cost.ensures.first

-- the loads of the row are few
pub first_cost-requires : goal.first_cost-requires
first_cost-requires c =
    let rows = c.args.found.now.rows.items in
    let n = c.args.n in
    let row = c.index.result.now in
    let is = c.requires.found in
    let few : n ≤ 8 = omega (arith, is.few, c.requires.most) in
    let at = slice_get_read rows (length rows) (n - 1) row refl (omega (arith, is.long, c.requires.most, c.requires.some)) c.index.ensures in
    All-from_get_or (IsBelow 7 224) row.loads None (λ i l. team_below n (get_or row.loads i None) few (λ x e. is.small n i x (omega (arith, c.requires.some)) (ap (λ (o : Option Row). load_at o i) at ∙ (read row.loads i ∙ e))))
