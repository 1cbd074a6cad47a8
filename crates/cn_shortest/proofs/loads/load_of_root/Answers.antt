use Rattle.std.proofs.Common.{◌∙◌, ◌-◌, ◌+◌, ◌*◌, ℕ, ap, sym, length, Some}
use Rattle.cn_meetings.specs.Sights.{sight_of}
use Rattle.cn_tree_costs.specs.Least.{load_of_teams, plus}
use Rattle.cn_shortest.specs.Loads.{table_of}
use Rattle.cn_shortest.specs.Sizes.{sizes_of}
use Rattle.cn_shortest.proofs.Loading.{short_sizes}
use Rattle.cn_shortest.proofs.loads.load_of_root.Goals as goal

pub returns : goal.returns
returns c =
    let rows = c.args.rows.now in
    let counts = c.args.sizes.now.counts in
    let sight = sight_of c.args.sight in
    let n = length rows + 1 in
    let paid = c.price-price.ensures in
    c.plus.ensures
    ∙ (ap (plus (Some (record { nodes = 1; sum = n * c.price-price.result }))) (c.load_of_teams.ensures.value ∙ ap (load_of_teams (table_of rows) (c.args.budget - c.price-price.result)) (sym (short_sizes counts (length rows) c.requires.few c.requires.sizes)))
    ∙ ap (λ (p : ℕ). plus (Some (record { nodes = 1; sum = n * p })) (load_of_teams (table_of rows) (c.args.budget - p) (sizes_of counts))) paid)
