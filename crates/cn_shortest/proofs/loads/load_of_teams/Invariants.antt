use Rattle.std.proofs.Common.{◌≡◌, ◌*◌}
use Rattle.cn_tree_costs.specs.Least.{load_of_teams}
use Rattle.cn_shortest.specs.Loads.{IsBelow, load_of, table_of}
use Rattle.cn_shortest.specs.Sizes.{sizes_from}
use Rattle.cn_shortest.proofs.loads.load_of_teams.Given as goal

abbrev pub invariant-loop-place : goal.invariant-loop-place
invariant-loop-place l = record {
  same : load_of l.load ≡ load_of_teams (table_of l.rows) l.budget (sizes_from l.sizes.counts l.place);
  below : IsBelow (1785 * l.place) (57120 * l.place) l.load;
}
