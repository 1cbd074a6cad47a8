use Rattle.std.proofs.Common.{◌+◌, ◌*◌, length}
use Rattle.cn_shortest.proofs.building.+nodes.Given as goal

abbrev pub decreases-add_node : goal.decreases-add_node
decreases-add_node l = 9 * l.budget

abbrev pub decreases-add_teams : goal.decreases-add_teams
decreases-add_teams l = 9 * l.budget + length l.sizes.now
