use Rattle.std.proofs.Common.{◌+◌, ◌*◌, length}
use Rattle.cn_tree_check.proofs.building.+nodes.Given as goal

abbrev pub decreases-next_tree : goal.decreases-next_tree
decreases-next_tree l = 9 * length l.nodes.now

abbrev pub decreases-next_teams : goal.decreases-next_teams
decreases-next_teams l = 9 * length l.nodes.now + length l.sizes.now
