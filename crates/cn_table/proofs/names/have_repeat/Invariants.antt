use Rattle.std.proofs.Common.{◌≡◌, map, drop}
use Rattle.cn_table.specs.Names.{has_repeat}
use Rattle.cn_table.proofs.names.have_repeat.Given as goal

abbrev pub invariant-loop-i : goal.invariant-loop-i
invariant-loop-i g l = has_repeat (map g.T.HasName.name_of (drop l.i l.things)) ≡ has_repeat (map g.T.HasName.name_of l.things)
