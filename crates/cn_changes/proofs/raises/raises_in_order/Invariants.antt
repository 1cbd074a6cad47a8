use Rattle.std.proofs.Common.{◌≡◌, flat_map, take}
use Rattle.cn_changes.specs.Raises.{raises_in}
use Rattle.cn_changes.proofs.raises.raises_in_order.Given as goal

-- the entries and next states so far
abbrev pub invariant-loop-told : goal.invariant-loop-told
invariant-loop-told l = l.raises.items ≡ flat_map (raises_in l.number) (take l.told-index l.nexts)
