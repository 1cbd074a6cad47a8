use Rattle.std.proofs.Common.{◌+◌, ◌-◌, ◌/◌, length}
use Rattle.std.specs.List.{flat_map, range_with_len}
use Rattle.cn_choice.specs.Canonical.{with_size, with_state}
use Rattle.cn_check.specs.EntryTexts.{HavePassed}
use Rattle.cn_check.specs.Refutations.{counting}
use Rattle.cn_check.proofs.one_pass.state_behind.Given as goal

-- the choices with this size of team A and the later ones are left
abbrev pub invariant-loop-size : goal.invariant-loop-size
invariant-loop-size l =
    HavePassed l.table (counting l.version l.table (with_state (length l.table.operations) l.n l.state.0)) l.bytes
    (counting l.version l.table (flat_map (with_size (length l.table.operations) l.n l.state.0) (range_with_len l.size (l.n / 2 + 1 - l.size)))) l.left
