use Rattle.std.proofs.Common.{◌-◌, length}
use Rattle.std.specs.List.{flat_map, range_with_len}
use Rattle.cn_choice.specs.Canonical.{with_state}
use Rattle.cn_check.specs.EntryTexts.{HavePassed}
use Rattle.cn_check.specs.Refutations.{counting}
use Rattle.cn_check.specs.Versions.{choices_in_version}
use Rattle.cn_check.proofs.one_pass.all_behind.Given as goal

-- the choices with this state and the later ones are left
abbrev pub invariant-loop-state : goal.invariant-loop-state
invariant-loop-state l =
    HavePassed l.table (choices_in_version l.version l.table l.n) l.bytes
    (counting l.version l.table (flat_map (with_state (length l.table.operations) l.n) (range_with_len l.state (length l.table.states - l.state)))) l.left
