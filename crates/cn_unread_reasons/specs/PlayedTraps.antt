-- Traps with the plays of the adversary.
use Rattle.std.specs.Prelude.{◌≡◌, ℕ, ◌+◌, List, length, take, Bool, if◌then◌else◌}
use Rattle.std.specs.List.{AllZip}
use Rattle.cn_table.specs.TypeTable.{TypeTable}
use Rattle.cn_choice.specs.Canonical.{Choice}
use Rattle.cn_choice.specs.Live.{live_choices}
use Rattle.cn_game.specs.TrapLists.{IsTrapList}
use Rattle.cn_game.specs.declared.trap.Turn.{Turn}
use Rattle.cn_unread_reasons.specs.Plays.{IsPlayOf}
use Rattle.cn_unread_reasons.specs.declared.trap.PlayedTrap.{PlayedTrap}

-- the choices whose plays are told: all, or the first one
abbrev pub told_choices : Bool → List Choice → List Choice
told_choices all choices = if all then choices else take 1 choices

-- a trap for all choices for n processes with so many positions, the plays that are told, and the
-- number of all choices and of those whose play is not told
pub record IsPlayedTrapOf (t : TypeTable) (n : ℕ) (all : Bool) (p : PlayedTrap) : Type 0 where
  pub processes : p.processes ≡ n
  pub turns : List Turn
  pub trap : IsTrapList t n turns
  pub positions : p.positions ≡ length turns
  pub count : p.count ≡ length (live_choices t n)
  pub plays : AllZip (IsPlayOf t) (told_choices all (live_choices t n)) p.plays.items
  pub more : p.count ≡ length p.plays.items + p.more
