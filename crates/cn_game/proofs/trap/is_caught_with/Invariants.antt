use Rattle.std.proofs.Common.{◌≡◌, ℕ, ◌<◌, length, Some}
use Rattle.std.specs.Prelude.{slice_get}
use Rattle.cn_choice.specs.declared.team.Team.TheVariants.{B}
use Rattle.cn_unread.specs.Defended.{start}
use Rattle.cn_game.specs.TrapLists.{IsCaught}
use Rattle.cn_game.proofs.trap.is_caught_with.Given as goal

-- with none so far
abbrev pub invariant-loop-b : goal.invariant-loop-b
invariant-loop-b l = (j : ℕ) → j < l.b → ((slice_get l.choice.marks j ≡ Some B) × IsCaught l.turns (length l.choice.operations) (start l.table l.choice l.a j)) → ⊥
