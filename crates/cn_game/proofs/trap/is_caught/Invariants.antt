use Rattle.std.proofs.Common.{◌≡◌, ℕ, ◌<◌, length, Some}
use Rattle.std.specs.Prelude.{slice_get}
use Rattle.cn_choice.specs.declared.team.Team.TheVariants.{A, B}
use Rattle.cn_unread.specs.Defended.{start}
use Rattle.cn_game.specs.TrapLists.{IsCaught}
use Rattle.cn_game.proofs.trap.is_caught.Given as goal

-- none so far
abbrev pub invariant-loop-a : goal.invariant-loop-a
invariant-loop-a l = (j : ℕ) → j < l.a → ((slice_get l.choice.marks j ≡ Some A) × ((b : ℕ) × (b < length l.choice.operations) × (slice_get l.choice.marks b ≡ Some B) × IsCaught l.turns (length l.choice.operations) (start l.table l.choice j b))) → ⊥
