use Rattle.std.proofs.Common.{◌≡◌, map, take, ℕ}
use Rattle.cn_game.specs.declared.board.Standing.TheVariants.{Poised}
use Rattle.cn_game.proofs.board.poised.Given as goal

-- those so far
abbrev pub invariant-loop-operation : goal.invariant-loop-operation
invariant-loop-operation l = l.standings.items ≡ map (λ (o : ℕ). Poised (record { 0 = o })) (take l.operation-index l.operations)
