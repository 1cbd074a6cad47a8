use Rattle.std.proofs.Common.{All, Contains, take}
use Rattle.cn_stock_check.proofs.lasting.are_apart.Given as goal

-- none so far is in one of the lists
abbrev pub invariant-loop-state : goal.invariant-loop-state
invariant-loop-state l = All (λ q. ¬ Contains l.these q × ¬ Contains l.those q) (take l.state-index l.states)
