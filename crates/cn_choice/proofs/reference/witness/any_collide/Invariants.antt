use Rattle.std.proofs.Common.{All, take}
use Rattle.std.specs.Prelude.{Any}
use Rattle.cn_choice.specs.Meeting.{Collide}
use Rattle.cn_choice.proofs.reference.witness.any_collide.Given as goal

abbrev pub invariant-loop-alpha : goal.invariant-loop-alpha
invariant-loop-alpha l = All (λ alpha. ¬ Any (λ beta. Collide l.table l.choice alpha.items beta.items) l.orders) (take l.alpha-index l.orders)
