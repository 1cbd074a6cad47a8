use Rattle.std.proofs.Common.{All, take}
use Rattle.cn_choice.specs.Meeting.{Collide}
use Rattle.cn_choice.proofs.reference.witness.collides_with_any.Given as goal

abbrev pub invariant-loop-beta : goal.invariant-loop-beta
invariant-loop-beta l = All (λ beta. ¬ Collide l.table l.choice l.alpha beta.items) (take l.beta-index l.orders)
