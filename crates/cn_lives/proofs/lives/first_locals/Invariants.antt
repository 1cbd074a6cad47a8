use Rattle.std.proofs.Common.{◌≡◌, map, take}
use Rattle.cn_lives.specs.declared.local.Local.TheVariants.{Active}
use Rattle.cn_lives.specs.declared.local.Stage.TheVariants.{Write}
use Rattle.cn_lives.proofs.lives.first_locals.Given as goal

abbrev pub invariant-loop-value : goal.invariant-loop-value
invariant-loop-value l = l.locals.items ≡ map (λ x. Active 0 x Write) (take l.value-index l.inputs)
