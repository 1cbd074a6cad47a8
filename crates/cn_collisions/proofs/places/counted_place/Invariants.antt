use Rattle.cn_collisions.specs.Places.{HasUpTo}
use Rattle.cn_collisions.proofs.places.counted_place.Given as goal

abbrev pub invariant-loop-operation : goal.invariant-loop-operation
invariant-loop-operation l = HasUpTo l.sets l.list l.operation l.at
