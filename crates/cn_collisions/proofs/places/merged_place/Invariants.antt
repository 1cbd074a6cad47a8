use Rattle.cn_collisions.proofs.PlaceLemmas.{IsWalked}
use Rattle.cn_collisions.proofs.places.merged_place.Given as goal

abbrev pub invariant-loop-taken : goal.invariant-loop-taken
invariant-loop-taken l = IsWalked l.sets l.a l.b l.taken l.from_a l.last l.at
