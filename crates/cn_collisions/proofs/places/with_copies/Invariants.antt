use Rattle.std.proofs.Common.{ℕ, List}
use Rattle.cn_collisions.specs.Places.{IsGathered}
use Rattle.cn_collisions.specs.Stands.{StandsAt}
use Rattle.cn_collisions.proofs.places.with_copies.Given as goal

abbrev pub invariant-loop-copy : goal.invariant-loop-copy
invariant-loop-copy l = (stock : List ℕ) × StandsAt l.sets l.at.size l.at.place stock × IsGathered l.list l.fn.operation l._copy stock
