use Rattle.std.proofs.Common.{◌≡◌, true}
use Rattle.std.specs.List.{list_all}
use Rattle.cn_cert.specs.Ranges.{is_collision_in_range}
use Rattle.cn_cert.proofs.guess.Bytes.collisions.Given as goal

abbrev pub invariant-loop : goal.invariant-loop
invariant-loop l = list_all is_collision_in_range l.collisions.items ≡ true
