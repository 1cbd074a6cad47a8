use Rattle.std.proofs.Common.{◌↔◌, IsTrue, subst}
use Rattle.cn_choice.specs.Canonical.{Choice, raw_choice_of}
use Rattle.cn_choice.specs.Collisions.{Collision, IsCollision}
use Rattle.cn_check.specs.Conditions.{HoldsCollision}
use Rattle.cn_check.proofs.refutation.holds_collision.Goals as goal

pub returns : goal.returns
returns c =
    let entry = c.entry.inside in
    let of_slices = rw (c.as_slice.ensures.value, c.as_slice-2.ensures.value, c.as_slice-alpha.ensures.value, c.as_slice-beta.ensures.value) at c.collide.ensures in
    let of_parts =
    subst (λ (d : Choice). IsTrue c.collide.result ↔ IsCollision c.args.table.now (raw_choice_of d) entry.process entry.alpha.items entry.beta.items) c.choice.view_is of_slices in
    subst (λ (e : Collision). IsTrue c.collide.result ↔ HoldsCollision c.args.table.now e) c.entry.view_is of_parts
