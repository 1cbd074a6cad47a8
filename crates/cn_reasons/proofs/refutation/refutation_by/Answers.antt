use Rattle.std.proofs.Common.{List, arith, refl, subst}
use Rattle.std.specs.List.{AllZip}
use Rattle.std.proofs.lemmas.List.Elements.{All-same}
use Rattle.std.proofs.lemmas.Slice.Zip.{AllZip-long}
use Rattle.cn_choice.specs.Collisions.{Collision}
use Rattle.cn_reasons.specs.Ways.{IsCollisionOf, IsWayOf}
use Rattle.cn_reasons.proofs.Told.{all_told}
use Rattle.cn_reasons.proofs.refutation.refutation_by.Goals as goal

pub ways_of-requires : goal.ways_of-requires
ways_of-requires c =
    let IsOf = IsCollisionOf c.args.table.now in
    All-same IsOf _ _ c.first_told-told.ensures.told (all_told IsOf c.args.all c.args.entries.now c.requires.entries)

pub returns-clause-refutation : goal.returns-clause-refutation
returns-clause-refutation c =
    let IsWay = IsWayOf c.args.table.now in
    let ways = c.in_ok-ways_of.field-0.items in
    let long = AllZip-long IsWay c.first_told-told.result.now ways c.in_ok-ways_of.ensures.ways in record {
      processes = refl;
      ways = subst (λ (entries : List Collision). AllZip IsWay entries ways) c.first_told-told.ensures.told c.in_ok-ways_of.ensures.ways;
      count = refl;
      more = omega (arith, long, c.first_told-told.ensures.few);
    }

pub returns-clause-known : goal.returns-clause-known
returns-clause-known c =
    let long = AllZip-long (IsWayOf c.args.table.now) c.first_told-told.result.now c.in_ok-ways_of.field-0.items c.in_ok-ways_of.ensures.ways in record {
      some = c.requires.some;
      few = c.requires.few;
      ways = c.in_ok-ways_of.ensures.known;
      count = omega (arith, long, c.first_told-told.ensures.few);
    }
