use Rattle.std.proofs.Common.{arith}
use Rattle.std.proofs.lemmas.Option.{slice_get_within}
use Rattle.std.specs.Vec.Iter.{into_iter_items}
use Rattle.cn_search.specs.Parts.{IsPartOf}
use Rattle.cn_search.proofs.PartLemmas.{filled, first_and_others}
use Rattle.cn_search.proofs.parts.fill.Goals as goal

pub loop-part-preserved-in-Some : goal.loop-part-preserved-in-Some
loop-part-preserved-in-Some g c =
    let keeps = g.E.Evidence.keeps in
    let t = c.args.table.now in
    let blocks = c.args.blocks.now in
    let split = first_and_others (IsPartOf keeps t blocks) c.in-Some.part (into_iter_items c.next.new.self)
    (into_iter_items c.loop-part.part-iterator) c.in-Some.ensures.steps.0 c.loop-part.invariant.left in
    record {
      can_next = tt;
      is_finite = tt;
      slots = filled keeps t blocks c.loop-part.slots.items c.in-Some.part.place c.in-Some.part.evidence c.loop-part.invariant.slots split.0;
      left = split.1;
    }

pub loop-part-preserved : goal.loop-part-preserved
loop-part-preserved g c =
    let keeps = g.E.Evidence.keeps in
    let t = c.args.table.now in
    let blocks = c.args.blocks.now in
    let split = first_and_others (IsPartOf keeps t blocks) c.in-Some.part (into_iter_items c.next.new.self)
    (into_iter_items c.loop-part.part-iterator) c.in-Some.ensures.steps.0 c.loop-part.invariant.left in
    record {
      can_next = tt;
      is_finite = tt;
      slots = filled keeps t blocks c.loop-part.slots.items c.in-Some.part.place c.in-Some.part.evidence c.loop-part.invariant.slots split.0;
      left = split.1;
    }

pub index_mut-requires : goal.index_mut-requires
index_mut-requires g c =
    let blocks = c.args.blocks.now in
    let part = (first_and_others (IsPartOf g.E.Evidence.keeps c.args.table.now blocks) c.in-Some.part (into_iter_items c.next.new.self)
    (into_iter_items c.loop-part.part-iterator) c.in-Some.ensures.steps.0 c.loop-part.invariant.left).0 in
    omega (arith, slice_get_within blocks c.in-Some.part.place part.block part.stands, c.loop-part.invariant.slots.long, c.loop-part.slots.ok)
