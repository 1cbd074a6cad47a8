use Rattle.std.proofs.Common.{All, ◌∷◌, ◌∙◌, ◌≡◌, List, [], None, ap, arith, get_or, length, length-append, subst, sym}
use Rattle.std.specs.Vec.Iter.{into_iter_items}
use Rattle.cn_search.specs.Parts.{IsPartOf}
use Rattle.cn_search.proofs.PartLemmas.{first_and_others, one_more_empty}
use Rattle.cn_search.proofs.parts.slots_of.Goals as goal

pub loop-parts-preserved : goal.loop-parts-preserved
loop-parts-preserved g c =
    let split = first_and_others (λ parts. All (IsPartOf g.E.Evidence.keeps c.args.table.now c.args.blocks.now) parts.items) c.in-Some.parts (into_iter_items c.next.new.self)
    (into_iter_items c.loop-parts.parts-iterator) c.in-Some.ensures.steps.0
    c.loop-parts.invariant.left in
    record {
      can_next = tt;
      is_finite = tt;
      slots = c.fill.ensures;
      left = split.1;
    }

pub fill-requires-clause-parts : goal.fill-requires-clause-parts
fill-requires-clause-parts g c =
    (first_and_others (λ parts. All (IsPartOf g.E.Evidence.keeps c.args.table.now c.args.blocks.now) parts.items) c.in-Some.parts (into_iter_items c.next.new.self)
    (into_iter_items c.loop-parts.parts-iterator) c.in-Some.ensures.steps.0
    c.loop-parts.invariant.left).0

pub loop-parts-init : goal.loop-parts-init
loop-parts-init g c = record {
  can_next = tt;
  is_finite = tt;
  slots = record {
    long = omega (arith, c.loop-block.invariant.long, c.loop-block-test.false, c.loop-block.auto._block-index-end);
    are = λ place form h. cc (sym (c.loop-block.invariant.none place) ∙ h);
  };
  left = rw c.into_iter-parts-iterator.ensures.into_iter_gives.0 c.requires;
}

pub loop-block-preserved : goal.loop-block-preserved
loop-block-preserved g c =
    let before = c.loop-block.slots.items in
    let grown = c.in_ok-push.ensures.items in
    record {
      long = omega (arith, ap (λ (l : List _). length l) grown, length-append before (None ∷ []), c.loop-block.invariant.long);
      none = λ place. subst (λ (l : List _). get_or l place None ≡ None) (sym grown) (one_more_empty before c.loop-block.invariant.none place);
    }
