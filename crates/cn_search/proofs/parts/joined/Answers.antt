use Rattle.std.proofs.Common.{◌<◌, ◌≤◌, ◌∙◌, List, ap, arith, get_or, length, length-drop, subst, sym, take}
use Rattle.std.specs.Vec.Iter.{into_iter_items}
use Rattle.std.proofs.lemmas.List.{take_all, take_more}
use Rattle.cn_choice.specs.Blocks.{Block}
use Rattle.cn_choice.specs.Live.{live_in}
use Rattle.cn_search.specs.Search.{choices_of_all}
use Rattle.cn_search.specs.Kept.{KeepsFor}
use Rattle.cn_search.proofs.Batches.{keeps_more}
use Rattle.cn_search.proofs.PartLemmas.{first_of_left, kept_in_slot}
use Rattle.cn_search.proofs.parts.joined.Goals as goal

pub bounds-blocks-place : goal.bounds-blocks-place
bounds-blocks-place g c =
    let now = first_of_left c.args.slots.items (into_iter_items c.next.new.self) c.loop-slot.place c.in-Some.slot (sym c.in-Some.ensures.steps.0 ∙ c.loop-slot.invariant.left) in
    omega (arith, now.0, c.requires.slots.long)

pub evidence_in-requires-clause-block : goal.evidence_in-requires-clause-block
evidence_in-requires-clause-block g c =
    let now = first_of_left c.args.slots.items (into_iter_items c.next.new.self) c.loop-slot.place c.in-Some.slot (sym c.in-Some.ensures.steps.0 ∙ c.loop-slot.invariant.left) in
    rw c.index-blocks-place.is (c.requires.blocks c.loop-slot.place c.index-blocks-place.result (omega (arith, now.0, c.requires.slots.long)))

pub evidence_in-requires-clause-slot : goal.evidence_in-requires-clause-slot
evidence_in-requires-clause-slot g c =
    let place = c.loop-slot.place in
    let now = first_of_left c.args.slots.items (into_iter_items c.next.new.self) place c.in-Some.slot (sym c.in-Some.ensures.steps.0 ∙ c.loop-slot.invariant.left) in
    kept_in_slot g.E.Evidence.keeps c.args.table.now c.args.blocks.now c.args.slots.items place c.requires.slots c.index-blocks-place.result c.in-Some.slot now.0 now.1.0 c.index-blocks-place.is

pub loop-slot-preserved : goal.loop-slot-preserved
loop-slot-preserved g c =
    let t = c.args.table.now in
    let blocks = c.args.blocks.now in
    let place = c.loop-slot.place in
    let keeps = g.E.Evidence.keeps in
    let now = first_of_left c.args.slots.items (into_iter_items c.next.new.self) place c.in-Some.slot (sym c.in-Some.ensures.steps.0 ∙ c.loop-slot.invariant.left) in
    let here : Block = get_or blocks place c.index-blocks-place.result in
    let within : place < length blocks = omega (arith, now.0, c.requires.slots.long) in
    let own = subst (λ (k : Block). KeepsFor keeps t (live_in t k) c.in_ok-part.part) c.index-blocks-place.is c.in_ok-part.ensures in
    record {
      can_next = tt;
      is_finite = tt;
      left = now.1.1;
      done =
          subst (λ (l : List Block). KeepsFor keeps t (choices_of_all t l) c.append.new.self) (sym (take_more blocks place c.index-blocks-place.result within))
          (keeps_more t keeps (live_in t) (take place blocks) here c.loop-slot.evidence c.in_ok-part.part c.append.new.self
          (λ kept more a b. c.in_ok-append.ensures kept more a b) c.loop-slot.invariant.done own);
    }

pub overflow_add-place : goal.overflow_add-place
overflow_add-place g c =
    let now = first_of_left c.args.slots.items (into_iter_items c.next.new.self) c.loop-slot.place c.in-Some.slot (sym c.in-Some.ensures.steps.0 ∙ c.loop-slot.invariant.left) in
    omega (arith, now.0, c.args.slots.ok, c.args.slots.small)

pub returns : goal.returns
returns g c =
    let t = c.args.table.now in
    let blocks = c.args.blocks.now in
    let place = c.loop-slot.place in
    let past : length blocks ≤ place = omega
    (arith, c.in-None.ensures.steps.0, ap (λ (l : List _). length l) c.loop-slot.invariant.left, length-drop place c.args.slots.items, c.requires.slots.long) in
    subst (λ (l : List Block). KeepsFor g.E.Evidence.keeps t (choices_of_all t l) c.loop-slot.evidence) (take_all place blocks past) c.loop-slot.invariant.done
