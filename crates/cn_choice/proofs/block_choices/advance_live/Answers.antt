use Rattle.std.proofs.Common.{◌≡◌, ◌∙◌, ℕ, List, false, get_or, ap, sym}
use Rattle.std.specs.List.{list_all}
use Rattle.cn_choice.specs.Live.{is_live}
use Rattle.cn_choice.proofs.ChoiceLemmas.BlockWalk.{choice_of, fewer_left, live_next, marked_live, none_live_after, passed_over}
use Rattle.cn_choice.proofs.block_choices.advance_live.Goals as goal

pub returns-then-are_marked-clause-next : goal.returns-then-are_marked-clause-next
returns-then-are_marked-clause-next c =
    c.loop-choice.invariant.left
    ∙ live_next c.args.table.now c.operations-operations.result _ c.advance_rising.new.list.items c.operations-operations.ensures.number c.loop-choice.invariant.known
    (c.advance_rising.ensures.next c.loop-choice-test.true)

pub returns-then-are_marked-clause-live : goal.returns-then-are_marked-clause-live
returns-then-are_marked-clause-live c t =
    marked_live c.args.table.now c.operations-operations.result c.args.moving.now c.args.choice.now _ _ c.advance_rising.new.list.items c.operations-operations.ensures.number
    c.loop-choice.invariant.same_state
    c.loop-choice.invariant.same_a c.requires.moving c.requires.a c.advance_rising.ensures.known
    ∙ (ap (λ (l : List ℕ). list_all (λ o. get_or c.args.moving.now o false) l) (sym c.as_slice.ensures.value) ∙ (sym c.are_marked.ensures ∙ c.if-are_marked.true))

pub loop-choice-smaller : goal.loop-choice-smaller
loop-choice-smaller c = fewer_left c.operations-operations.result _ c.advance_rising.new.list.items c.loop-choice.invariant.known (c.advance_rising.ensures.next c.loop-choice-test.true)

pub loop-choice-preserved : goal.loop-choice-preserved
loop-choice-preserved c =
    let new = c.advance_rising.new.list.items in
    let t = c.args.table.now in
    let kept : is_live t (choice_of c.loop-choice.choice-inside.state.0 c.loop-choice.choice-inside.a.items new) ≡ false =
    marked_live t c.operations-operations.result c.args.moving.now c.args.choice.now _ _ new c.operations-operations.ensures.number c.loop-choice.invariant.same_state
    c.loop-choice.invariant.same_a c.requires.moving c.requires.a c.advance_rising.ensures.known
    ∙ (ap (λ (l : List ℕ). list_all (λ o. get_or c.args.moving.now o false) l) (sym c.as_slice.ensures.value) ∙ (sym c.are_marked.ensures ∙ c.if-are_marked.false)) in
    record {
      known = c.advance_rising.ensures.known;
      same_state = c.loop-choice.invariant.same_state;
      same_a = c.loop-choice.invariant.same_a;
      left = c.loop-choice.invariant.left
          ∙ (live_next t c.operations-operations.result _ new c.operations-operations.ensures.number c.loop-choice.invariant.known (c.advance_rising.ensures.next c.loop-choice-test.true)
          ∙ passed_over t _ kept);
    }

pub returns-clause-next : goal.returns-clause-next
returns-clause-next c =
    c.loop-choice.invariant.left ∙ none_live_after c.args.table.now c.operations-operations.result _ c.operations-operations.ensures.number c.loop-choice.invariant.known
    (c.advance_rising.ensures.last c.loop-choice-test.false)
