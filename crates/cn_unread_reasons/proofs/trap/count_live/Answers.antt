use Rattle.std.proofs.Common.{◌≡◌, ◌∙◌, List, [], ◌∷◌, ◌++◌, length, length-append, ap, append-nil, append_assoc, arith, sym}
use Rattle.cn_choice.specs.Canonical.{Choice}
use Rattle.cn_choice.specs.Live.{live_choices}
use Rattle.cn_reasons.proofs.Told.{live_few}
use Rattle.cn_unread_reasons.proofs.trap.count_live.Goals as goal

pub overflow_add-count : goal.overflow_add-count
overflow_add-count c =
    let whole = ap (λ (cs : List Choice). length cs) (rw c.in-Some.ensures.steps at c.loop-choice.invariant.all) in
    let parts = length-append c.loop-choice.yielded (c.in-Some._choice ∷ c.next.new.self) in
    let few = live_few c.args.table.now c.args.n in
    let most = rw (c.states.ensures.number, c.operations.ensures.number) at c.count-most.ensures in
    omega (arith, whole, parts, few, most, c.loop-choice.invariant.count)

pub loop-choice-preserved : goal.loop-choice-preserved
loop-choice-preserved c =
    let i = c.loop-choice.invariant in record {
      can_next = tt;
      is_finite = tt;
      all = rw append_assoc (rw c.in-Some.ensures.steps at i.all);
      count = omega (arith, i.count, length-append c.loop-choice.yielded (c.in-Some._choice ∷ []));
    }

pub returns : goal.returns
returns c =
    let i = c.loop-choice.invariant in
    let whole : c.loop-choice.yielded ≡ live_choices c.args.table.now c.args.n =
    sym (append-nil c.loop-choice.yielded) ∙ (ap (λ (cs : List Choice). c.loop-choice.yielded ++ cs) (sym c.in-None.ensures.steps.0) ∙ i.all) in
    i.count ∙ ap length whole
