use Rattle.std.proofs.Common.{◌≡◌, ◌∙◌, List, [], ◌∷◌, ◌++◌, length, length-append, ap, append-nil, append_assoc, arith, refl, subst, sym}
use Rattle.std.specs.List.{AllZip}
use Rattle.std.proofs.lemmas.List.Elements.{All-contains}
use Rattle.cn_table.proofs.Lists.{Contains-between}
use Rattle.cn_choice.specs.Canonical.{Choice, raw_choice_of}
use Rattle.cn_choice.specs.Live.{live_choices}
use Rattle.cn_recover.specs.Recording.{IsRecordingWitness}
use Rattle.cn_reasons.specs.Recoverable.{IsRecoverableWayOf}
use Rattle.cn_reasons.specs.Refutations.{first_told}
use Rattle.cn_reasons.proofs.Told.{live_few, told_few}
use Rattle.cn_reasons.proofs.reasons.refutation_for.Goals as goal

pub tell-requires-clause-fits : goal.tell-requires-clause-fits
tell-requires-clause-fits c =
    let t = c.args.table.now in
    let d = c.in-Some.choice in
    let listed = Contains-between (live_choices t c.args.n) c.loop-choice.yielded c.next.new.self d (rw c.in-Some.ensures.steps at c.loop-choice.invariant.all) in
    ((c.live_list.ensures.listed t c.args.n d).0 listed).1

pub tell-requires-clause-no_witness : goal.tell-requires-clause-no_witness
tell-requires-clause-no_witness c =
    let t = c.args.table.now in
    let d = c.in-Some.choice in
    let listed = Contains-between (live_choices t c.args.n) c.loop-choice.yielded c.next.new.self d (rw c.in-Some.ensures.steps at c.loop-choice.invariant.all) in
    All-contains (λ (x : Choice). ¬ IsRecordingWitness t (raw_choice_of x)) (live_choices t c.args.n) d c.requires.refuted listed

pub overflow_add-count : goal.overflow_add-count
overflow_add-count c =
    let t = c.args.table.now in
    let whole = ap (λ (cs : List Choice). length cs) (rw c.in-Some.ensures.steps at c.loop-choice.invariant.all) in
    let parts = length-append c.loop-choice.yielded (c.in-Some.choice ∷ c.next.new.self) in
    let few = live_few t c.args.n in
    let most = rw (c.states.ensures.number, c.operations.ensures.number) at c.count-most.ensures in
    omega (arith, whole, parts, few, most, c.loop-choice.invariant.count)

pub loop-choice-preserved : goal.loop-choice-preserved
loop-choice-preserved c =
    let i = c.loop-choice.invariant in record {
      can_next = tt;
      is_finite = tt;
      all = rw append_assoc (rw c.in-Some.ensures.steps at i.all);
      ways = c.in_ok-tell.ensures.ways c.loop-choice.yielded i.ways;
      known = c.in_ok-tell.ensures.known;
      count = omega (arith, i.count, length-append c.loop-choice.yielded (c.in-Some.choice ∷ []));
    }

pub overflow_sub-more : goal.overflow_sub-more
overflow_sub-more c =
    let i = c.loop-choice.invariant in omega (arith, c.len.ensures, told_few (IsRecoverableWayOf c.args.table.now) c.loop-choice.yielded c.loop-choice.ways.items c.args.all i.ways, i.count)

pub returns-clause-refutation : goal.returns-clause-refutation
returns-clause-refutation c =
    let t = c.args.table.now in
    let IsWay = IsRecoverableWayOf t in
    let i = c.loop-choice.invariant in
    let ways = c.loop-choice.ways.items in
    let whole : c.loop-choice.yielded ≡ live_choices t c.args.n =
    sym (append-nil c.loop-choice.yielded) ∙ (ap (λ (cs : List Choice). c.loop-choice.yielded ++ cs) (sym c.in-None.ensures.steps.0) ∙ i.all) in record {
      processes = refl;
      ways = subst (λ (cs : List Choice). AllZip IsWay (first_told c.args.all cs) ways) whole i.ways;
      count = i.count ∙ ap length whole;
      more = omega (arith, c.len.ensures, told_few IsWay c.loop-choice.yielded ways c.args.all i.ways, i.count);
    }

pub returns-clause-known : goal.returns-clause-known
returns-clause-known c =
    let i = c.loop-choice.invariant in record {
      some = c.requires.some;
      few = c.requires.few;
      ways = i.known;
      count = omega (arith, c.len.ensures, told_few (IsRecoverableWayOf c.args.table.now) c.loop-choice.yielded c.loop-choice.ways.items c.args.all i.ways, i.count);
    }
