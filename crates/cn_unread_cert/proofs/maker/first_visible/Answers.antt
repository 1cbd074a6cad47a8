use Rattle.std.proofs.Common.{◌≡◌, ◌+◌, ◌≤◌, ◌∙◌, ℕ, List, ◌++◌, All, length, length-append, ap, append-nil, append_assoc, arith, subst, sym, true≢false}
use Rattle.std.proofs.lemmas.List.Elements.{All-push}
use Rattle.cn_table.proofs.Lists.{Contains-between}
use Rattle.cn_table.specs.TypeTable.{TypeTable}
use Rattle.cn_choice.specs.declared.limits.TheConstants.{MOST_PROCESSES}
use Rattle.cn_choice.specs.Canonical.{Choice, FitsTable, raw_choice_of}
use Rattle.cn_choice.specs.Live.{live_choices}
use Rattle.cn_choice.specs.RawChoices.{IsRawChoice}
use Rattle.cn_views.specs.VisibleChoices.{SomeLooksTell}
use Rattle.cn_unread_cert.proofs.maker.first_visible.Goals as goal

fits : (t : TypeTable) (n : ℕ) (d : Choice) → 2 ≤ n → n ≤ MOST_PROCESSES → IsRawChoice t n (raw_choice_of d) → FitsTable t d
fits t n d some few is =
    let long : length d.a + length d.b ≡ n = sym (length-append d.a d.b) ∙ is.one_operation_each in record {
      fits = subst (λ (m : ℕ). IsRawChoice t m (raw_choice_of d)) (sym long) is;
      some = omega (arith, long, some);
      few = omega (arith, long, few);
    }

pub tell-requires-clause-fits : goal.tell-requires-clause-fits
tell-requires-clause-fits c =
    let t = c.args.table.now in
    let d = c.in-Some.choice in
    let listed = Contains-between (live_choices t c.args.n) c.loop-choice.yielded c.next.new.self d (rw c.in-Some.ensures.steps at c.loop-choice.invariant.all) in
    fits t c.args.n d c.requires.some c.requires.few ((c.live_list.ensures.listed t c.args.n d).0 listed).1

pub returns-then-tell-clause-shown : goal.returns-then-tell-clause-shown
returns-then-tell-clause-shown c =
    let t = c.args.table.now in
    let d = c.in-Some.choice in
    let listed = Contains-between (live_choices t c.args.n) c.loop-choice.yielded c.next.new.self d (rw c.in-Some.ensures.steps at c.loop-choice.invariant.all) in
    (((c.live_list.ensures.listed t c.args.n d).0 listed).1, c.tell.ensures.some.0 c.if-tell.true)

pub loop-choice-preserved : goal.loop-choice-preserved
loop-choice-preserved c =
    let t = c.args.table.now in
    let i = c.loop-choice.invariant in record {
      can_next = tt;
      is_finite = tt;
      all = rw append_assoc (rw c.in-Some.ensures.steps at i.all);
      none = All-push (λ (d : Choice). ¬ SomeLooksTell t (raw_choice_of d)) c.loop-choice.yielded c.in-Some.choice i.none (λ s. true≢false (sym (c.tell.ensures.some.1 s) ∙ c.if-tell.false));
    }

pub returns-clause-none : goal.returns-clause-none
returns-clause-none c =
    let t = c.args.table.now in
    let i = c.loop-choice.invariant in
    let whole : c.loop-choice.yielded ≡ live_choices t c.args.n =
    sym (append-nil c.loop-choice.yielded) ∙ (ap (λ (cs : List Choice). c.loop-choice.yielded ++ cs) (sym c.in-None.ensures.steps.0) ∙ i.all) in
    subst (λ (cs : List Choice). All (λ (d : Choice). ¬ SomeLooksTell t (raw_choice_of d)) cs) whole i.none
