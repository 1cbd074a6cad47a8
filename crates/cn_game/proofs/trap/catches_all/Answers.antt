use Rattle.std.proofs.Common.{◌≡◌, ◌∙◌, List, ◌++◌, length, length-append, ap, append-nil, append_assoc, arith, refl, subst, sym, All, true≢false, ℕ}
use Rattle.std.proofs.lemmas.List.Elements.{All-contains, All-push}
use Rattle.cn_table.proofs.Lists.{Contains-between}
use Rattle.cn_choice.specs.Canonical.{Choice, raw_choice_of}
use Rattle.cn_choice.specs.Live.{live_choices}
use Rattle.cn_choice.specs.RawChoices.{IsRawChoice, RawChoice}
use Rattle.cn_game.specs.TrapLists.{IsCaughtStart}
use Rattle.cn_game.proofs.trap.catches_all.Goals as goal

pub of-requires : goal.of-requires
of-requires c =
    let t = c.args.table.now in
    let d = c.in-Some.choice in
    let listed = Contains-between (live_choices t c.args.n) c.loop-choice.yielded c.next.new.self d (rw c.in-Some.ensures.steps at c.loop-choice.invariant.all) in
    let known = ((c.live_list.ensures.listed t c.args.n d).0 listed).1 in omega (arith, known.one_operation_each, length-append d.a d.b, c.requires.few)

pub is_caught-requires-clause-known : goal.is_caught-requires-clause-known
is_caught-requires-clause-known c =
    let t = c.args.table.now in
    let d = c.in-Some.choice in
    let listed = Contains-between (live_choices t c.args.n) c.loop-choice.yielded c.next.new.self d (rw c.in-Some.ensures.steps at c.loop-choice.invariant.all) in
    let known = ((c.live_list.ensures.listed t c.args.n d).0 listed).1 in
    subst (λ (x : RawChoice). IsRawChoice t (length x.operations) x) (sym c.of.ensures)
    (subst (λ (m : ℕ). IsRawChoice t m (raw_choice_of d)) (sym known.one_operation_each) known)

pub returns-then-not-is_caught : goal.returns-then-not-is_caught
returns-then-not-is_caught c =
    let t = c.args.table.now in
    let d = c.in-Some.choice in
    let listed = Contains-between (live_choices t c.args.n) c.loop-choice.yielded c.next.new.self d (rw c.in-Some.ensures.steps at c.loop-choice.invariant.all) in (
      λ f. absurd (true≢false (sym f)),
      λ all.
          let caught = All-contains (λ (x : Choice). IsCaughtStart t c.args.turns.now (raw_choice_of x)) (live_choices t c.args.n) d all listed in
          absurd (true≢false (sym (c.is_caught.ensures.1 (subst (λ (x : RawChoice). IsCaughtStart t c.args.turns.now x) (sym c.of.ensures) caught)) ∙ c.if-not-is_caught.true)),
    )

pub loop-choice-preserved : goal.loop-choice-preserved
loop-choice-preserved c =
    let t = c.args.table.now in
    let i = c.loop-choice.invariant in record {
      can_next = tt;
      is_finite = tt;
      all = rw append_assoc (rw c.in-Some.ensures.steps at i.all);
      caught = All-push (λ (x : Choice). IsCaughtStart t c.args.turns.now (raw_choice_of x)) c.loop-choice.yielded c.in-Some.choice i.caught
          (subst (λ (x : RawChoice). IsCaughtStart t c.args.turns.now x) c.of.ensures (c.is_caught.ensures.0 c.if-not-is_caught.false));
    }

pub returns : goal.returns
returns c =
    let t = c.args.table.now in
    let i = c.loop-choice.invariant in
    let whole : c.loop-choice.yielded ≡ live_choices t c.args.n =
    sym (append-nil c.loop-choice.yielded) ∙ (ap (λ (cs : List Choice). c.loop-choice.yielded ++ cs) (sym c.in-None.ensures.steps.0) ∙ i.all) in
    (λ _. subst (λ (cs : List Choice). All (λ (d : Choice). IsCaughtStart t c.args.turns.now (raw_choice_of d)) cs) whole i.caught, λ _. refl)
