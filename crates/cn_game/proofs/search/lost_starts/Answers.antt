use Rattle.std.proofs.Common.{length, length-append, append_assoc, arith, subst, sym, ℕ}
use Rattle.cn_table.proofs.Lists.{Contains-between}
use Rattle.cn_choice.specs.Canonical.{raw_choice_of}
use Rattle.cn_choice.specs.Live.{live_choices}
use Rattle.cn_choice.specs.RawChoices.{IsRawChoice, RawChoice}
use Rattle.cn_game.proofs.search.lost_starts.Goals as goal

pub of-requires : goal.of-requires
of-requires c =
    let t = c.args.table.now in
    let d = c.in-Some.choice in
    let listed = Contains-between (live_choices t c.args.n) c.loop-choice.yielded c.next.new.self d (rw c.in-Some.ensures.steps at c.loop-choice.invariant.all) in
    let known = ((c.live_list.ensures.listed t c.args.n d).0 listed).1 in omega (arith, known.one_operation_each, length-append d.a d.b, c.requires.few)

pub add_lost_start-requires-clause-known : goal.add_lost_start-requires-clause-known
add_lost_start-requires-clause-known c =
    let t = c.args.table.now in
    let d = c.in-Some.choice in
    let listed = Contains-between (live_choices t c.args.n) c.loop-choice.yielded c.next.new.self d (rw c.in-Some.ensures.steps at c.loop-choice.invariant.all) in
    let known = ((c.live_list.ensures.listed t c.args.n d).0 listed).1 in
    subst (λ (x : RawChoice). IsRawChoice t (length x.operations) x) (sym c.of.ensures)
    (subst (λ (m : ℕ). IsRawChoice t m (raw_choice_of d)) (sym known.one_operation_each) known)

pub loop-choice-preserved : goal.loop-choice-preserved
loop-choice-preserved c = record {
  can_next = tt;
  is_finite = tt;
  all = rw append_assoc (rw c.in-Some.ensures.steps at c.loop-choice.invariant.all);
}
