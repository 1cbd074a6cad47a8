use Rattle.std.proofs.Common.{List, ap, arith, subst, sym, true≢false, ℕ, ◌∙◌}
use Rattle.cn_meetings.specs.Sights.{sight_of}
use Rattle.cn_meetings.specs.declared.sight.Sight.{Sight}
use Rattle.cn_tree_costs.proofs.Numbers.{long_sum}
use Rattle.cn_tree_plans.specs.Listing.{SomeMeet}
use Rattle.cn_tree_plans.specs.Sights.{seen_count}
use Rattle.cn_tree_plans.proofs.ListingLemmas.{entries_are, meets_shown}
use Rattle.cn_tree_plans.proofs.shown.entries_of.Goals as goal

pub returns-then-some_meet : goal.returns-then-some_meet
returns-then-some_meet c =
    meets_shown c.args.table.now c.args.meeting.now c.args.sizes.now c.args.k c.requires.meeting c.in_ok-sets.sets.items c.in_ok-sets.ensures
    (subst (λ (sets : List (List ℕ)). SomeMeet sets) c.deref.ensures.value (c.some_meet.ensures.0 c.if-some_meet.true))

pub entries-requires-clause-few : goal.entries-requires-clause-few
entries-requires-clause-few c =
    rw c.deref-2.ensures.value
    (omega (arith, c.in_ok-sets.ensures.count, long_sum c.args.sizes.now c.requires.sizes.inhabited, c.requires.sizes.whole, c.requires.meeting.few))

pub returns : goal.returns
returns c =
    entries_are c.args.table.now c.args.meeting.now c.args.sizes.now c.args.k c.requires.meeting c.in_ok-sets.sets.items c.in_ok-sets.ensures
    c.responses.result c.seen_count-limit.result c.in_ok-judged.judged.items c.responses.ensures.number (c.seen_count-limit.ensures.number ∙ ap (λ (s : Sight). seen_count c.args.table.now (sight_of s)) c.sight.ensures)
    (λ h. true≢false (sym (c.some_meet.ensures.1 (subst (λ (sets : List (List ℕ)). SomeMeet sets) (sym c.deref.ensures.value) h)) ∙ c.if-some_meet.false))
    (rw c.deref-2.ensures.value at c.in_ok-judged.ensures)
