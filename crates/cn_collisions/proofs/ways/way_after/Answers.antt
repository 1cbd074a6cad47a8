use Rattle.std.proofs.Common.{ℕ, ◌≡◌, ◌∙◌, ◌+◌, ◌-◌, [], append-nil, length, arith, ap, refl, sym, subst}
use Rattle.cn_choice.specs.RawChoices.{RawChoice}
use Rattle.cn_collisions.specs.Steps.{LeadsOnward}
use Rattle.cn_collisions.proofs.OpeningLemmas.{goes_more, goes_start}
use Rattle.cn_collisions.proofs.WayLemmas.{first_end, some_way}
use Rattle.cn_collisions.proofs.ways.way_after.Goals as goal

pub loop-moved-init : goal.loop-moved-init
loop-moved-init c =
    let a = c.args in
    let v = a.view.now in
    let at = a.step.now.prefix in
    let all : a.left ≡ a.left - 0 = omega arith in
    record {
      prefix = c.requires.prefix;
      room = omega (arith, c.requires.left);
      short = omega (arith, c.requires.short, c.push.ensures.len);
      leads = subst (λ (k : ℕ). LeadsOnward v a.target.now k at) all c.requires.leads;
      whole = goes_start v a.target.now a.left at _ (a.left - 0) c.push.new.self.items (sym all) c.push.ensures.items;
    }

-- some way leads on, so there is a next step
pub unreachable-requires : goal.unreachable-requires
unreachable-requires c =
    let a = c.args in
    let v = a.view.now in
    let at = c.loop-moved.at in
    let l = c.loop-moved.invariant.leads in
    let every : c.len-n.result ≡ length v.raw.now.operations = omega (arith, ap (λ (r : RawChoice). length r.operations) c.raw.view_is, c.len-n.ensures.value) in
    some_way v.sets.now.table.now v.raw.now v.process a.target.now (a.left - c.loop-moved.moved) c.len-n.result at.used at.state.0 at.seen every l.0 l.1.0 l.1.1 l.1.2 c.in_default.ensures.none

pub loop-moved-preserved : goal.loop-moved-preserved
loop-moved-preserved c =
    let a = c.args in
    let v = a.view.now in
    let i = c.loop-moved.invariant in
    let next = c.in-Some.next in
    let is = c.in-Some.ensures.step in
    let every : c.len-n.result ≡ length v.raw.now.operations = omega (arith, ap (λ (r : RawChoice). length r.operations) c.raw.view_is, c.len-n.ensures.value) in
    let some = c.loop-moved-test.true in
    let fewer : a.left - (c.loop-moved.moved + 1) ≡ a.left - c.loop-moved.moved - 1 = omega arith in
    record {
      prefix = is.step.prefix;
      room = omega (arith, i.room, is.step.room, some);
      short = omega (arith, i.short, c.push-in-loop-moved.ensures.len, some);
      leads = subst (λ (k : ℕ). LeadsOnward v a.target.now k next.prefix) (sym fewer) is.leads;
      whole = goes_more v a.target.now a.left a.step.now.prefix _ (a.left - c.loop-moved.moved) c.len-n.result c.loop-moved.at c.loop-moved.order.items (omega (arith, some)) every next is
          c.push-in-loop-moved.new.self.items c.push-in-loop-moved.ensures.items i.whole (a.left - (c.loop-moved.moved + 1)) fewer;
    }

pub returns-clause-way : goal.returns-clause-way
returns-clause-way c =
    let a = c.args in
    let v = a.view.now in
    let at = c.loop-moved.at in
    let i = c.loop-moved.invariant in
    let l = i.leads in
    let none : a.left - c.loop-moved.moved ≡ 0 = omega (arith, c.loop-moved-test.false) in
    let end = first_end v.sets.now.table.now v.raw.now v.process a.target.now (a.left - c.loop-moved.moved) (length v.raw.now.operations) at.used at.state.0 at.seen refl none l.0 l.1.0 l.1.1 l.1.2
    (c.in-Some-seen.response, at.state.0) c.in-Some-seen.is refl in
    let all = i.whole [] (c.in-Some-seen.response, at.state.0) end in
    (all.0, sym (append-nil c.loop-moved.order.items) ∙ all.1, all.2)
