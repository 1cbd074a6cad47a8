use Rattle.std.proofs.Common.{ℕ, ◌+◌, ◌∙◌, Global, inl, inr, arith, subst, sym, true≢false}
use Rattle.std.specs.declared.vec.Vec.{Vec}
use Rattle.std.specs.Prelude.{IsBitSet, IsSome}
use Rattle.cn_outcomes.proofs.Packing.{below_or_last}
use Rattle.cn_divisions.specs.declared.divisions.Division.{Division}
use Rattle.cn_divisions.specs.Joins.{IsSplit}
use Rattle.cn_meetings.specs.Sights.{sight_of}
use Rattle.cn_divisions.proofs.Extending.{FoundTo, extended_same, found_more, found_none, found_skip, less_set}
use Rattle.cn_divisions.proofs.search.add_stock.Goals as goal
use Rattle.cn_divisions.proofs.search.add_stock.Goals.{then-may_split+in-Some+in_ok-add, then-may_split+in_default, else-may_split}

pub less_starts-less-requires-clause-long : goal.less_starts-less-requires-clause-long
less_starts-less-requires-clause-long c = c.requires.starts.0

pub loop-start-init : goal.loop-start-init
loop-start-init c = record {
  found_to = record { are = c.requires.are; once = c.requires.once; kept = extended_same c.args.found.now.items; done = λ M m l same. absurd (omega (arith, l)) };
  split = λ q l s. absurd (omega (arith, l));
}

pub loop-start-preserved : goal.loop-start-preserved
loop-start-preserved c =
    let s = c.args.setting.now in
    let t = s.table.now in
    let items = s.stock.now.operations.items in
    let sight = sight_of c.args.look.now.sight in
    let k = c.loop-start.start in
    let old = c.args.found.now.items in
    let found = c.loop-start.found.items in
    let i = c.loop-start.invariant in
    elim c.if-may_split.branch [
      | then-may_split+in-Some+in_ok-add w ↦ record {
        found_to = subst (λ (v : Vec Division Global). FoundTo t sight items old (k + 1) v.items) (sym w.found-is)
            (found_more t sight items old k found w.add.new.found.items w.finest.result w.in-Some.division w.in-Some.is w.finest.ensures.all w.in-Some.ensures.is w.in_ok-add.ensures.added w.in_ok-add.ensures.has i.found_to);
        split = λ q l a. subst (λ (set : ℕ). IsBitSet set q) (sym w.set-is) ((w.with-set.ensures q).1 (elim (below_or_last q k l) [ inl b ↦ inl (i.split q b a) | inr e ↦ inr e ]));
      }
      | then-may_split+in_default w ↦ record {
        found_to = subst (λ (v : Vec Division Global). FoundTo t sight items old (k + 1) v.items) (sym w.found-is) (found_none t sight items old k found w.finest.result w.in_default.is w.finest.ensures.all i.found_to);
        split = λ q l a. subst (λ (set : ℕ). IsBitSet set q) (sym w.set-is) (elim (below_or_last q k l) [
          | inl b ↦ i.split q b a
          | inr e ↦ absurd (true≢false (sym (subst IsSome w.in_default.is (w.finest.ensures.split (subst (λ (u : ℕ). IsSplit t sight u items) e a)))))
        ]);
      }
      | else-may_split w ↦ (
          let not_there = c.may_split.ensures (λ h. true≢false (sym h ∙ w.if-may_split.false)) in
          let none : ¬ IsSplit t sight k items = λ a. not_there.1 (less_set s sight c.less_starts-less.result (c.less_starts-less.ensures sight c.requires.starts) not_there.0 k
          (omega (arith, c.loop-start-test.true, c.states-start-end.ensures.number)) a) in
          record {
            found_to = subst (λ (v : Vec Division Global). FoundTo t sight items old (k + 1) v.items) (sym w.found-is) (found_skip t sight items old k found not_there.0 none i.found_to);
            split = λ q l a. subst (λ (set : ℕ). IsBitSet set q) (sym w.set-is) (elim (below_or_last q k l) [
              | inl b ↦ i.split q b a
              | inr e ↦ absurd (none (subst (λ (u : ℕ). IsSplit t sight u items) e a))
            ]);
          }
          )
    ]

pub returns-clause-are : goal.returns-clause-are
returns-clause-are c = c.loop-start.invariant.found_to.are

pub returns-clause-once : goal.returns-clause-once
returns-clause-once c = c.loop-start.invariant.found_to.once

pub returns-clause-kept : goal.returns-clause-kept
returns-clause-kept c = c.loop-start.invariant.found_to.kept

pub returns-clause-all : goal.returns-clause-all
returns-clause-all c M m same = c.loop-start.invariant.found_to.done M m (let l = m.start in omega (arith, l, c.loop-start-test.false, c.states-start-end.ensures.number)) same

pub returns-clause-starts : goal.returns-clause-starts
returns-clause-starts c q l a = c.loop-start.invariant.split q (omega (arith, l, c.loop-start-test.false, c.states-start-end.ensures.number)) a
