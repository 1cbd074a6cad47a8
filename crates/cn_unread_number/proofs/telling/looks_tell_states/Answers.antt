use Rattle.std.proofs.Common.{inl, inr, sym, refl, ◌∙◌, subst, arith, true≢false}
use Rattle.std.proofs.lemmas.Bool.{cases_lt}
use Rattle.cn_unread.specs.Telling.{LooksTellStates}
use Rattle.cn_unread_number.specs.Agreeing.{IsSeen}
use Rattle.cn_unread_number.proofs.States.{all_tell_states}
use Rattle.cn_unread_number.proofs.telling.looks_tell_states.Goals as goal

pub returns-then-not-is_seen : goal.returns-then-not-is_seen
returns-then-not-is_seen c =
    let same = all_tell_states c.args.table.now c.args.looks.now.operations.items c.requires.silent in
    let none : ¬ LooksTellStates c.args.table.now c.args.looks.now.operations.items = λ tell. true≢false (sym (c.is_seen.ensures.1 (λ q l alike. tell c.loop-p.p q
    (omega (arith, c.loop-p-test.true, c.states-p-end.ensures.number)) l alike))
    ∙ c.if-not-is_seen.true) in
    record {
      all = (λ e. absurd (true≢false (sym e)), λ tell. absurd (none tell));
      some = (λ e. absurd (true≢false (sym e)), λ some. absurd (none (same.1 some)));
    }

pub loop-p-preserved : goal.loop-p-preserved
loop-p-preserved c = λ p l. elim (cases_lt p c.loop-p.p) [
  | inl low ↦ c.loop-p.invariant p low
  | inr high ↦ subst (IsSeen c.args.table.now c.args.looks.now.operations.items)
      (omega (arith, l, high)) (c.is_seen.ensures.0 c.if-not-is_seen.false)
]

pub returns-clause-some : goal.returns-clause-some
returns-clause-some c =
    let same = all_tell_states c.args.table.now c.args.looks.now.operations.items c.requires.silent in
    (λ _. same.0 (λ p q l m alike. c.loop-p.invariant p (omega (arith, l)) q m alike), λ _. refl)
