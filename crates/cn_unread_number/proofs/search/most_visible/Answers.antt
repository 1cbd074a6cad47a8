use Rattle.std.proofs.Common.{ℕ, ◌+◌, ◌≤◌, inl, inr, arith, refl, sym, ◌∙◌, subst, Option, IfSome}
use Rattle.std.proofs.lemmas.Bool.{cases_lt}
use Rattle.cn_unread_number.specs.declared.search.TheConstants.{MOST_CHOICES}
use Rattle.cn_unread_number.proofs.WithReads.{below_most, most_shown, none_visible}
use Rattle.cn_unread_number.proofs.search.most_visible.Goals as goal
use Rattle.cn_unread_number.proofs.search.most_visible.Goals.{in-Some, in-None}

pub loop-least-init : goal.loop-least-init
loop-least-init c = elim c.match-most.branch [
  | in-Some w ↦ (let first = most_shown c.args.table.now c.args.number c.requires _ (sym c.most_with_reads-most.ensures ∙ w.in-Some.is) in
      rw (w.why-is, w.in-Some.is) (refl, record { one = omega arith; by = refl; why = first.0; ordered = first.1 }, sym w.in-Some.is ∙ c.most_with_reads-most.ensures))
  | in-None w ↦ rw (w.why-is, w.in-None.is) (refl, record { one = omega arith; by = refl; why = refl; ordered = tt }, sym w.in-None.is ∙ c.most_with_reads-most.ensures)
]

pub returns-in_default-clause-visible : goal.returns-in_default-clause-visible
returns-in_default-clause-visible c = λ n few visible. elim (cases_lt c.loop-least.shown.least n) [
  | inl above ↦ (let m : ℕ = c.loop-least.least + 1 in
      let seen = visible m (omega (arith, c.loop-least.auto.least)) (omega (arith, above, c.loop-least.invariant.0)) in
      absurd (none_visible c.args.table.now m MOST_CHOICES seen.0 c.in_default.ensures.none seen.1))
  | inr below ↦ below
]

pub returns-clause-visible : goal.returns-clause-visible
returns-clause-visible c = λ n few visible. elim (cases_lt c.loop-least.shown.least n) [
  | inl above ↦ (let high = c.greatest-least-end.ensures.all n few
      (subst (λ (most : Option ℕ). IfSome most (λ m. n ≤ m)) (sym c.most_with_reads-most.ensures)
      (below_most c.live_choices_decide.ensures.shown c.args.table.now c.args.number c.requires n few visible)) in
      omega (arith, above, high, c.loop-least.invariant.0, c.loop-least-test.false))
  | inr below ↦ below
]
