use Rattle.std.proofs.Common.{◌≡◌, ◌∷◌, ◌-◌, ℕ, List, ap, arith, refl, ◌∙◌, subst, true, nat_le}
use Rattle.std.specs.List.{list_all}
use Rattle.std.proofs.lemmas.List.{take_all}
use Rattle.cn_choice.specs.declared.limits.TheConstants.{MOST_PROCESSES}
use Rattle.cn_check.proofs.PieceLemmas.{number_past, numbers_end, small_past}
use Rattle.cn_check.proofs.pieces.behind_numbers.Goals as goal

pub loop-n-init : goal.loop-n-init
loop-n-init c = record { text = λ rest e. c.in_ok-first.ensures ∙ ap (λ (v : List ℕ). 91 ∷ v) e; small = refl }

pub loop-n-preserved : goal.loop-n-preserved
loop-n-preserved c = record {
  text = λ rest e. c.loop-n.invariant.text rest (number_past c.loop-n.later c.args.list.now c.loop-n.n-index _ _ rest (omega (arith, c.loop-n-test.true)) c.in_ok-left.ensures.text e);
  small = small_past (MOST_PROCESSES - 1) c.args.list.now c.loop-n.n-index (omega (arith, c.loop-n-test.true)) (omega (arith, c.in_ok-left.ensures.small)) c.loop-n.invariant.small;
}

pub returns-clause-text : goal.returns-clause-text
returns-clause-text c = c.loop-n.invariant.text _ (numbers_end c.loop-n.later c.args.list.now c.loop-n.n-index _ _ (omega arith) c.in_ok-rest.ensures)

pub returns-clause-small : goal.returns-clause-small
returns-clause-small c = subst (λ (xs : List ℕ). list_all (λ n. nat_le n (MOST_PROCESSES - 1)) xs ≡ true) (take_all c.loop-n.n-index c.args.list.now (omega arith)) c.loop-n.invariant.small
