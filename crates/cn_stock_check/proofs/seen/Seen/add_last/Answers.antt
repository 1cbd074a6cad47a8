use Rattle.std.proofs.Common.{◌↔◌, ◌∙◌, ℕ, subst, sym, arith, true≢false}
use Rattle.cn_stock_check.specs.Seen.{ComesNext}
use Rattle.cn_stock_check.specs.Sets.{IsIn}
use Rattle.cn_stock_check.proofs.SeenLemmas.{comes_more, comes_same, leads_by, shows_by_last}
use Rattle.cn_stock_check.proofs.seen.Seen.add_last.Goals as goal
use Rattle.cn_stock_check.proofs.seen.Seen.add_last.Goals.{then-is_among, else-is_among}

pub returns-then-operation-question-clause-states : goal.returns-then-operation-question-clause-states
returns-then-operation-question-clause-states c q =
    leads_by c.args.question.now.table.now c.args.question.now.start.0 c.args.question.now.team.now c.args.operation c.args.less.now.states c.if-is_among.before (λ p. elim c.if-is_among.branch [
      | then-is_among w ↦ subst (λ (set : ℕ). IsIn set p ↔ ComesNext c.args.question.now.start.0 c.args.question.now.team.now c.args.operation c.args.less.now.states p) (sym w.before-is)
          (comes_more c.args.question.now.table.now c.args.question.now.start.0 c.args.question.now.team.now c.args.operation c.args.less.now.states p (c.is_among.ensures.0 w.if-is_among.true) (IsIn w.union-before.result p) (IsIn w.only.result p)
          (w.union-before.ensures p) (w.only.ensures p))
      | else-is_among w ↦ subst (λ (set : ℕ). IsIn set p ↔ ComesNext c.args.question.now.start.0 c.args.question.now.team.now c.args.operation c.args.less.now.states p) (sym w.before-is)
          (comes_same c.args.question.now.table.now c.args.question.now.start.0 c.args.question.now.team.now c.args.operation c.args.less.now.states p (λ h. true≢false (sym (c.is_among.ensures.1 h) ∙ w.if-is_among.false)))
    ]) q (IsIn c.args.self.now.states q) (IsIn c.after.result q) (IsIn c.union-self.result q) (c.after.ensures q) (c.union-self.ensures q)

pub returns-else-operation-question-clause-states : goal.returns-else-operation-question-clause-states
returns-else-operation-question-clause-states c q =
    leads_by c.args.question.now.table.now c.args.question.now.start.0 c.args.question.now.team.now c.args.operation c.args.less.now.states c.if-is_among.before (λ p. elim c.if-is_among.branch [
      | then-is_among w ↦ subst (λ (set : ℕ). IsIn set p ↔ ComesNext c.args.question.now.start.0 c.args.question.now.team.now c.args.operation c.args.less.now.states p) (sym w.before-is)
          (comes_more c.args.question.now.table.now c.args.question.now.start.0 c.args.question.now.team.now c.args.operation c.args.less.now.states p (c.is_among.ensures.0 w.if-is_among.true) (IsIn w.union-before.result p) (IsIn w.only.result p)
          (w.union-before.ensures p) (w.only.ensures p))
      | else-is_among w ↦ subst (λ (set : ℕ). IsIn set p ↔ ComesNext c.args.question.now.start.0 c.args.question.now.team.now c.args.operation c.args.less.now.states p) (sym w.before-is)
          (comes_same c.args.question.now.table.now c.args.question.now.start.0 c.args.question.now.team.now c.args.operation c.args.less.now.states p (λ h. true≢false (sym (c.is_among.ensures.1 h) ∙ w.if-is_among.false)))
    ]) q (IsIn c.args.self.now.states q) (IsIn c.after.result q) (IsIn c.union-self.result q) (c.after.ensures q) (c.union-self.ensures q)

pub returns-then-operation-question-clause-pairs : goal.returns-then-operation-question-clause-pairs
returns-then-operation-question-clause-pairs c r q =
    shows_by_last c.args.question.now.table.now c.args.question.now.start.0 c.args.question.now.team.now c.args.operation c.args.question.now.asked c.args.less.now c.if-is_among.before (λ p. elim c.if-is_among.branch [
      | then-is_among w ↦ subst (λ (set : ℕ). IsIn set p ↔ ComesNext c.args.question.now.start.0 c.args.question.now.team.now c.args.operation c.args.less.now.states p) (sym w.before-is)
          (comes_more c.args.question.now.table.now c.args.question.now.start.0 c.args.question.now.team.now c.args.operation c.args.less.now.states p (c.is_among.ensures.0 w.if-is_among.true) (IsIn w.union-before.result p) (IsIn w.only.result p)
          (w.union-before.ensures p) (w.only.ensures p))
      | else-is_among w ↦ subst (λ (set : ℕ). IsIn set p ↔ ComesNext c.args.question.now.start.0 c.args.question.now.team.now c.args.operation c.args.less.now.states p) (sym w.before-is)
          (comes_same c.args.question.now.table.now c.args.question.now.start.0 c.args.question.now.team.now c.args.operation c.args.less.now.states p (λ h. true≢false (sym (c.is_among.ensures.1 h) ∙ w.if-is_among.false)))
    ]) r q _ _ _ (omega arith) (c.add_after.ensures r q) (c.add_answers.ensures r q)
