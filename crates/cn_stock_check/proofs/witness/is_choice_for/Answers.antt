use Rattle.std.proofs.Common.{◌∙◌, sym, true≢false}
use Rattle.cn_stock_check.proofs.witness.is_choice_for.Goals as goal

pub returns-else-is_of : goal.returns-else-is_of
returns-else-is_of c = (
  λ f. absurd (true≢false (sym f ∙ c.if-is_of.false)),
  λ is. (let k = (c.choice_by_teams.ensures c.args.table.now c.args.n c.args.choice.now).0 is in
      absurd (true≢false (sym (c.is_of.ensures.1 (k.known_state, k.a_known, k.b_known)) ∙ c.if-is_of.false))),
)
