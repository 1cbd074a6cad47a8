use Rattle.std.proofs.Common.{◌≡◌, ◌∙◌, Bool, codes, false, subst, sym, true}
use Rattle.cn_words.specs.GivenCommands.{is_flag_set, rows_in}
use Rattle.cn_words.proofs.GivenLemmas.{WantsChoices, WantsFind, WantsFindLimit, wants}
use Rattle.cn_words.proofs.commands.find.Goals as goal

pub returns-then-is_of_plan : goal.returns-then-is_of_plan
returns-then-is_of_plan c = λ command is.
    let rows = rows_in c.args.words.now in
    let unread = is_flag_set (codes "without-read") rows in
    let choices = subst (λ (k : Bool). WantsFind rows k (is_flag_set (codes "shortest") rows) unread) (sym c.is_by_stocks.ensures ∙ c.if-is_by_stocks.false) (wants (codes "find") rows command is) in
    let w = subst (λ (s : Bool). WantsChoices rows s unread) (sym c.is_shortest.ensures ∙ c.if-is_shortest.false) choices in
    let bad : true ≡ false = sym c.if-is_of_plan.true ∙ c.is_of_plan.ensures ∙ w.0 in
    cc

pub returns-in_err-optional_limit : goal.returns-in_err-optional_limit
returns-in_err-optional_limit c = rw c.from_residual.ensures (λ command is.
    let rows = rows_in c.args.words.now in
    let unread = is_flag_set (codes "without-read") rows in
    let choices = subst (λ (k : Bool). WantsFind rows k (is_flag_set (codes "shortest") rows) unread) (sym c.is_by_stocks.ensures ∙ c.if-is_by_stocks.false) (wants (codes "find") rows command is) in
    let w = subst (λ (s : Bool). WantsChoices rows s unread) (sym c.is_shortest.ensures ∙ c.if-is_shortest.false) choices in
    let limit = subst (WantsFindLimit rows) (sym c.is_unread.ensures ∙ c.if-is_unread.false) w.1 in
    c.in_err-optional_limit.ensures limit.0 limit.1)
