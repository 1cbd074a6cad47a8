use Rattle.std.proofs.Common.{◌≡◌, ◌∙◌, ap, arith, length, max, rules, sym}
use Rattle.std.proofs.lemmas.List.{take_all}
use Rattle.cn_text.specs.Columns.{names_of, widest}
use Rattle.cn_text.proofs.Widths.{short_in, widest_more}
use Rattle.cn_text.proofs.columns.widest_name.Goals as goal

pub loop-number-preserved : goal.loop-number-preserved
loop-number-preserved c =
    let wider : c.max-width.result ≡ max c.loop-number.width (length c.name.result.now) = search rules in
    wider ∙ (ap (λ w. max w (length c.name.result.now)) c.loop-number.invariant
    ∙ sym (widest_more (names_of c.args.table.now c.args.named) c.loop-number.number c.name.result.now c.name.ensures))

pub returns-clause-few : goal.returns-clause-few
returns-clause-few c =
    let short = short_in c.args.table.now c.args.named c.states-states.ensures.table in
    let all = c.loop-number.invariant ∙ ap widest (take_all c.loop-number.number (names_of c.args.table.now c.args.named) (omega arith)) in
    omega (arith, short, all)
