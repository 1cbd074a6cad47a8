use Rattle.std.proofs.Common.{◌∙◌, All, Contains, refl, subst, sym, true≢false}
use Rattle.std.proofs.lemmas.List.{take_all}
use Rattle.std.proofs.lemmas.List.Elements.{All-more}
use Rattle.cn_table.specs.TypeTable.{TypeTable, transition}
use Rattle.cn_stock_check.proofs.lasting.leads_into.Goals as goal

pub returns-then-not-is_among : goal.returns-then-not-is_among
returns-then-not-is_among c =
    let t : TypeTable = c.args.table.now in (
      λ f. absurd (true≢false (sym f)),
      λ all. absurd (true≢false (sym (c.is_among.ensures.1 (subst (Contains c.args.to.now) (sym c.next-found.ensures.value) (all c.loop-state.state-index 0 c.loop-state-test.true))) ∙ c.if-not-is_among.true)),
    )

pub loop-state-preserved : goal.loop-state-preserved
loop-state-preserved c =
    let t : TypeTable = c.args.table.now in
    All-more (λ q. Contains c.args.to.now (transition t c.args.operation.0 q).1) c.args.from.now c.loop-state.state-index 0 c.loop-state-test.true c.loop-state.invariant
    (subst (Contains c.args.to.now) c.next-found.ensures.value (c.is_among.ensures.0 c.if-not-is_among.false))

pub returns : goal.returns
returns c =
    let t : TypeTable = c.args.table.now in (
      λ f. subst (All (λ q. Contains c.args.to.now (transition t c.args.operation.0 q).1)) (take_all c.loop-state.state-index c.args.from.now c.loop-state-test.false) c.loop-state.invariant,
      λ all. refl,
    )
