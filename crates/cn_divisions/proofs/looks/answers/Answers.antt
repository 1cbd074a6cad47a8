use Rattle.std.proofs.Common.{ℕ, ◌≡◌, ◌<◌, ◌↔◌, arith, length, subst}
use Rattle.std.specs.Prelude.{IsBitSet}
use Rattle.cn_stocks.specs.Each.{EachAt}
use Rattle.cn_stocks.proofs.EachLemmas.{each_none, each_push}
use Rattle.cn_stocks.proofs.StockLemmas.{count_push}
use Rattle.cn_table.specs.TypeTable.{TypeTable, transition}
use Rattle.cn_divisions.proofs.looks.answers.Goals as goal

abbrev Answers : TypeTable → ℕ → ℕ → ℕ → Type 0
Answers t o r set = (q : ℕ) → IsBitSet set q ↔ ((q < length t.states) × ((transition t o q).0 ≡ r))

pub loop-response-init : goal.loop-response-init
loop-response-init c = (let none = each_none (Answers c.args.table.now c.args.operation.0) c.new-sets.result.items c.new-sets.ensures in record { long = none.0; each = none })

pub loop-response-preserved : goal.loop-response-preserved
loop-response-preserved c =
    let i = c.loop-response.invariant in
    let k = c.loop-response.response in
    let new = c.push.new.self.items in
    record {
      long = count_push c.loop-response.sets.items new c.answering.result k c.push.ensures.items i.long;
      each = each_push (Answers c.args.table.now c.args.operation.0) c.loop-response.sets.items new c.answering.result k c.push.ensures.items i.each c.answering.ensures;
    }

pub returns : goal.returns
returns c =
    let end : c.loop-response.response ≡ length c.args.table.now.responses = omega (arith, c.loop-response-test.false, c.loop-response.auto.response-end, c.responses-response-end.ensures.number) in
    subst (λ (k : ℕ). EachAt (Answers c.args.table.now c.args.operation.0) k c.loop-response.sets.items) end c.loop-response.invariant.each
