use Rattle.std.proofs.Common.{◌↔◌, [], ◌∷◌, ℕ, List, IsTrue, length, subst, sym}
use Rattle.std.proofs.lemmas.Result.{IfOk-weaker}
use Rattle.cn_joins.specs.Joins.{Join}
use Rattle.cn_stock_check.specs.Needs.{AreNeedsOf, ConnectFrom, ConnectWith, IsBegun}
use Rattle.cn_stock_check.proofs.StockLemmas.{begun_none, from_none}
use Rattle.cn_stock_check.proofs.stocks.connect_from.Goals as goal

pub returns : goal.returns
returns c =
    let t = c.args.table.now in
    IfOk-weaker c.all_connected.result
    (λ answer. (joins : List Join) (start : ℕ) (stock : List ℕ) → AreNeedsOf joins start 0 stock c.as_slice.result.now → IsBegun t 0 (0 ∷ 0 ∷ 0 ∷ 0 ∷ 0 ∷ 0 ∷ 0 ∷ 0 ∷ []) stock → IsTrue answer ↔ ConnectWith t joins start stock 0 (length t.operations) c.args.n)
    (λ answer. IsTrue answer ↔ ConnectFrom t c.args.n c.args.joins.now c.args.start)
    (λ answer h. from_none t c.args.joins.now c.args.start c.args.n answer
    (h c.args.joins.now c.args.start [] (subst (AreNeedsOf c.args.joins.now c.args.start 0 []) (sym c.as_slice.ensures.value) c.in_ok-needs.ensures.needs) (begun_none t)))
    c.all_connected.ensures
