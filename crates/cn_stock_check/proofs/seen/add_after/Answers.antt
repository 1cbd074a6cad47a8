use Rattle.std.proofs.Common.{◌≡◌, ◌<◌, ◌∙◌, inl, inr, ℕ, List, get_or, length, length-set, arith}
use Rattle.cn_table.specs.TypeTable.{transition}
use Rattle.cn_stock_check.specs.Sets.{IsIn}
use Rattle.cn_stock_check.proofs.SetLemmas.{added_more, all_added, still_open}
use Rattle.cn_stock_check.proofs.seen.add_after.Goals as goal

pub loop-response-preserved : goal.loop-response-preserved
loop-response-preserved c =
    let t = c.args.table.now in
    let o = c.args.operation.0 in
    let k = c.loop-response.response in
    let old : List ℕ = c.loop-response.pairs in
    let first : List ℕ = c.args.pairs.now in
    let i = c.loop-response.invariant in
    let X : ℕ → ℕ → Type 0 = λ r q. (p : ℕ) × (p < length t.states) × IsIn (get_or c.args.from.now r 0) p × ((transition t o p).1 ≡ q) in
    let l : k < length old = omega (arith, i.long, c.loop-response-test.true) in record {
      long = length-set old k c.union.result ∙ i.long;
      done = added_more X first old k c.union.result l i.done (i.rest k (omega arith)) (λ q. (
        (λ h. elim ((c.union.ensures q).0 h) [ inl a ↦ inl a | inr b ↦ inr ((c.after-states.ensures q).0 b) ]),
        (λ h. (c.union.ensures q).1 (elim h [ inl a ↦ inl a | inr b ↦ inr ((c.after-states.ensures q).1 b) ])),
      ));
      rest = still_open X first old k c.union.result l i.rest;
    }

pub returns : goal.returns
returns c =
    let t = c.args.table.now in
    let o = c.args.operation.0 in
    let k = c.loop-response.response in
    let first : List ℕ = c.args.pairs.now in
    let i = c.loop-response.invariant in
    let X : ℕ → ℕ → Type 0 = λ r q. (p : ℕ) × (p < length t.states) × IsIn (get_or c.args.from.now r 0) p × ((transition t o p).1 ≡ q) in
    all_added X first c.loop-response.pairs c.args.from.now k (omega (arith, c.told-pairs, c.loop-response-test.false)) (omega (arith, i.long, c.loop-response-test.false))
    (omega (arith, c.told-from, c.loop-response-test.false)) (λ r q x. (x.0, x.2)) i.done
