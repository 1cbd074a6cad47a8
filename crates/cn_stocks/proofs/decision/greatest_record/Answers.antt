use Rattle.std.proofs.Common.{◌+◌, ◌∙◌, arith, refl, sym, true≢false}
use Rattle.cn_stocks.specs.declared.question.Question.TheVariants.{Recording}
use Rattle.cn_stocks.specs.Records.{SomeRecords}
use Rattle.cn_stocks.proofs.Decisions.{found_by, next_for, record_up_to}
use Rattle.cn_stocks.proofs.Fewer.{none_above}
use Rattle.cn_stocks.proofs.decision.greatest_record.Goals as goal

pub loop-n-init : goal.loop-n-init
loop-n-init g c = record {
  search_is = next_for Recording c.in_ok-none.none.question c.args.table.now 1 c.in_ok-search.search c.in_ok-none.ensures.0 c.in_ok-search.ensures;
  found = λ l. absurd (omega (arith, l));
  none = λ l. refl;
}

pub returns-then-not-some_holds : goal.returns-then-not-some_holds
returns-then-not-some_holds g c =
    let t = c.args.table.now in
    let n = c.loop-n.n in
    let i = c.loop-n.invariant in
    let next = next_for Recording c.loop-n.search.question t (n + 1) c.in_ok-search-2.search i.search_is.0 c.in_ok-search-2.ensures in
    let none : SomeRecords t (n + 1) → ⊥ = λ s. true≢false
    (sym ((found_by Recording t (n + 1) c.in_ok-search-2.search next c.some_holds.result c.some_holds.ensures).1 s) ∙ c.if-not-some_holds.true) in
    record_up_to t c.args.most n c.loop-n.greatest (omega (arith, c.loop-n-test.true)) i.found i.none
    (λ m l u. none_above Recording t (n + 1) (omega (arith, c.loop-n.auto.n)) none m (omega (arith, l)))

pub loop-n-preserved : goal.loop-n-preserved
loop-n-preserved g c =
    let t = c.args.table.now in
    let n = c.loop-n.n in
    let next = next_for Recording c.loop-n.search.question t (n + 1) c.in_ok-search-2.search c.loop-n.invariant.search_is.0 c.in_ok-search-2.ensures in record {
      search_is = next;
      found = λ l. (refl, (found_by Recording t (n + 1) c.in_ok-search-2.search next c.some_holds.result c.some_holds.ensures).0 c.if-not-some_holds.false);
      none = λ l. absurd (omega (arith, l, c.loop-n.auto.n));
    }

pub returns : goal.returns
returns g c =
    let i = c.loop-n.invariant in
    record_up_to c.args.table.now c.args.most c.loop-n.n c.loop-n.greatest (omega (arith, c.loop-n.auto.n-end)) i.found i.none
    (λ m l u. absurd (omega (arith, l, u, c.loop-n-test.false)))
