use Rattle.std.proofs.Common.{◌≡◌, ◌+◌, ◌∙◌, arith, refl, subst, sym, true≢false}
use Rattle.cn_stocks.specs.declared.question.Question.TheVariants.{Splitting}
use Rattle.cn_stocks.specs.Splits.{SomeSplits}
use Rattle.cn_stocks.proofs.Decisions.{found_by, next_for}
use Rattle.cn_stocks.proofs.Fewer.{none_from}
use Rattle.cn_stocks.proofs.decision.is_discerning.Goals as goal
use Rattle.cn_stocks.proofs.decision.is_discerning.Goals.{else-size-ge2-via-then-size-ge2+else-not-some_holds, else-size-ge2-via-else-size-ge2}

pub returns-then-not-some_holds : goal.returns-then-not-some_holds
returns-then-not-some_holds g c =
    let t = c.args.table.now in
    let n = c.args.n in
    let size = c.loop-size.size in
    let next = next_for Splitting c.loop-size.search.question t (size + 1) c.in_ok-search-2.search c.loop-size.invariant.search_is.0 c.in_ok-search-2.ensures in
    let none : SomeSplits t (size + 1) → ⊥ = λ s. true≢false (sym ((found_by Splitting t (size + 1) c.in_ok-search-2.search next c.some_holds.result c.some_holds.ensures).1 s) ∙ c.if-not-some_holds.true) in (
      λ yes. absurd (true≢false (sym yes)),
      λ d. absurd (none_from t (size + 1) n (omega (arith, c.if-size-ge2.true)) none n (omega (arith, c.loop-size-test.true)) (omega arith) ((c.splits_decide.ensures t n c.requires.some).0 d)),
    )

pub returns : goal.returns
returns g c =
    let t = c.args.table.now in
    let n = c.args.n in
    let all : c.loop-size.size ≡ n = omega (arith, c.loop-size-test.false, c.loop-size.auto.size-end) in
    (λ _. (c.splits_decide.ensures t n c.requires.some).1 (subst (SomeSplits t) all (c.loop-size.invariant.splits (omega (arith, all, c.requires.some)))), λ _. refl)

pub loop-size-preserved : goal.loop-size-preserved
loop-size-preserved g c =
    let t = c.args.table.now in
    let size = c.loop-size.size in
    let next = next_for Splitting c.loop-size.search.question t (size + 1) c.in_ok-search-2.search c.loop-size.invariant.search_is.0 c.in_ok-search-2.ensures in record {
      search_is = next;
      splits = λ l. elim c.else-size-ge2.branch [
        | else-size-ge2-via-then-size-ge2+else-not-some_holds w ↦ (found_by Splitting t (size + 1) c.in_ok-search-2.search next w.some_holds.result w.some_holds.ensures).0 w.if-not-some_holds.false
        | else-size-ge2-via-else-size-ge2 w ↦ absurd (omega (arith, l, w.if-size-ge2.false))
      ];
    }
