use Rattle.std.proofs.Common.{◌≡◌, ◌+◌, ◌∙◌, arith, subst, sym, true≢false}
use Rattle.cn_telling.specs.Telling.{SomeTells}
use Rattle.cn_telling.proofs.exact.last_search.Goals as goal
use Rattle.cn_telling.proofs.exact.last_search.Goals.{else-n-ge2-via-then-n-ge2+else-not-some_tells, else-n-ge2-via-else-n-ge2}

pub loop-n-init : goal.loop-n-init
loop-n-init g c = record {
  search_is = c.in_ok-search.ensures;
  tells = λ l. absurd (omega (arith, l));
}

pub returns-then-not-some_tells : goal.returns-then-not-some_tells
returns-then-not-some_tells g c =
    let t = c.args.table.now in
    let n = c.loop-n.n in record {
      some = omega (arith, c.if-n-ge2.true);
      few = c.loop-n-test.true;
      search_is = c.in_ok-search-2.ensures.search;
      tells = c.loop-n.invariant.tells;
      none = λ s. true≢false (sym ((c.some_tells.ensures t (n + 1) c.in_ok-search-2.ensures.search).1 s) ∙ c.if-not-some_tells.true);
    }

pub loop-n-preserved : goal.loop-n-preserved
loop-n-preserved g c =
    let t = c.args.table.now in
    let n = c.loop-n.n in record {
      search_is = c.in_ok-search-2.ensures.search;
      tells = λ l. elim c.else-n-ge2.branch [
        | else-n-ge2-via-then-n-ge2+else-not-some_tells w ↦ (w.some_tells.ensures t (n + 1) c.in_ok-search-2.ensures.search).0 w.if-not-some_tells.false
        | else-n-ge2-via-else-n-ge2 w ↦ absurd (omega (arith, l, w.if-n-ge2.false))
      ];
    }

pub returns : goal.returns
returns g c =
    let t = c.args.table.now in
    let i = c.loop-n.invariant in
    let e : c.loop-n.n ≡ c.args.most = omega (arith, c.loop-n-test.false, c.loop-n.auto.n-end) in
    subst (SomeTells t) e (i.tells (omega (arith, c.requires.some, e)))
