use Rattle.std.proofs.Common.{◌+◌, ◌∙◌, arith, refl, sym, true≢false}
use Rattle.cn_telling.specs.Telling.{SomeTells}
use Rattle.cn_telling.proofs.LevelLemmas.{told_up_to}
use Rattle.cn_telling.proofs.TellLemmas.{fewer_tell}
use Rattle.cn_telling.proofs.told.greatest_told.Goals as goal

pub loop-n-init : goal.loop-n-init
loop-n-init g c = record {
  search_is = c.in_ok-search.ensures.search;
  found = λ l. absurd (omega (arith, l));
  none = λ l. refl;
}

pub returns-then-not-some_tells : goal.returns-then-not-some_tells
returns-then-not-some_tells g c =
    let t = c.args.table.now in
    let n = c.loop-n.n in
    let i = c.loop-n.invariant in
    let none : SomeTells t (n + 1) → ⊥ = λ s. true≢false (sym ((c.some_tells.ensures t (n + 1) c.in_ok-search-2.ensures.search).1 s) ∙ c.if-not-some_tells.true) in
    told_up_to t c.args.most n c.loop-n.greatest (omega (arith, c.loop-n-test.true)) i.found i.none
    (λ m l u s. none (fewer_tell t (n + 1) m (omega (arith, c.loop-n.auto.n)) (omega (arith, l)) s))

pub loop-n-preserved : goal.loop-n-preserved
loop-n-preserved g c =
    let t = c.args.table.now in
    let n = c.loop-n.n in record {
      search_is = c.in_ok-search-2.ensures.search;
      found = λ l. (refl, (c.some_tells.ensures t (n + 1) c.in_ok-search-2.ensures.search).0 c.if-not-some_tells.false);
      none = λ l. absurd (omega (arith, l, c.loop-n.auto.n));
    }

pub returns : goal.returns
returns g c =
    let i = c.loop-n.invariant in
    told_up_to c.args.table.now c.args.most c.loop-n.n c.loop-n.greatest (omega (arith, c.loop-n.auto.n-end)) i.found i.none
    (λ m l u. absurd (omega (arith, l, u, c.loop-n-test.false)))
