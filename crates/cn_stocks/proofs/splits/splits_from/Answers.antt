use Rattle.std.proofs.Common.{ℕ, ◌∙◌, inl, inr, arith, length, refl, subst, sym, true≢false}
use Rattle.std.specs.Prelude.{IsBitSet}
use Rattle.cn_outcomes.proofs.LastProcess.{zero_has_none}
use Rattle.cn_stocks.specs.declared.question.Question.TheVariants.{Splitting}
use Rattle.cn_stocks.proofs.SplitLemmas.{reached_first, splits_by, subset_above, uncovered, whole}
use Rattle.cn_stocks.proofs.StockLemmas.{greatest_in}
use Rattle.cn_stocks.proofs.splits.splits_from.Goals as goal

pub left_states-left-requires-clause-setting : goal.left_states-left-requires-clause-setting
left_states-left-requires-clause-setting c = record { question = Splitting; next = c.requires.setting }

pub with-reached-requires : goal.with-reached-requires
with-reached-requires c =
    let s = c.args.setting.now in
    let stock = c.requires.setting.stock_is in
    let known = stock.known s.stock.now.greatest (greatest_in s.stock.now.operations.items s.stock.now.greatest stock.greatest c.requires.some) in
    omega (arith, known, c.operations-operations.ensures.number, c.operations-operations.ensures.range.1)

pub loop-left-init : goal.loop-left-init
loop-left-init c =
    let s = c.args.setting.now in
    let first = s.stock.now.greatest in record {
      first_in = (c.with-reached.ensures first).1 (inr refl);
      are = reached_first s.table.now c.args.start s.stock.now.operations.items first c.with-reached.result
          (λ g b. elim ((c.with-reached.ensures g).0 b) [ inl z ↦ absurd (zero_has_none g z) | inr e ↦ e ]);
    }

pub loop-left-preserved : goal.loop-left-preserved
loop-left-preserved c = record {
  first_in = c.grow-grown.ensures.grown c.args.setting.now.stock.now.greatest (inl c.loop-left.invariant.first_in);
  are = c.grow-grown.ensures.reached;
}

pub loop-left-smaller : goal.loop-left-smaller
loop-left-smaller c =
    omega (arith, subset_above c.loop-left.reached c.grow-grown.result (λ g b. c.grow-grown.ensures.grown g (inl b)), c.if-grown-reached.false, c.grow-grown.type_inv)

pub returns-then-grown-reached : goal.returns-then-grown-reached
returns-then-grown-reached c =
    let s = c.args.setting.now in
    let t = s.table.now in
    let items = s.stock.now.operations.items in
    let k = length t.operations in
    let stock = c.requires.setting.stock_is in
    let set = c.loop-left.reached in
    let out = uncovered k items set stock.known (λ all. true≢false (sym (c.covers.ensures.1 all) ∙ c.loop-left-test.true)) in (
      λ h. splits_by t c.args.start items k stock.known s.stock.now.greatest set (greatest_in items s.stock.now.greatest stock.greatest c.requires.some) c.loop-left.invariant.first_in
          (λ f g lf lg b j. subst (λ (set : ℕ). IsBitSet set g) c.if-grown-reached.true (c.grow-grown.ensures.grown g (inr (lg, (f, b, j))))) out,
      λ h. refl,
    )

pub returns : goal.returns
returns c =
    let s = c.args.setting.now in (
      λ h. absurd (true≢false (sym h)),
      λ splits. absurd (whole s.table.now c.args.start s.stock.now.operations.items s.stock.now.greatest c.loop-left.reached c.loop-left.invariant.are
          (c.covers.ensures.0 c.loop-left-test.false) splits),
    )
