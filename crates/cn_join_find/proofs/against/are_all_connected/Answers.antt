use Rattle.std.proofs.Common.{ℕ, ◌≡◌, ◌∙◌, Some, true, false, arith, inl, inr, subst, sym, true≢false}
use Rattle.std.specs.Prelude.{slice_get}
use Rattle.std.proofs.lemmas.Option.{same_Some, slice_get-get_or, slice_get_within}
use Rattle.cn_outcomes.proofs.Packing.{below_or_last}
use Rattle.cn_join_find.proofs.against.are_all_connected.Goals as goal

pub loop-mark-preserved : goal.loop-mark-preserved
loop-mark-preserved c i l e = elim (below_or_last i c.loop-mark.mark-index l) [
  | inl u ↦ c.loop-mark.invariant i u e
  | inr same ↦ (
      let marks = c.args.marks.now in
      let k = c.loop-mark.mark-index in
      let there : slice_get marks k ≡ Some true = subst (λ (j : ℕ). slice_get marks j ≡ Some true) same e in
      let read = slice_get-get_or marks k false (omega (arith, c.loop-mark-test.true)) in
      true≢false (sym (same_Some _ true (sym read ∙ there)) ∙ c.if-mark.false)
      )
]

pub returns : goal.returns
returns c sure = (omega (arith, c.if-size-lt2.false), λ i e. c.loop-mark.invariant i (omega (arith, slice_get_within c.args.marks.now i true e, c.loop-mark-test.false)) e)
