use Rattle.std.proofs.Common.{[], inl, inr, arith, length, refl, subst, sym}
use Rattle.std.proofs.lemmas.Option.{get_or_from_slice_get, slice_get_read}
use Rattle.cn_stocks.specs.declared.pair_sets.PairSet.{PairSet}
use Rattle.cn_stocks.specs.Pairs.{Has}
use Rattle.cn_stocks.proofs.PairLemmas.{none_behind}
use Rattle.cn_divisions.proofs.word_sets.Shown.add_to.Goals as goal

pub returns-then-start-len : goal.returns-then-start-len
returns-then-start-len c t stock is below r q =
    let rows = c.args.self.now.pairs.items in
    let row = c.index-sets.result.now in
    let sets = row.items in
    let here = is.1 c.args.asked row (slice_get_read rows (length rows) c.args.asked row refl c.requires c.index-sets.ensures) c.args.start below r q in
    let set = c.index.result.now in
    let read = slice_get_read sets (length sets) c.args.start set refl (omega (arith, c.if-start-len.true, c.len.ensures, row.ok.0)) c.index.ensures in
    let same = get_or_from_slice_get sets c.args.start set (record { states = [] }) read in
    let added = c.add_all.ensures r q in (
      λ h. elim (added.0 h) [ inl a ↦ inl a | inr b ↦ inr (here.0 (subst (λ (s : PairSet). Has s r q) (sym same) b)) ],
      λ h. added.1 (elim h [ inl a ↦ inl a | inr b ↦ inr (subst (λ (s : PairSet). Has s r q) same (here.1 b)) ]),
    )

pub returns-else-start-len : goal.returns-else-start-len
returns-else-start-len c t stock is below r q =
    let rows = c.args.self.now.pairs.items in
    let row = c.index-sets.result.now in
    let here = is.1 c.args.asked row (slice_get_read rows (length rows) c.args.asked row refl c.requires c.index-sets.ensures) c.args.start below r q in (
      λ h. inl h,
      λ h. elim h [ inl a ↦ a | inr b ↦ absurd (none_behind row.items c.args.start r q (omega (arith, c.if-start-len.false, c.len.ensures, row.ok.0)) (here.1 b)) ],
    )
