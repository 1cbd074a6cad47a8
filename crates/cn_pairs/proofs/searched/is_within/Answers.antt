use Rattle.std.proofs.Common.{◌∙◌, All, Contains, refl, subst, sym, true≢false}
use Rattle.std.proofs.lemmas.List.{take_all}
use Rattle.std.proofs.lemmas.List.Elements.{All-get_or, All-more}
use Rattle.cn_pairs.proofs.searched.is_within.Goals as goal

pub returns-then-not-is_among : goal.returns-then-not-is_among
returns-then-not-is_among c = (
  λ no. absurd (cc no),
  λ all. absurd (true≢false (sym (c.is_among.ensures.1
      (All-get_or (Contains c.args.larger.now) c.args.set.now c.loop-operation.operation-index _ c.loop-operation-test.true all))
      ∙ c.if-not-is_among.true)),
)

pub loop-operation-preserved : goal.loop-operation-preserved
loop-operation-preserved c =
    All-more (Contains c.args.larger.now) c.args.set.now c.loop-operation.operation-index _ c.loop-operation-test.true c.loop-operation.invariant
    (c.is_among.ensures.0 c.if-not-is_among.false)

pub returns : goal.returns
returns c = (
  λ _. subst (All (Contains c.args.larger.now)) (take_all c.loop-operation.operation-index c.args.set.now c.loop-operation-test.false) c.loop-operation.invariant,
  λ _. refl,
)
