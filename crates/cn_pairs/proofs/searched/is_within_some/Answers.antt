use Rattle.std.proofs.Common.{All, refl, subst, sym}
use Rattle.std.proofs.lemmas.List.{take_all}
use Rattle.cn_pairs.specs.SetNumbers.{numbers}
use Rattle.cn_pairs.specs.Smallest.{IsWithinOther}
use Rattle.cn_pairs.proofs.searched.is_within_some.Goals as goal

pub returns-then-is_within_other : goal.returns-then-is_within_other
returns-then-is_within_other c = (
  λ _. (
    c.loop-larger.larger-index,
    c.larger-item.result,
    c.loop-larger-test.true,
    sym c.larger-item.is,
    c.is_within_other.ensures.0 c.if-is_within_other.true,
  ),
  λ _. refl,
)

pub returns : goal.returns
returns c = (
  λ no. absurd (cc no),
  λ some. absurd (subst (All (λ s. ¬ IsWithinOther (numbers c.args.set.now) c.args.number s))
      (take_all c.loop-larger.larger-index c.args.known.now c.loop-larger-test.false) c.loop-larger.invariant some.0 some.1 some.2
      (subst (IsWithinOther (numbers c.args.set.now) c.args.number) (sym some.3) some.4)),
)
