use Rattle.std.proofs.Common.{◌∙◌, subst, sym, true≢false}
use Rattle.cn_telling.specs.Greatest.{IsExactSplit}
use Rattle.cn_search.proofs.NumberLemmas.{by_none, by_size, by_two}
use Rattle.cn_search.proofs.up_to.greatest_of.Goals as goal

pub returns-in-Some : goal.returns-in-Some
returns-in-Some c t most some is two = by_size t (c.splits_decide.ensures t) most c.in-Some.n (subst (IsExactSplit t most) c.in-Some.is is)

pub returns-in-None : goal.returns-in-None
returns-in-None c t most some is two = by_two t (c.splits_decide.ensures t) most some (subst (IsExactSplit t most) c.in-None.is is) (two.0 c.if-two.true)

pub returns-in-None-2 : goal.returns-in-None-2
returns-in-None-2 c t most some is two =
    by_none t (c.splits_decide.ensures t) most (subst (IsExactSplit t most) c.in-None-2.is is) (λ d. true≢false (sym (two.1 d) ∙ c.if-two.false))
