use Rattle.std.proofs.Common.{subst}
use Rattle.cn_choice.specs.Discerning.{IsNumberUpTo}
use Rattle.cn_search.proofs.NumberLemmas.{of_none, of_number}
use Rattle.cn_search.proofs.exact.finite.Goals as goal

pub returns-in-Some : goal.returns-in-Some
returns-in-Some c t most closed finite three all is =
    of_number t (c.finite_numbers_are_few.ensures t closed finite) most three all c.in-Some.n (subst (IsNumberUpTo t most) c.in-Some.is is)

pub returns-in-None : goal.returns-in-None
returns-in-None c t most closed finite three all is =
    of_none t (c.finite_numbers_are_few.ensures t closed finite) most three all (subst (IsNumberUpTo t most) c.in-None.is is)
