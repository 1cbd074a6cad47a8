-- The text of a number with no limit.
use Rattle.std.specs.Prelude.{ℕ, List, codes}
use Rattle.std.specs.Fmt.{decimal}
use Rattle.cn_search.specs.declared.exact.ConsensusNumber.{ConsensusNumber}
use Rattle.cn_search.specs.declared.exact.ConsensusNumber.TheVariants.{Finite, Infinite}

-- a number, or infinite
abbrev pub number_text : ConsensusNumber → List ℕ
number_text (Finite n) = decimal n
number_text Infinite = codes "infinite"
