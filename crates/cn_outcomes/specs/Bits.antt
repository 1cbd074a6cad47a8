-- Sets of small numbers. A set is a number whose bit k says whether k is in the set.
use Rattle.std.specs.Prelude.{ℕ, List, eqb}
use Rattle.std.specs.List.{filter, range_with_len}
use Rattle.std.specs.Int.{bit_at}
use Rattle.cn_outcomes.specs.declared.limits.TheConstants.{WIDTH}

-- the members, ascending
unfoldable pub members : ℕ → List ℕ
members set = filter (λ q. eqb (bit_at set q) 1) (range_with_len 0 WIDTH)
