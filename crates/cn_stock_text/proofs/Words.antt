-- Words of operations of a type.
use Rattle.std.proofs.Common.{ℕ, ◌<◌, List, get_or, subst, All}
use Rattle.std.proofs.lemmas.List.{get_or_default}
use Rattle.cn_stocks.specs.Words.{IsKnown}
use Rattle.cn_stocks.proofs.Times.{times_of_place}

pub all_below : (k : ℕ) (word : List ℕ) → IsKnown k word → All (λ o. o < k) word
all_below k word known =
    λ i d l. subst (λ (x : ℕ). x < k) (get_or_default word i 0 d l) (known (get_or word i 0) (times_of_place word i l))
