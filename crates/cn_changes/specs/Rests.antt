-- Entries on which the number of a type rests.
use Rattle.std.specs.Prelude.{ℕ, ◌==◌, ◌&&◌, Bool, List}
use Rattle.std.specs.List.{list_any}
use Rattle.cn_unread_number.specs.declared.bounds.NumberBounds.{NumberBounds}
use Rattle.cn_changes.specs.Less.{is_less}
use Rattle.cn_changes.specs.declared.numbers.NextNumbers.{NextNumbers}

-- with this next state the number is less, with some response
abbrev pub lowers : NumberBounds → NextNumbers → Bool
lowers number told = list_any (λ r. is_less r.number number) told.numbers.items

-- the number rests on the entry of the operation in the state: with some change of it, it is less
abbrev pub rests_on : NumberBounds → List NextNumbers → ℕ → ℕ → Bool
rests_on number told operation state = list_any
    (λ x. ((x.target.operation.0 == operation) && (x.target.state.0 == state)) && lowers number x)
    told
