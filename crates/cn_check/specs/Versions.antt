-- What a certificate must show, by its version.
use Rattle.std.specs.Prelude.{ℕ, ◌+◌, ◌==◌, nat_lt, List, [], length, Option, Some, None}
use Rattle.std.specs.Prelude.{if◌then◌else◌}
use Rattle.cn_table.specs.TypeTable.{TypeTable}
use Rattle.cn_choice.specs.Canonical.{Choice, canonical_choices}
use Rattle.cn_choice.specs.Live.{live_choices}

-- the greatest limit: 6 in version 1, 8 in version 2, and 0 for any other number, with which no
-- limit is in range
abbrev pub greatest_limit : ℕ → ℕ
greatest_limit version = if version == 1 then 6 else (if version == 2 then 8 else 0)

-- the choices for n processes that count: in version 1 the canonical ones, in version 2 the live
-- canonical ones
abbrev pub choices_in_version : ℕ → TypeTable → ℕ → List Choice
choices_in_version version t n = if version == 1
    then canonical_choices (length t.states) (length t.operations) n else live_choices t n

-- the choices that a certificate must refute: those for one process more than its number, or for
-- two if it has no number; none if its number is the limit
abbrev pub choices_to_refute_in : ℕ → TypeTable → ℕ → Option ℕ → List Choice
choices_to_refute_in version t limit None = choices_in_version version t 2
choices_to_refute_in version t limit (Some n) =
    if nat_lt n limit then choices_in_version version t (n + 1) else []
