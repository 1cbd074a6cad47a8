-- The recoverable number up to a limit, beside the number.
use Rattle.std.proofs.Common.{ℕ, ◌+◌, ◌-◌, ◌≤◌, inl, inr, IsSomeAnd, Option, Some, None, arith}
use Rattle.std.proofs.lemmas.Bool.{cases_order}
use Rattle.cn_table.specs.TypeTable.{TypeTable}
use Rattle.cn_choice.specs.Discerning.{IsNumberUpTo}
use Rattle.cn_recover.specs.Recording.{IsRecording, IsRecoverableNumberUpTo}
use Rattle.cn_recover.proofs.Recordings.{recording_discerns}

-- what is recording is discerning, so the number is no less
pub at_most : (t : TypeTable) (limit n : ℕ) (number : Option ℕ) → IsRecoverableNumberUpTo t limit (Some n) → IsNumberUpTo t limit number → IsSomeAnd number (λ most. n ≤ most)
at_most t limit n None h g = absurd (g n h.0 h.1 (recording_discerns t n h.2))
at_most t limit n (Some m) h g = elim (cases_order n m) [ inl e ↦ omega (arith, e) | inr r ↦ elim r [ inl l ↦ omega (arith, l) | inr l ↦ absurd (g.3 n l h.1 (recording_discerns t n h.2)) ] ]

-- where it is recording for two less, the recoverable number is no less than that
pub at_least : (t : TypeTable) (limit n : ℕ) (recoverable : Option ℕ) → 4 ≤ n → n ≤ limit → IsRecording t (n - 2) → IsRecoverableNumberUpTo t limit recoverable
    → IsSomeAnd recoverable (λ least. n ≤ least + 2)
at_least t limit n None l u is h = absurd (h (n - 2) (omega (arith, l)) (omega (arith, u)) is)
at_least t limit n (Some m) l u is h =
    elim (cases_order (n - 2) m) [ inl e ↦ omega (arith, e, l) | inr r ↦ elim r [ inl b ↦ omega (arith, b, l) | inr b ↦ absurd (h.3 (n - 2) b (omega (arith, u)) is) ] ]
