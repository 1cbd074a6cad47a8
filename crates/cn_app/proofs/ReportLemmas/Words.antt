-- The words of numbers that may be told.
use Rattle.std.proofs.Common.{◌≡◌, ℕ, List, Option, Some, None, Global, String, string_bytes, ap, refl}
use Rattle.std.specs.Prelude.{IsSomeAnd, MatchOption, option_map}
use Rattle.std.specs.Borrow.{Bor}

-- a text that is shown, if there is one, is that of the string
pub shown_words : (words : Option (String Global)) (shown : Option (Bor (List ℕ)))
    → MatchOption words (shown ≡ None) (λ s. IsSomeAnd shown (λ t. t.now ≡ string_bytes s))
    → option_map (λ t. t.now) shown ≡ option_map string_bytes words
shown_words None None is = refl
shown_words None (Some t) is = cc
shown_words (Some s) None is = absurd is
shown_words (Some s) (Some t) is = ap (λ (bytes : List ℕ). Some bytes) is
