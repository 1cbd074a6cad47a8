-- Texts of arguments that stand in files.
use Rattle.std.proofs.Common.{◌≡◌, ◌≤◌, ◌∙◌, inl, inr, ℕ, List, length, Bool, false, Result, Ok, Err, IsUtf8, refl, sym, ap, subst, nat_lt}
use Rattle.std.specs.Prelude.{if◌then◌else◌}
use Rattle.std.specs.Str.{is_utf8}
use Rattle.std.proofs.lemmas.Bool.{cases_Bool, le-ltb}
use Rattle.std.proofs.lemmas.Str.{IsUtf8-from_is_utf8, is_utf8-from_IsUtf8}
use Rattle.cn_io.specs.Arguments.Files.{argument_in, without_line_feed}
use Rattle.cn_io.specs.declared.limits.TheConstants.{MOST_ARGUMENT_BYTES}
use Rattle.cn_io.specs.declared.fault.AppFault.{AppFault}
use Rattle.cn_io.specs.declared.fault.AppFault.TheVariants as fault
use Rattle.cn_io.specs.declared.fault.Argument.{Argument}
use Rattle.cn_io.specs.declared.fault.Source.TheVariants as source

-- what a line gives, by whether there are too many bytes
abbrev spelled : Argument → Bool → List ℕ → Result (List ℕ) AppFault
spelled argument long line =
    if long then Err (fault.TooLong (source.Argument argument)) else (if is_utf8 line then Ok line else Err (fault.Argument argument))

no_text : (line : List ℕ) → (IsUtf8 line → ⊥) → is_utf8 line ≡ false
no_text line bad = elim (cases_Bool (is_utf8 line)) [
  | inl valid ↦ absurd (bad (IsUtf8-from_is_utf8 line valid))
  | inr other ↦ other
]

line_read : (argument : Argument) (long : Bool) (line : List ℕ) → long ≡ false → IsUtf8 line → spelled argument long line ≡ Ok line
line_read argument long line few valid = rw (few, is_utf8-from_IsUtf8 line valid) refl

line_refused : (argument : Argument) (long : Bool) (line : List ℕ) → long ≡ false → (IsUtf8 line → ⊥) → spelled argument long line ≡ Err (fault.Argument argument)
line_refused argument long line few bad = rw (few, no_text line bad) refl

-- few enough bytes, and the line that they are without the line feed at the end
module _ (argument : Argument) (bytes line : List ℕ) (few : length bytes ≤ MOST_ARGUMENT_BYTES) (line_is : line ≡ without_line_feed bytes) where
  pub argument_read : (text : List ℕ) → IsUtf8 line → text ≡ line → argument_in argument bytes ≡ Ok text
  argument_read text valid same =
      subst (λ (l : List ℕ). spelled argument (nat_lt MOST_ARGUMENT_BYTES (length bytes)) l ≡ Ok text) line_is
      (line_read argument (nat_lt MOST_ARGUMENT_BYTES (length bytes)) line (le-ltb MOST_ARGUMENT_BYTES (length bytes) few) valid ∙ ap Ok (sym same))

  pub argument_refused : (IsUtf8 line → ⊥) → argument_in argument bytes ≡ Err (fault.Argument argument)
  argument_refused bad =
      subst (λ (l : List ℕ). spelled argument (nat_lt MOST_ARGUMENT_BYTES (length bytes)) l ≡ Err (fault.Argument argument)) line_is
      (line_refused argument (nat_lt MOST_ARGUMENT_BYTES (length bytes)) line (le-ltb MOST_ARGUMENT_BYTES (length bytes) few) bad)
