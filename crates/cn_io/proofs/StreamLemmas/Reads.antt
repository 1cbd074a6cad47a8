-- One read more.
use Rattle.std.proofs.Common.{◌≡◌, ◌⊎◌, inl, inr, ◌∙◌, ◌≤◌, ◌+◌, ℕ, List, ◌++◌, Option, length, length-append, arith, ap, sym, subst}
use Rattle.std.specs.Io.KnownBytes.{Consumes, IsAtEnd}
use Rattle.std.proofs.KnownBytes.{Consumes-trans}
use Rattle.cn_io.specs.Streams.Reading.{HasRead, most_of}
use Rattle.cn_io.specs.declared.fault.Source.{Source}
use Rattle.cn_io.specs.declared.streams.progress.Progress.TheVariants.{Open, Done, Failed}
use Rattle.cn_io.specs.declared.streams.progress.Progress.{Progress}
use Rattle.cn_io.specs.declared.streams.text.Text.{Text}

module _ {R : Type 0} (source : Source) (remaining : R → Option (List ℕ)) (first old new : Text R) where
  -- the bytes read before and the bytes read now are bytes read from the start
  pub read_more : Consumes (remaining first.reader) (remaining old.reader) old.bytes.items → (bytes : List ℕ) → new.bytes.items ≡ old.bytes.items ++ bytes
      → Consumes (remaining old.reader) (remaining new.reader) bytes → length old.bytes.items + length bytes ≤ most_of source + 1
      → (new.progress ≡ Done → IsAtEnd (remaining new.reader)) → HasRead source remaining first new
  read_more before bytes are now few ended = record {
    given = subst (λ (l : List ℕ). Consumes (remaining first.reader) (remaining new.reader) l) (sym are)
        (Consumes-trans (remaining first.reader) (remaining old.reader) (remaining new.reader) old.bytes.items bytes before now);
    few = omega (arith, ap length are, length-append old.bytes.items bytes, few);
    ended = ended;
  }

-- a read that failed is not the last one
pub not_done : {P Q : Type 0} (progress : Progress) → (P × (progress ≡ Open)) ⊎ (Q × (progress ≡ Failed)) → progress ≡ Done → ⊥
not_done progress (inl (_, is)) done = let e : Open ≡ Done = sym is ∙ done in cc
not_done progress (inr (_, is)) done = let e : Failed ≡ Done = sym is ∙ done in cc
