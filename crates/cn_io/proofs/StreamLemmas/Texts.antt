-- What a read text spells.
use Rattle.std.proofs.Common.{◌≡◌, inl, inr, ℕ, List, length, Result, Ok, Err, refl}
use Rattle.std.proofs.lemmas.Bool.{le-ltb, lt-ltb}
use Rattle.cn_io.specs.FaultText.{plain_of}
use Rattle.cn_io.specs.Streams.Reading.{EndsText, Gives, IsWhole, most_of}
use Rattle.cn_io.specs.Texts.Contents.{value_in}
use Rattle.cn_io.specs.declared.fault.AppFault.{AppFault}
use Rattle.cn_io.specs.declared.fault.Source.{Source}
use Rattle.cn_io.specs.declared.streams.text.Text.{Text}

module _ {R X F : Type 0} (source : Source) (fault_of : F → AppFault) (reads : List ℕ → Result X F) (text : Text R) where
  pub value_read : (x : X) → IsWhole source text → reads text.bytes.items ≡ Ok x → Gives source (value_in source fault_of reads) text (Ok x)
  value_read x whole is = (whole, rw (le-ltb (most_of source) (length text.bytes.items) whole.1, is) refl)

  pub value_refused : (f : F) → IsWhole source text → reads text.bytes.items ≡ Err f → Gives source (value_in source fault_of reads) text (Err (plain_of (fault_of f)))
  value_refused f whole is = inr (inl whole, rw (le-ltb (most_of source) (length text.bytes.items) whole.1, is) refl)

  -- the text could not be read, or is too long
  pub not_read : (e : AppFault) → EndsText source text (Err e) → Gives {X = X} source (value_in source fault_of reads) text (Err e)
  not_read e (inl fails) = inl fails
  not_read e (inr (is, long)) = inr (inr long, rw (lt-ltb (most_of source) (length text.bytes.items) long, is) refl)
