-- Readers with known bytes.
use Rattle.std.proofs.Common.{◌≡◌, inl, inr, ℕ, ◌<◌, List, ◌++◌, length, Option, Some, None, Result, Ok, Err, arith, refl, ap, subst, ◌∙◌}
use Rattle.std.specs.Io.KnownBytes.{Consumes, IsAtEnd}
use Rattle.std.proofs.lemmas.Bool.{lt-ltb}
use Rattle.std.proofs.lemmas.List.{append-nil, length-append}
use Rattle.cn_io.specs.Streams.Reading.{HasRead, IsKnown, ReadsKnownBytes, most_of}
use Rattle.cn_io.specs.Texts.Contents.{value_in}
use Rattle.cn_io.specs.declared.fault.AppFault.{AppFault}
use Rattle.cn_io.specs.declared.fault.Source.{Source}
use Rattle.cn_io.specs.declared.streams.text.Text.{Text}

-- the bytes given are a front of the known bytes, and all of them if none are left
front : (known bytes : List ℕ) (new : Option (List ℕ)) → Consumes (Some known) new bytes → (rest : List ℕ) × (known ≡ bytes ++ rest)
front known bytes None h = absurd h
front known bytes (Some rest) h = (rest, h)

all_where_ended : (known bytes : List ℕ) (new : Option (List ℕ)) → Consumes (Some known) new bytes → IsAtEnd new → known ≡ bytes
all_where_ended known bytes None h ended = absurd h
all_where_ended known bytes (Some rest) h ended = h ∙ ap (λ z. bytes ++ z) ended ∙ append-nil bytes

module _ {R X F : Type 0} (source : Source) (fault_of : F → AppFault) (reads : List ℕ → Result X F) (remaining : R → Option (List ℕ)) where
  -- if there are too many bytes in the front, there are too many in all
  read_as_long : (known bytes : List ℕ) (new : Option (List ℕ)) → Consumes (Some known) new bytes
      → most_of source < length bytes → value_in source fault_of reads known ≡ value_in source fault_of reads bytes
  read_as_long known bytes new consumed long =
      let p = front known bytes new consumed in
      rw (lt-ltb (most_of source) (length bytes) long, lt-ltb (most_of source) (length known) (omega (arith, long, length-append bytes p.0, ap length p.1))) refl

  -- more bytes do not change what is known of the text
  read_as_all : (old new : Text R) (known : List ℕ) → remaining old.reader ≡ Some known → HasRead source remaining old new → IsKnown source new
      → value_in source fault_of reads known ≡ value_in source fault_of reads new.bytes.items
  read_as_all old new known had read is =
      let consumed = subst (λ (o : Option (List ℕ)). Consumes o (remaining new.reader) new.bytes.items) had read.given in
      elim is [
        | inl whole ↦ ap (λ (z : List ℕ). value_in source fault_of reads z) (all_where_ended known new.bytes.items (remaining new.reader) consumed (read.ended whole.0))
        | inr long ↦ read_as_long known new.bytes.items (remaining new.reader) consumed long
      ]

  pub reads_known_bytes : ReadsKnownBytes source (value_in source fault_of reads) remaining
  reads_known_bytes old new known (Ok x) had read gives = read_as_all old new known had read (inl gives.0) ∙ gives.1
  reads_known_bytes old new known (Err e) had read (inl fails) = inl fails
  reads_known_bytes old new known (Err e) had read (inr gives) = inr (read_as_all old new known had read gives.0 ∙ gives.1)
