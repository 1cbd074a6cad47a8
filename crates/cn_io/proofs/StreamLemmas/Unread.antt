-- Texts that were not touched.
use Rattle.std.proofs.Common.{◌≡◌, ℕ, List, length, Option, arith, ap, sym, subst, ◌∙◌}
use Rattle.std.specs.Io.KnownBytes.{Consumes}
use Rattle.std.proofs.KnownBytes.{Consumes-nil}
use Rattle.cn_io.specs.Streams.Reading.{HasRead, IsUnread}
use Rattle.cn_io.specs.declared.fault.Source.{Source}
use Rattle.cn_io.specs.declared.streams.progress.Progress.TheVariants.{Open, Done}
use Rattle.cn_io.specs.declared.streams.text.Text.{Text}

not_done : Open ≡ Done → ⊥
not_done e = cc

module _ {R : Type 0} (source : Source) (remaining : R → Option (List ℕ)) where
  as_it_was : (text : Text R) → IsUnread text → HasRead source remaining text text
  as_it_was text unread = record {
    given = subst (λ (l : List ℕ). Consumes (remaining text.reader) (remaining text.reader) l) (sym unread.empty) (Consumes-nil (remaining text.reader));
    few = omega (arith, ap length unread.empty);
    ended = λ done. absurd (not_done (sym unread.idle ∙ done));
  }

  -- a text that is as it was has given the bytes that it has
  pub untouched : (old new : Text R) → IsUnread old → new ≡ old → HasRead source remaining old new
  untouched old new unread same = subst (λ (t : Text R). HasRead source remaining old t) (sym same) (as_it_was old unread)
