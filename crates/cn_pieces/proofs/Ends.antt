-- The text that a last call leaves.
use Rattle.std.proofs.Common.{◌≡◌, ◌∙◌, List, Result, Ok, Err}
use Rattle.std.specs.Prelude.{OnOk}

-- what it is, is what was wanted
pub as_wanted : {T E A : Type 0} (r : Result T E) (now got wanted : List A) → OnOk r (now ≡ got) → got ≡ wanted → OnOk r (now ≡ wanted)
as_wanted (Ok x) now got wanted here same = here ∙ same
as_wanted (Err x) now got wanted here same = tt
