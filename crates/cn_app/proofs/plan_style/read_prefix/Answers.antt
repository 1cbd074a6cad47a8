use Rattle.std.specs.Prelude.{if◌then◌else◌}
use Rattle.std.proofs.Common.{◌≡◌, ℕ, Bool, true, false, List, Option, None, Some, inr, refl}
use Rattle.cn_code.specs.Prefix.{is_prefix}
use Rattle.cn_app.proofs.plan_style.read_prefix.Goals as goal

given : (b : Bool) (word prefix : List ℕ) → (if b then Some word else None) ≡ Some prefix
    → (b ≡ true) × (prefix ≡ word)
given true word prefix e = (refl, cc e)
given false word prefix e = absurd (cc e)

refused : (b : Bool) (word : List ℕ) → (if b then Some word else None) ≡ None → b ≡ false
refused true word e = absurd (cc e)
refused false word e = refl

pub returns-in-Some : goal.returns-in-Some
returns-in-Some c =
    given (is_prefix c.args.word.now) c.args.word.now c.in-Some.prefix (cc (c.parse.ensures, c.in-Some.is, c.in_ok-text.ensures.ok))

pub returns-in-None : goal.returns-in-None
returns-in-None c = inr (refl, refused (is_prefix c.args.word.now) c.args.word.now (cc (c.parse.ensures, c.in-None.is, c.in_ok-text.ensures.ok)))
