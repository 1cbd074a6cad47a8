use Rattle.std.proofs.Common.{◌≡◌, ◌++◌, drop, string_bytes}
use Rattle.cn_flaws.specs.FlawText.{places_text}
use Rattle.cn_flaws.proofs.flaw_text.places_text.Given as goal

-- the text so far and that of the rest are the whole text
abbrev pub invariant-loop-k : goal.invariant-loop-k
invariant-loop-k l = string_bytes l.text ++ places_text l.what (drop l.k l.places) ≡ places_text l.what l.places
