use Rattle.std.proofs.Common.{◌≡◌, flat_map, string_bytes}
use Rattle.cn_flaws.specs.FlawText.{shown_char}
use Rattle.cn_flaws.proofs.flaw_text.shown_chars.Given as goal

-- the characters so far
abbrev pub invariant-loop-c : goal.invariant-loop-c
invariant-loop-c l = string_bytes l.shown ≡ flat_map shown_char l.yielded
