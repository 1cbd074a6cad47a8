use Rattle.std.proofs.Common.{◌≡◌, flat_map, string_bytes}
use Rattle.cn_code.specs.Naming.{char_as}
use Rattle.cn_code.proofs.naming.named_as.Given as goal

-- the characters so far
abbrev pub invariant-loop-c : goal.invariant-loop-c
invariant-loop-c l = string_bytes l.named ≡ flat_map (char_as l.prefix l.capitals l.linkage) l.yielded
