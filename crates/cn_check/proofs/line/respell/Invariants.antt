use Rattle.std.proofs.Common.{◌≡◌, length}
use Rattle.cn_check.proofs.LineLemmas.{AreSpelledTo}
use Rattle.cn_check.proofs.line.respell.Given as goal

-- the numbers up to this place are spelled anew
abbrev pub invariant-loop-later : goal.invariant-loop-later
invariant-loop-later l = record { long : length l.text ≡ length l.initial.text; spelled : AreSpelledTo l.first l.list l.place l.later l.initial.text l.text }
