use Rattle.cn_merging.specs.Numbering.{IsNumbering}
use Rattle.cn_merging.proofs.numbering.numbered.Given as goal

-- the places so far
abbrev pub invariant-loop-q : goal.invariant-loop-q
invariant-loop-q l = IsNumbering l.q l.firsts l.kept.items l.class_of.items
