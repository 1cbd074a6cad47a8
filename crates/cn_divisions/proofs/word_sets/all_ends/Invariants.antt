use Rattle.cn_divisions.specs.Levels.{AreAllEnds}
use Rattle.cn_divisions.proofs.word_sets.all_ends.Given as goal

abbrev pub invariant-loop-place : goal.invariant-loop-place
invariant-loop-place l = AreAllEnds l.table l.stocks l.place l.all.items
