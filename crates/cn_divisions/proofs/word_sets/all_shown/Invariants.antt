use Rattle.cn_divisions.specs.Levels.{AreAllShown}
use Rattle.cn_divisions.proofs.word_sets.all_shown.Given as goal

abbrev pub invariant-loop-place : goal.invariant-loop-place
invariant-loop-place l = AreAllShown l.table l.stocks l.place l.all.items
