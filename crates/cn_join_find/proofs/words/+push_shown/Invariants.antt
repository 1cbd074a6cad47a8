use Rattle.cn_join_find.proofs.words.+push_shown.Given as goal

abbrev pub decreases-push_shown : goal.decreases-push_shown
decreases-push_shown l = l.place
