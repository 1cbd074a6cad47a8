use Rattle.cn_join_find.proofs.words.+push_way.Given as goal

abbrev pub decreases-push_way : goal.decreases-push_way
decreases-push_way l = l.place
