use Rattle.cn_collisions.proofs.word_sets.Ends.ever.Goals as goal

pub returns : goal.returns
returns c t m stock is known q = is.1 c.args.start known q
