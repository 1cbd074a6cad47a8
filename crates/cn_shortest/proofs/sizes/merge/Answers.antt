use Rattle.cn_shortest.proofs.sizes.merge.Goals as goal

pub returns-clause-example : goal.returns-clause-example
returns-clause-example c t sight is = c.merged.ensures t sight c.args.sizes.now.counts c.in_ok-counts.counts is c.in_ok-counts.ensures.has.0 c.in_ok-counts.ensures.merged
