use Rattle.cn_unread_cert.proofs.maker.upper_of.Goals as goal

pub returns-in-WithReads-clause-kept : goal.returns-in-WithReads-clause-kept
returns-in-WithReads-clause-kept c = rw (c.in-WithReads.is, c.in-Some-Some.is-1) c.trapped.ensures.kept
