use Rattle.cn_unread_number.proofs.WithReads.{close, shown}
use Rattle.cn_unread_number.proofs.number.told_bounds.Goals as goal

pub returns-clause-shown : goal.returns-clause-shown
returns-clause-shown c = rw c.with_reads.ensures
    (shown c.args.table.now c.args.how c.requires.telling c.args.number c.requires.number)

pub returns-clause-close : goal.returns-clause-close
returns-clause-close c = rw c.with_reads.ensures
    (close c.live_choices_decide.ensures.shown c.args.table.now c.args.number c.requires.number)
