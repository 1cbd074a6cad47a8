use Rattle.std.proofs.Common.{length}
use Rattle.cn_reasons.proofs.StateLemmas.{left_known}
use Rattle.cn_reasons.proofs.search.order_to.Goals as goal

pub first_order-requires-clause-aim : goal.first_order-requires-clause-aim
first_order-requires-clause-aim c =
    let s = c.args.subject.now in
    let is = c.requires.subject in record {
      fits = is.fits;
      few = is.few;
      onward = is.onward;
      known = left_known s.table.now c.states-states.ensures.table s.raw.now (length s.raw.now.operations) is.fits c.args.team c.args.state.0 c.requires.some;
    }
