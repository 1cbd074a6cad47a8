use Rattle.std.proofs.Common.{refl}
use Rattle.cn_reasons.proofs.ReasonLemmas.{reason_parts}
use Rattle.cn_reasons.proofs.reasons.way_by.Goals as goal

pub runs_of-requires-clause-alpha : goal.runs_of-requires-clause-alpha
runs_of-requires-clause-alpha c =
    let parts = reason_parts c.args.table.now c.states-states.ensures.table c.args.choice.now c.requires.fits c.short_orders.ensures c.args.reason.now c.requires.reason in
    rw (c.of-raw.ensures, c.as_slice-alpha.ensures.value) parts.1

pub runs_of-requires-clause-beta : goal.runs_of-requires-clause-beta
runs_of-requires-clause-beta c =
    let parts = reason_parts c.args.table.now c.states-states.ensures.table c.args.choice.now c.requires.fits c.short_orders.ensures c.args.reason.now c.requires.reason in
    rw (c.of-raw.ensures, c.as_slice-beta.ensures.value) parts.2

pub returns-clause-way : goal.returns-clause-way
returns-clause-way c = record {
  choice = c.choice_groups.ensures.groups;
  reason = c.args.reason.now;
  is_reason = c.requires.reason;
  state = refl;
  runs = rw (c.of-raw.ensures, c.as_slice-alpha.ensures.value, c.as_slice-beta.ensures.value) at c.runs_of.ensures.runs;
}

pub returns-clause-known : goal.returns-clause-known
returns-clause-known c =
    let parts = reason_parts c.args.table.now c.states-states.ensures.table c.args.choice.now c.requires.fits c.short_orders.ensures c.args.reason.now c.requires.reason in record {
      choice = c.choice_groups.ensures.known;
      state = parts.0;
      runs = c.runs_of.ensures.known;
    }
