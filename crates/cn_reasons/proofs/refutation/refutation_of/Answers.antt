use Rattle.std.proofs.Common.{◌∙◌, sym}
use Rattle.cn_reasons.proofs.AcceptedEntries.{refuted_entries, refuted_few}
use Rattle.cn_reasons.proofs.refutation.refutation_of.Goals as goal

pub refutation_by-requires-clause-entries : goal.refutation_by-requires-clause-entries
refutation_by-requires-clause-entries c =
    rw c.entries_of.ensures (refuted_entries c.args.table.now c.canonical_list.ensures.listed c.live_list.ensures.listed c.args.certificate.now c.requires)

pub refutation_by-requires-clause-some : goal.refutation_by-requires-clause-some
refutation_by-requires-clause-some c =
    let f = c.args.certificate.now in (refuted_few f.version f.limit f.number c.in-Some.n c.requires.in_range (sym c.refuted_processes.ensures ∙ c.in-Some.is)).0

pub refutation_by-requires-clause-few : goal.refutation_by-requires-clause-few
refutation_by-requires-clause-few c =
    let f = c.args.certificate.now in (refuted_few f.version f.limit f.number c.in-Some.n c.requires.in_range (sym c.refuted_processes.ensures ∙ c.in-Some.is)).1
