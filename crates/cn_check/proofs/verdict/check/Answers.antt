use Rattle.cn_check.proofs.VerdictLemmas.{accepted_passes, evidence_accepted, evidence_refused, found_passes, number_if_accepted, witness_refused}
use Rattle.cn_check.proofs.verdict.check.Goals as goal

pub returns-in_err-check_witness-clause-passes : goal.returns-in_err-check_witness-clause-passes
returns-in_err-check_witness-clause-passes c =
    accepted_passes c.args.table.now c.args.certificate.now c.from_residual.result
    (witness_refused c.args.table.now _ c.args.certificate.now c.from_residual.result c.certificate.view_is (c.is_of_type.ensures.0 c.if-not-is_of_type.false)
    (c.is_in_range.ensures.0 c.if-not-is_in_range.false)
    c.in_err-check_witness.field-0.0 c.from_residual.ensures.1 c.in_err-check_witness.ensures.fault)

pub returns-in_err-check_witness-clause-refused : goal.returns-in_err-check_witness-clause-refused
returns-in_err-check_witness-clause-refused c =
    witness_refused c.args.table.now _ c.args.certificate.now c.from_residual.result c.certificate.view_is (c.is_of_type.ensures.0 c.if-not-is_of_type.false)
    (c.is_in_range.ensures.0 c.if-not-is_in_range.false)
    c.in_err-check_witness.field-0.0 c.from_residual.ensures.1 c.in_err-check_witness.ensures.fault

pub returns-in_err-check_witness-clause-found : goal.returns-in_err-check_witness-clause-found
returns-in_err-check_witness-clause-found c =
    found_passes c.accepted_is_right.ensures.found c.args.table.now c.args.certificate.now c.from_residual.result
    (witness_refused c.args.table.now _ c.args.certificate.now c.from_residual.result c.certificate.view_is (c.is_of_type.ensures.0 c.if-not-is_of_type.false)
    (c.is_in_range.ensures.0 c.if-not-is_in_range.false)
    c.in_err-check_witness.field-0.0 c.from_residual.ensures.1 c.in_err-check_witness.ensures.fault)

pub returns-clause-passes : goal.returns-clause-passes
returns-clause-passes c =
    accepted_passes c.args.table.now c.args.certificate.now c.check_evidence.result
    (evidence_refused c.args.table.now _ c.args.certificate.now c.check_evidence.result c.certificate.view_is (c.is_of_type.ensures.0 c.if-not-is_of_type.false)
    (c.is_in_range.ensures.0 c.if-not-is_in_range.false)
    c.in_ok-check_witness.ensures.fits c.in_ok-check_witness.ensures.witness (rw c.as_slice-entries.ensures.value at c.check_evidence.ensures.fault))

pub returns-clause-refused : goal.returns-clause-refused
returns-clause-refused c =
    evidence_refused c.args.table.now _ c.args.certificate.now c.check_evidence.result c.certificate.view_is (c.is_of_type.ensures.0 c.if-not-is_of_type.false)
    (c.is_in_range.ensures.0 c.if-not-is_in_range.false)
    c.in_ok-check_witness.ensures.fits c.in_ok-check_witness.ensures.witness (rw c.as_slice-entries.ensures.value at c.check_evidence.ensures.fault)

pub returns-clause-number : goal.returns-clause-number
returns-clause-number c =
    number_if_accepted c.accepted_is_right.ensures.number c.args.table.now c.args.certificate.now c.check_evidence.result
    (evidence_accepted c.args.table.now _ c.args.certificate.now c.check_evidence.result c.certificate.view_is (c.is_of_type.ensures.0 c.if-not-is_of_type.false)
    (c.is_in_range.ensures.0 c.if-not-is_in_range.false)
    c.in_ok-check_witness.ensures.fits c.in_ok-check_witness.ensures.witness (rw c.as_slice-entries.ensures.value at c.check_evidence.ensures.refuted))

pub returns-clause-found : goal.returns-clause-found
returns-clause-found c =
    found_passes c.accepted_is_right.ensures.found c.args.table.now c.args.certificate.now c.check_evidence.result
    (evidence_refused c.args.table.now _ c.args.certificate.now c.check_evidence.result c.certificate.view_is (c.is_of_type.ensures.0 c.if-not-is_of_type.false)
    (c.is_in_range.ensures.0 c.if-not-is_in_range.false)
    c.in_ok-check_witness.ensures.fits c.in_ok-check_witness.ensures.witness (rw c.as_slice-entries.ensures.value at c.check_evidence.ensures.fault))
