-- The certificates of findings.
use Rattle.std.proofs.Common.{◌≤◌, ℕ, length, sym, subst}
use Rattle.cn_table.specs.TypeTable.{TypeTable}
use Rattle.cn_finding.specs.Evidence.{IsFindingFor}
use Rattle.cn_finding.specs.Finding.{Finding}
use Rattle.cn_finding.specs.declared.limits.TheConstants.{GREATEST_LIMIT, LEAST_LIMIT}
use Rattle.cn_search.proofs.LimitLemmas.{limit_within}
use Rattle.cn_cert.specs.Certificate.{Certificate, certificate_of}
use Rattle.cn_check.specs.Verdict.{IsAccepted}
use Rattle.cn_app.specs.Commands.Find.{IsFoundCertificate}

-- the check accepts each of them
pub found_is_accepted : ((t : TypeTable) (f : Finding) → IsFindingFor t f.limit f → LEAST_LIMIT ≤ f.limit → f.limit ≤ GREATEST_LIMIT → IsAccepted t (certificate_of t.name f))
    → (t : TypeTable) (limit : ℕ) (c : Certificate) → IsFoundCertificate t limit c → IsAccepted t c
found_is_accepted accepted t limit c found =
    let same = sym found.found.same_limit in
    let within = limit_within (length t.states) (length t.operations) limit found.searched in
    subst (IsAccepted t) (sym found.is) (accepted t found.finding (subst (λ n. IsFindingFor t n found.finding) same found.found)
    (subst (λ n. LEAST_LIMIT ≤ n) same within.0) (subst (λ n. n ≤ GREATEST_LIMIT) same within.1))
