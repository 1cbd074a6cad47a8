-- Evidence for a number is a claim of a certificate.
use Rattle.std.proofs.Common.{◌≡◌, ℕ, Option, Some, None, arith, subst}
use Rattle.cn_table.specs.TypeTable.{TypeTable}
use Rattle.cn_choice.specs.declared.limits.TheConstants.{MOST_PROCESSES}
use Rattle.cn_unread_number.specs.Evidence.{ShowsLeast}
use Rattle.cn_unread_number.specs.declared.evidence.LeastEvidence.{LeastEvidence}
use Rattle.cn_unread_number.specs.declared.evidence.LeastEvidence.TheVariants as least
use Rattle.cn_unread_number.specs.declared.telling.Telling.{Telling}
use Rattle.cn_unread_cert.specs.Kept.{AreReadsShown, IsClaimShown, LeastIsShown}
use Rattle.cn_unread_cert.specs.Right.{ShowsFor}
use Rattle.cn_unread_cert.specs.declared.certificate.LeastClaim.{LeastClaim}

-- where the evidence shows the same as the claim
pub claim_shown : (t : TypeTable) (number : Option ℕ) (low same : LeastEvidence) (claim : LeastClaim)
    → ((n : ℕ) → ShowsLeast t same n → ShowsFor t claim n) → low ≡ same → LeastIsShown t low number
    → IsClaimShown t claim number
claim_shown t None low same claim shows e shown =
    shows MOST_PROCESSES (subst (λ (x : LeastEvidence). ShowsLeast t x MOST_PROCESSES) e (shown MOST_PROCESSES (omega arith)))
claim_shown t (Some n) low same claim shows e shown =
    (shown.0, shows n (subst (λ (x : LeastEvidence). ShowsLeast t x n) e shown.1))

-- where a type that tells its states shows a number, it is that with reads
pub reads_shown : (t : TypeTable) (number : Option ℕ) (low : LeastEvidence) (how : Telling) → low ≡ least.Telling how
    → LeastIsShown t low number → AreReadsShown t number
reads_shown t None low how e shown =
    λ n two. (subst (λ (x : LeastEvidence). ShowsLeast t x n) e (shown n two)).1 two
reads_shown t (Some n) low how e shown =
    (shown.0, (subst (λ (x : LeastEvidence). ShowsLeast t x n) e shown.1).1)
