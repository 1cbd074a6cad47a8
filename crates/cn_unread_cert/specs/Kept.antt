-- What a certificate keeps of the evidence for a number without reads. New here.
use Rattle.std.specs.Prelude.{◌≡◌, ◌⊎◌, ℕ, ◌≤◌, ◌<◌, Option, Some, None, IfSome}
use Rattle.cn_table.specs.TypeTable.{TypeTable}
use Rattle.cn_choice.specs.Discerning.{IsDiscerning}
use Rattle.cn_choice.specs.declared.limits.TheConstants.{MOST_PROCESSES}
use Rattle.cn_unread_number.specs.Evidence.{AreCloseTo, AreShown, ShowsLeast, ShowsMost}
use Rattle.cn_unread_number.specs.declared.bounds.NumberBounds.{NumberBounds}
use Rattle.cn_unread_number.specs.declared.bounds.NumberBounds.TheVariants.{AtLeast, Between, Exactly}
use Rattle.cn_unread_number.specs.declared.bounds.NumberBounds.TheVariants.{Infinite}
use Rattle.cn_unread_number.specs.declared.evidence.Evidence.{Evidence}
use Rattle.cn_unread_number.specs.declared.evidence.LeastEvidence.{LeastEvidence}
use Rattle.cn_unread_number.specs.declared.evidence.LeastEvidence.TheVariants as least
use Rattle.cn_unread_number.specs.declared.evidence.MostEvidence.{MostEvidence}
use Rattle.cn_unread_number.specs.declared.evidence.MostEvidence.TheVariants as most
use Rattle.cn_unread_cert.specs.Certificate.{UnreadCertificate}
use Rattle.cn_unread_cert.specs.Right.{AreInRange, IsMerging, ShowsAtLeast, ShowsAtMost, ShowsFor}
use Rattle.cn_unread_cert.specs.declared.certificate.LeastClaim.{LeastClaim}
use Rattle.cn_unread_cert.specs.declared.maker.Lower.{Lower}
use Rattle.cn_unread_cert.specs.declared.maker.Upper.{Upper}

-- the lower bound, if it is one number
abbrev pub least_of : NumberBounds → Option ℕ
least_of (Exactly n) = Some n
least_of Infinite = None
least_of (Between n m) = Some n
least_of (AtLeast n) = Some n

-- the upper bound, if there is one
abbrev pub most_of : NumberBounds → Option ℕ
most_of (Exactly n) = Some n
most_of Infinite = None
most_of (Between n m) = Some m
most_of (AtLeast n) = None

-- the evidence shows the lower bound
abbrev pub LeastIsShown : TypeTable → LeastEvidence → Option ℕ → Type 0
LeastIsShown t low None = (n : ℕ) → 2 ≤ n → ShowsLeast t low n
LeastIsShown t low (Some n) = (1 ≤ n) × ShowsLeast t low n

-- the claim shows the lower bound; or it shows all, by the greatest number of which a certificate speaks
abbrev pub IsClaimShown : TypeTable → LeastClaim → Option ℕ → Type 0
IsClaimShown t claim None = ShowsFor t claim MOST_PROCESSES
IsClaimShown t claim (Some n) = (1 ≤ n) × ShowsFor t claim n

-- the evidence shows the upper bound
abbrev pub MostIsShown : TypeTable → MostEvidence → Option ℕ → Type 0
MostIsShown t high None = Unit {0}
MostIsShown t high (Some m) = ShowsMost t high m

-- processes of this number can agree with reads; or those of any number
abbrev pub AreReadsShown : TypeTable → Option ℕ → Type 0
AreReadsShown t None = (n : ℕ) → 2 ≤ n → IsDiscerning t n
AreReadsShown t (Some n) = (1 ≤ n) × (2 ≤ n → IsDiscerning t n)

-- the lower bound of a type that tells its states stands up to 8 processes, and a greater one as 8;
-- one for every number stands, or as 8
abbrev pub IsToldKept : Option ℕ → Option ℕ → Type 0
IsToldKept None at_least = (at_least ≡ None) ⊎ (at_least ≡ Some MOST_PROCESSES)
IsToldKept (Some n) at_least =
    (n ≤ MOST_PROCESSES → at_least ≡ Some n) × (MOST_PROCESSES < n → at_least ≡ Some MOST_PROCESSES)

-- the lower bound stands as it was shown, up to 8 processes; where signs show it, for every number
abbrev pub IsLeastKept : LeastEvidence → Option ℕ → Option ℕ → Type 0
IsLeastKept least.Alone bound at_least = at_least ≡ Some 1
IsLeastKept (least.Telling how) bound at_least = IsToldKept bound at_least
IsLeastKept (least.Visible c) bound at_least =
    IfSome bound (λ n. n ≤ MOST_PROCESSES → at_least ≡ Some n)
IsLeastKept (least.Further further) bound at_least =
    IfSome bound (λ n. n ≤ MOST_PROCESSES → at_least ≡ Some n)
IsLeastKept (least.Signs signs) bound at_least = at_least ≡ None

-- the upper bound stands as it was shown by a trap, unless it is for 8 processes or more; one that the
-- number with reads shows stands, or there is none
abbrev pub IsMostKept : MostEvidence → Option ℕ → Option ℕ → Option ℕ → Type 0
IsMostKept most.Open bound at_least at_most = at_most ≡ None
IsMostKept most.WithReads bound at_least at_most = (at_most ≡ None) ⊎ (at_most ≡ bound)
IsMostKept (most.Trap trap) bound at_least at_most =
    IfSome bound (λ m. m < MOST_PROCESSES → IfSome at_least (λ n. n ≤ m → at_most ≡ Some m))

-- the certificate keeps the bounds that were found of the type: with its states merged, evidence shows
-- them, and they are close to some number with reads
pub record KeepsFound (t : TypeTable) (c : UnreadCertificate) : Type 0 where
  pub merged : TypeTable
  pub merging : IsMerging t merged
  pub found : Evidence
  pub shown : AreShown merged found.least found.most found.bounds
  pub close : (number : _) × AreCloseTo merged found.bounds number
  pub lower : IsLeastKept found.least (least_of found.bounds) c.at_least
  pub upper : IsMostKept found.most (most_of found.bounds) c.at_least c.at_most

-- the claim shows the lower bound, and this is in range
pub record IsLower (t : TypeTable) (lower : Lower) : Type 0 where
  pub shown : ShowsAtLeast t lower.by lower.at_least
  pub in_range : AreInRange lower.at_least None

-- the trap shows the upper bound, and this is in range beside the lower bound
pub record IsUpper (t : TypeTable) (at_least : Option ℕ) (upper : Upper) : Type 0 where
  pub shown : ShowsAtMost t upper.by upper.at_most
  pub in_range : AreInRange at_least upper.at_most
