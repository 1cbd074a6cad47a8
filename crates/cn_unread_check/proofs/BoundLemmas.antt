-- What a certificate shows is evidence for a number.
use Rattle.std.proofs.Common.{◌≡◌, ◌==◌, ℕ, ◌+◌, ◌≤◌, Bool, true, false, Option, Some, None, arith, refl, cond}
use Rattle.std.proofs.lemmas.Bool.{eqb-false, eqb-true}
use Rattle.cn_table.specs.TypeTable.{IsTypeTable, TypeTable}
use Rattle.cn_game.specs.TrapLists.{IsTrapList}
use Rattle.cn_game.specs.declared.trap.Trap.{Trap}
use Rattle.cn_merging.specs.Merged.{class_in}
use Rattle.cn_unread_cert.specs.Certificate.{UnreadCertificate}
use Rattle.cn_unread_cert.specs.Right.{AreInRange, IsRight, ShowsAtLeast, ShowsAtMost, ShowsFor, ShowsForAll}
use Rattle.cn_unread_cert.specs.declared.certificate.LeastClaim.{LeastClaim}
use Rattle.cn_unread_cert.specs.declared.certificate.LeastClaim.TheVariants as claim
use Rattle.cn_unread_check.specs.Bounds.{bounds_of}
use Rattle.cn_unread_number.specs.Bounds.{AreBounds, HasUnreadNumber}
use Rattle.cn_unread_number.specs.Evidence.{AreShown, ShowsLeast}
use Rattle.cn_unread_number.specs.declared.bounds.NumberBounds.{NumberBounds}
use Rattle.cn_unread_number.specs.declared.bounds.NumberBounds.TheVariants.{Between, Exactly}
use Rattle.cn_unread_number.specs.declared.evidence.LeastEvidence.{LeastEvidence}
use Rattle.cn_unread_number.specs.declared.evidence.LeastEvidence.TheVariants as least
use Rattle.cn_unread_number.specs.declared.evidence.MostEvidence.{MostEvidence}
use Rattle.cn_unread_number.specs.declared.evidence.MostEvidence.TheVariants as most

abbrev evidence_of : LeastClaim → LeastEvidence
evidence_of claim.Alone = least.Alone
evidence_of (claim.Visible c) = least.Visible c
evidence_of (claim.Further further) = least.Further further
evidence_of (claim.Signs signs) = least.Signs signs

abbrev trap_of : Option Trap → MostEvidence
trap_of None = most.Open
trap_of (Some trap) = most.Trap trap

for_one : (t : TypeTable) (low : LeastClaim) (n : ℕ) → ShowsFor t low n → ShowsLeast t (evidence_of low) n
for_one t claim.Alone n h = h
for_one t (claim.Visible c) n h = h
for_one t (claim.Further further) n h = h
for_one t (claim.Signs signs) n h = absurd h

for_all : (t : TypeTable) (low : LeastClaim) → ShowsForAll t low → (n : ℕ) → ShowsLeast t (evidence_of low) n
for_all t claim.Alone h n = absurd h
for_all t (claim.Visible c) h n = absurd h
for_all t (claim.Further further) h n = absurd h
for_all t (claim.Signs signs) h n = h

-- both numbers, where they are the same and where they are not
both : (t : TypeTable) (low : LeastClaim) (trap : Trap) (n m : ℕ) (same : Bool) → (n == m) ≡ same → (1 ≤ n)
    → n ≤ m → ShowsFor t low n → IsTrapList t (m + 1) trap.turns.items
    → AreShown t (evidence_of low) (most.Trap trap) (cond same (Exactly n) (Between n m))
both t low trap n m true e some ordered shows traps =
    (some, for_one t low n shows, rw (eqb-true n m e) traps)
both t low trap n m false e some ordered shows traps =
    (some, for_one t low n shows, traps, omega (arith, ordered, eqb-false n m e))

are_shown : (t : TypeTable) (at_least at_most : Option ℕ) (low : LeastClaim) (high : Option Trap)
    → AreInRange at_least at_most → ShowsAtLeast t low at_least → ShowsAtMost t high at_most
    → AreShown t (evidence_of low) (trap_of high) (bounds_of at_least at_most)
are_shown t None None low high range shows bounded = λ n two. for_all t low shows n
are_shown t None (Some m) low high range shows bounded = absurd range
are_shown t (Some n) None low None range shows bounded = (range.0, for_one t low n shows, refl)
are_shown t (Some n) None low (Some trap) range shows bounded = absurd bounded
are_shown t (Some n) (Some m) low None range shows bounded = absurd bounded
are_shown t (Some n) (Some m) low (Some trap) range shows bounded =
    both t low trap n m (n == m) refl range.0 range.1 shows bounded

-- what the law `shown_bounds_hold` says
abbrev pub ShownBoundsHold : Type 0
ShownBoundsHold = (t : TypeTable) (low : LeastEvidence) (high : MostEvidence) (bounds : NumberBounds)
    → IsTypeTable t → AreShown t low high bounds → AreBounds t bounds

pub bounds_hold : ShownBoundsHold → (t : TypeTable) (c : UnreadCertificate) → IsRight t c
    → HasUnreadNumber t (bounds_of c.at_least c.at_most)
bounds_hold law t c right =
    let u = right.0 in
    let merging = right.1 in
    let shown = right.2 in (
      class_in merging.1.0,
      u,
      merging.0,
      merging.1.1.merged,
      law u (evidence_of c.least) (trap_of c.most) (bounds_of c.at_least c.at_most) merging.0
          (are_shown u c.at_least c.at_most c.least c.most shown.in_range shown.least shown.most),
    )
