-- The witness of an accepted certificate.
use Rattle.std.proofs.Common.{◌≡◌, ℕ, Option, Some, IfSome, subst, sym, ◌∙◌}
use Rattle.cn_table.specs.TypeTable.{TypeTable}
use Rattle.cn_choice.specs.Canonical.{Choice, raw_choice_of}
use Rattle.cn_choice.specs.Discerning.{IsWitness}
use Rattle.cn_choice.specs.FirstMeeting.{IsFirstMeeting}
use Rattle.cn_cert.specs.Certificate.{Certificate}
use Rattle.cn_check.specs.Verdict.{IsAccepted}

-- it has no outcome sets that meet
pub no_meeting : (t u : TypeTable) (c : Certificate) (o : Option Choice) (w : Choice) (j : ℕ) → IsAccepted t c → u ≡ t → o ≡ c.witness → o ≡ Some w → IsFirstMeeting u (raw_choice_of w) j → ⊥
no_meeting t u c o w j accepted same_table same_witness is first =
    let witness = subst (λ (v : Option Choice). IfSome v (λ x. IsWitness t (raw_choice_of x))) (sym same_witness ∙ is) accepted.witness in
    let meets = subst (λ (v : TypeTable). IsFirstMeeting v (raw_choice_of w) j) same_table first in
    witness j meets.meets.0 meets.meets.1 meets.meets.2
