-- The parts of the headline.
use Rattle.std.proofs.Common.{◌≡◌, ℕ, ◌+◌, ◌↔◌, List, length, Contains, Option, Some, None, IsSomeAnd, MatchOption, ap, sym, ◌∙◌, subst, length-append}
use Rattle.cn_table.proofs.Lists.{Contains-between}
use Rattle.cn_table.specs.TypeTable.{TypeTable}
use Rattle.cn_choice.specs.Canonical.{Choice, IsCanonical, raw_choice_of}
use Rattle.cn_choice.specs.Live.{IsLive, live_choices}
use Rattle.cn_choice.specs.RawChoices.{IsRawChoice}
use Rattle.cn_finding.specs.Evidence.{IsFindingFor, IsFirstWitness}
use Rattle.cn_finding.specs.Finding.{Finding}
use Rattle.cn_proto.specs.Plan.{Plan}
use Rattle.cn_log.specs.Linearized.{IsLinearized}
use Rattle.cn_log.specs.Log.{IsEventList}
use Rattle.cn_log.specs.Opening.{IsOpening, Opening, setting_of}
use Rattle.cn_log.specs.declared.event.Event.{Event}
use Rattle.cn_headline.specs.Headline.{ServesObjects}

-- the live choices of the type for n processes are those of the definition
abbrev pub AreListed : Type 0
AreListed = (t : TypeTable) (n : ℕ) (c : Choice) → Contains (live_choices t n) c ↔ (IsCanonical c × IsRawChoice t n (raw_choice_of c) × IsLive t (raw_choice_of c))

-- every log is linearized
abbrev pub AreLinearized : Type 0
AreLinearized = (o : Opening) (events : List Event) → IsOpening o → IsEventList (setting_of o) events → IsLinearized (setting_of o) events

pub serves_objects : AreLinearized → (plan : Plan) → ServesObjects plan
serves_objects linearized plan o events is same may = linearized o events is may

size_of : AreListed → (t : TypeTable) (n : ℕ) (w : Choice) → IsFirstWitness t (live_choices t n) w → n ≡ length w.a + length w.b
size_of listed t n w first =
    let fits = ((listed t n w).0 (Contains-between (live_choices t n) first.before first.after w (sym first.listed))).1 in
    sym fits.one_operation_each ∙ length-append w.a w.b

-- a witness that was found has as many processes as the number says
pub number_of_witness : AreListed → (t : TypeTable) (limit : ℕ) (f : Finding) (w : Choice) → IsFindingFor t limit f → f.witness ≡ Some w → f.number ≡ Some (length w.a + length w.b)
number_of_witness listed t limit f w found is = by_number f.number found.witness
  where
    by_number : (number : Option ℕ) → MatchOption number (f.witness ≡ None) (λ n. IsSomeAnd f.witness (IsFirstWitness t (live_choices t n))) → number ≡ Some (length w.a + length w.b)
    by_number None none = absurd (cc (sym is ∙ none))
    by_number (Some n) some =
        let first : IsFirstWitness t (live_choices t n) w = subst (λ (o : Option Choice). IsSomeAnd o (IsFirstWitness t (live_choices t n))) is some in
        ap Some (size_of listed t n w first)
