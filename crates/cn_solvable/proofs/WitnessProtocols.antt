-- An n-discerning type has a consensus protocol for n processes: the round of a witness.
use Rattle.std.proofs.Common.{◌≡◌, ℕ, ◌-◌, ◌<◌, ◌≤◌, ◌⊎◌, inl, inr, length, refl, sym, subst}
use Rattle.std.specs.Prelude.{slice_index}
use Rattle.std.proofs.lemmas.List.Elements.{All-get_or}
use Rattle.cn_table.specs.TypeTable.{TypeTable}
use Rattle.cn_choice.specs.Canonical.{Choice, IsCanonicalForm, raw_choice_of}
use Rattle.cn_choice.specs.Discerning.{IsDiscerning, IsWitness}
use Rattle.cn_choice.specs.OutcomeSets.{InOutcomeSet}
use Rattle.cn_choice.specs.RawChoices.{IsRawChoice, RawChoice}
use Rattle.cn_choice.specs.declared.team.Team.{Team}
use Rattle.cn_choice.specs.declared.team.Team.TheVariants.{A, B}
use Rattle.cn_proto.specs.Protocol.{ProtocolOfRounds}
use Rattle.cn_proto.specs.Sound.{IsSound}
use Rattle.cn_proto.specs.Tournament.{team_of, tournament}
use Rattle.cn_proto.specs.Witnesses.{JudgesOutcomes, tournament_protocol}
use Rattle.cn_solvable.specs.RoundProtocol.{round_protocol}
use Rattle.cn_solvable.specs.Solving.{SolvesConsensus}
use Rattle.cn_solvable.proofs.Rounds.{SoundProtocolsAgree, consensus, of_type}

-- what laws of `cn_choice`, `cn_proto` and `cn_agree` say
pub record LawsBelow : Type 0 where
  pub decided : (t : TypeTable) (c : RawChoice) (team : Team) (j : ℕ) (pair : ℕ × ℕ)
      → InOutcomeSet t c team j pair ⊎ ¬ InOutcomeSet t c team j pair
  pub canonical : (t : TypeTable) (n : ℕ) (c : RawChoice) → IsRawChoice t n c
      → (d : Choice) × IsCanonicalForm t n d c
  pub sound : (t : TypeTable) (c : Choice) (n : ℕ) (judge : ℕ → ℕ → ℕ → Team)
      → IsRawChoice t n (raw_choice_of c) → JudgesOutcomes t (raw_choice_of c) judge
      → IsSound (tournament_protocol t c judge) n (n - 1) (team_of (length c.a))
  pub short : (t : TypeTable) (c : Choice) (n : ℕ) → IsRawChoice t n (raw_choice_of c)
      → (p : ℕ) → p < n → length (tournament (length c.a) (length c.b) p) ≤ n - 1
  pub agree : SoundProtocolsAgree

-- team A for a pair of its outcome set, else team B
judge_by : {X : Type 0} → X ⊎ ¬ X → Team
judge_by (inl h) = A
judge_by (inr n) = B

module _ (laws : LawsBelow) (t : TypeTable) (n : ℕ) (two : 2 ≤ n) (d : Choice)
    (is : IsRawChoice t n (raw_choice_of d)) (witness : IsWitness t (raw_choice_of d)) where
  judge : ℕ → ℕ → ℕ → Team
  judge role response state = judge_by (laws.decided t (raw_choice_of d) A role (response, state))

  judges : JudgesOutcomes t (raw_choice_of d) judge
  unfolding judge judge_by
  judges side role response state h = by_test side
      (laws.decided t (raw_choice_of d) A role (response, state)) h
    where
      by_test : (side : Team) (test : InOutcomeSet t (raw_choice_of d) A role (
        response,
        state,
      ) ⊎ ¬ InOutcomeSet t (raw_choice_of d) A role (response, state))
          → InOutcomeSet t (raw_choice_of d) side role (response, state) → judge_by test ≡ side
      by_test A (inl i) h = refl
      by_test A (inr n) h = absurd (n h)
      by_test B (inl i) h = absurd (witness role (response, state) i h)
      by_test B (inr n) h = refl

  abbrev R : ProtocolOfRounds
  R = tournament_protocol t d judge

  abbrev op : ℕ → ℕ
  op role = slice_index (raw_choice_of d).operations role

  sound : IsSound R n (n - 1) (team_of (length d.a))
  sound = laws.sound t d n judge is judges

  pub solves_by : SolvesConsensus t n
  solves_by = (
    round_protocol R op,
    of_type t R op n (team_of (length d.a)) sound (λ role q. refl) two is.state_known (λ role l.
        All-get_or (λ o. o < length t.operations) (raw_choice_of d).operations role 0
        (subst (λ (k : ℕ). role < k) (sym is.one_operation_each) l) is.operations_known),
    consensus t R op n (team_of (length d.a)) sound (λ role q. refl) two laws.agree
        (laws.short t d n is),
  )

pub discerning_solves : LawsBelow → (t : TypeTable) (n : ℕ) → 2 ≤ n → IsDiscerning t n
    → SolvesConsensus t n
discerning_solves laws t n two w =
    let f = laws.canonical t n w.0 w.1 in
    solves_by laws t n two f.0 f.1.for_n (f.1.same_witness.0 w.2)
