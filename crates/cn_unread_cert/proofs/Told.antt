-- A type that tells its states has a choice that is visible for as many processes as can agree with
-- reads.
use Rattle.std.proofs.Common.{◌≡◌, ℕ, zero, suc, ◌+◌, ◌-◌, ◌<◌, ◌≤◌, [], All, length, get_or, sym, ◌∙◌, subst, arith, inl, inr}
use Rattle.std.specs.Prelude.{slice_index}
use Rattle.std.specs.List.{Contains}
use Rattle.std.proofs.lemmas.List.Elements.{All-get_or, Contains-get_or}
use Rattle.cn_table.specs.TypeTable.{IsClosed, TypeTable, transition}
use Rattle.cn_choice.specs.declared.team.Team.TheVariants.{A, B}
use Rattle.cn_choice.specs.Canonical.{Choice, raw_choice_of}
use Rattle.cn_choice.specs.Discerning.{IsDiscerning, IsWitness}
use Rattle.cn_choice.specs.Live.{live_choices}
use Rattle.cn_choice.specs.OutcomeSets.{InOutcomeSet}
use Rattle.cn_choice.specs.RawChoices.{IsRawChoice, RawChoice}
use Rattle.cn_unread.specs.Telling.{ResponsesTellStates}
use Rattle.cn_unread.proofs.CutOrders.{moves_last}
use Rattle.cn_unread.proofs.Outcomes.{outcome_known}
use Rattle.cn_unread.proofs.ViewWitnesses.{takes_part}
use Rattle.cn_unread_number.specs.Evidence.{SomeLooksTellStates, TellsItsStates}
use Rattle.cn_views.specs.VisibleChoices.{SomeLooksTell}

module _ (t : TypeTable) (closed : IsClosed t) (n : ℕ) (c : RawChoice) (known : IsRawChoice t n c) (witness : IsWitness t c) where
  -- where responses tell the states, no look is needed: the process that moved last knows the state
  by_responses : ResponsesTellStates t → SomeLooksTell t c
  by_responses tells = (
    [],
    λ i l. absurd (omega (arith, l)),
    λ j r p q a b alike. (let x = moves_last t closed c j n known A r p a in
        let y = moves_last t closed c j n known B r q b in
        witness j (r, (transition t (slice_index c.operations j) x.0).1) x.3
        (subst (λ (s : ℕ). InOutcomeSet t c B j (r, s)) (tells (slice_index c.operations j) y.0 x.0
        (All-get_or (λ o. o < length t.operations) c.operations j 0 (takes_part t c A j (r, p) a)
        known.operations_known) y.1 x.1 (y.2 ∙ sym x.2)) y.3)),
  )

  by_looks : SomeLooksTellStates t → SomeLooksTell t c
  by_looks some = (
    some.0,
    some.1,
    λ j r p q a b alike. witness j (r, p) a
        (subst (λ (s : ℕ). InOutcomeSet t c B j (r, s)) (sym (some.2 p q
        (outcome_known t closed n c known A j (r, p) a) (outcome_known t closed n c known B j (r, q) b)
        alike)) b),
  )

  told : TellsItsStates t → SomeLooksTell t c
  told (inl tells) = by_responses tells
  told (inr some) = by_looks some

-- what the laws `live_choices_decide` and `live_list` say
abbrev pub NoWitnessRefutes : Type 0
NoWitnessRefutes = (t : TypeTable) (n : ℕ)
    → All (λ c. ¬ IsWitness t (raw_choice_of c)) (live_choices t n) → ¬ IsDiscerning t n

abbrev pub AreKnown : TypeTable → ℕ → Type 0
AreKnown t n = (c : Choice) → Contains (live_choices t n) c → IsRawChoice t n (raw_choice_of c)

pub some_visible : NoWitnessRefutes → (t : TypeTable) (n : ℕ) → AreKnown t n → IsClosed t → TellsItsStates t
    → IsDiscerning t n → ¬ All (λ c. ¬ SomeLooksTell t (raw_choice_of c)) (live_choices t n)
some_visible law t n known closed tells discerning = λ none.
    law t n (λ k d l. let c : Choice = get_or (live_choices t n) k d in λ witness.
    none k d l (told t closed n (raw_choice_of c) (known c (Contains-get_or (live_choices t n) k d l)) witness tells)) discerning

-- with fewer processes reads are enough too, by the law `monotonicity`
pub fewer : (t : TypeTable) → ((n : ℕ) → 3 ≤ n → IsDiscerning t n → IsDiscerning t (n - 1)) → (m more : ℕ) → 2 ≤ m
    → IsDiscerning t (m + more) → IsDiscerning t m
fewer t law m zero two h = let e : m + 0 ≡ m = omega arith in subst (λ (k : ℕ). IsDiscerning t k) e h
fewer t law m (suc more) two h =
    let e : m + suc more - 1 ≡ m + more = omega arith in
    fewer t law m more two (subst (λ (k : ℕ). IsDiscerning t k) e (law (m + suc more) (omega (arith, two)) h))

pub fewer_to : (t : TypeTable) → ((n : ℕ) → 3 ≤ n → IsDiscerning t n → IsDiscerning t (n - 1)) → (m n : ℕ) → 2 ≤ m → m ≤ n
    → IsDiscerning t n → IsDiscerning t m
fewer_to t law m n two up h =
    let e : n ≡ m + (n - m) = omega (arith, up) in
    fewer t law m (n - m) two (subst (λ (k : ℕ). IsDiscerning t k) e h)
