-- Numbers with no evidence, from what was tried.
use Rattle.std.proofs.Common.{◌≡◌, ◌⊎◌, inl, inr, ◌↔◌, ℕ, ◌+◌, ◌≤◌, ◌<◌, Contains, IsTrue, length, Option, Some, None, IfSome, is_some, true, ap, arith, refl, sym, subst, true≢false}
use Rattle.std.proofs.lemmas.Bool.{cases_order}
use Rattle.cn_table.specs.TypeTable.{TypeTable}
use Rattle.cn_choice.specs.Canonical.{Choice, raw_choice_of}
use Rattle.cn_choice.specs.Discerning.{IsDiscerning, IsNumberUpTo, IsWitness}
use Rattle.cn_choice.specs.GreatestNumbers.{IsGreatestUpTo, PassesDown}
use Rattle.cn_choice.proofs.NumberLemmas.GreatestNumbers.{greatest_at, no_greatest}
use Rattle.cn_stocks.specs.Greatest.{NoneFrom}
use Rattle.cn_stocks.specs.Lasting.{IsAlwaysDiscerning, Lasts}
use Rattle.cn_stocks.specs.Leaving.{IsLasting}
use Rattle.cn_stocks.specs.declared.lasting.search.Lasting.{Lasting}
use Rattle.cn_stocks.specs.Splits.{SomeSplits}
use Rattle.cn_copies.specs.Copies.{IsWithoutCopies}
use Rattle.cn_finding.specs.Evidence.{IsFirstAmong, IsFirstWitness, NoneIsWitness}
use Rattle.cn_search.specs.Search.{IsKnownAt}
use Rattle.cn_search.specs.Numbers.{HasNumber, HaveSameNumbers}
use Rattle.cn_search.specs.declared.exact.ConsensusNumber.{ConsensusNumber}
use Rattle.cn_search.specs.declared.exact.ConsensusNumber.TheVariants.{Finite, Infinite}
use Rattle.cn_telling.specs.Greatest.{IsExactSplit}
use Rattle.cn_choice.specs.Live.{live_choices}
use Rattle.cn_search.proofs.ListLemmas.{Contains-between}

-- before n is tried: the greatest number up to n - 1 with the property
abbrev pub HasTried : (ℕ → Type 0) → ℕ → Option ℕ → Type 0
HasTried P n None = n ≡ 2
HasTried P n (Some m) = (n ≡ m + 1) × (2 ≤ m) × P m

-- a property of numbers of processes that passes down, and a limit
module _ (P : ℕ → Type 0) (down : PassesDown P) (limit : ℕ) where
  -- n has not the property
  pub greatest_refuted : (n : ℕ) (number : Option ℕ) → HasTried P n number → n ≤ limit → ¬ P n → IsGreatestUpTo P limit number
  greatest_refuted n None two within fails = no_greatest P down limit (subst (λ (k : ℕ). ¬ P k) two fails)
  greatest_refuted n (Some m) (next, two, is) within fails =
      greatest_at P down limit m two (omega (arith, next, within)) is (λ _. subst (λ (k : ℕ). ¬ P k) next fails)

  -- each number up to the limit was tried
  pub greatest_passed : (n : ℕ) (number : Option ℕ) → HasTried P n number → 2 ≤ limit → n ≡ limit + 1 → IsGreatestUpTo P limit number
  greatest_passed n None two least end = absurd (omega (arith, two, least, end))
  greatest_passed n (Some m) (next, two, is) least end =
      greatest_at P down limit m two (omega (arith, next, end)) is (λ less. absurd (omega (arith, next, end, less)))

-- a first witness, or that there is none, tells whether the type is discerning
pub discerning_by_witness : (t : TypeTable) (n : ℕ) → (NoneIsWitness t (live_choices t n) → ¬ IsDiscerning t n)
    → ((c : Choice) → Contains (live_choices t n) c → IsWitness t (raw_choice_of c) → IsDiscerning t n)
    → (found : Option Choice) → IsFirstAmong (IsWitness t) (live_choices t n) found → IsTrue (is_some found) ↔ IsDiscerning t n
discerning_by_witness t n refuted shown None h = ((λ some. absurd (true≢false (sym some))), (λ is. absurd (refuted h is)))
discerning_by_witness t n refuted shown (Some w) h = ((λ _. shown w (Contains-between _ h.before h.after w (sym h.listed)) h.witness), (λ _. refl))

-- the first witness of all choices is known if there is one
pub known_by_witness : (t : TypeTable) (n : ℕ) (found : Option Choice)
    → IsFirstAmong (IsWitness t) (live_choices t n) found → IsTrue (is_some found) → IsKnownAt t n found
known_by_witness t n None h some = absurd (true≢false (sym some))
known_by_witness t n (Some w) h some = h

-- what is found among some choices is the first witness of all
module _ (t : TypeTable) (n : ℕ)
    (shown : (c : Choice) → Contains (live_choices t n) c → IsWitness t (raw_choice_of c) → IsDiscerning t n) where
  pub discerning_by_first : (found : Option Choice) → IfSome found (IsFirstWitness t (live_choices t n))
      → is_some found ≡ true → IsDiscerning t n
  discerning_by_first None h some = absurd (true≢false (sym some))
  discerning_by_first (Some w) h some = shown w (Contains-between _ h.before h.after w (sym h.listed)) h.witness

  pub known_by_first : (found : Option Choice) → IfSome found (IsFirstWitness t (live_choices t n))
      → is_some found ≡ true → IsKnownAt t n found
  known_by_first None h some = absurd (true≢false (sym some))
  known_by_first (Some w) h some = h

-- where no larger stock than these splits, the type is discerning for no more processes
none_by_stocks : (t : TypeTable) → ((n : ℕ) → 3 ≤ n → IsDiscerning t n ↔ SomeSplits t n) → (from most : ℕ) → 3 ≤ from → NoneFrom t from most
    → (m : ℕ) → from ≤ m → m ≤ most → ¬ IsDiscerning t m
none_by_stocks t decide from most three none m l u d = none m l u ((decide m (omega (arith, three, l))).0 d)

-- the greatest number of operations of which some stock splits is that of processes
pub by_size : (t : TypeTable) → ((n : ℕ) → 3 ≤ n → IsDiscerning t n ↔ SomeSplits t n) → (most n : ℕ) → IsExactSplit t most (Some n) → IsNumberUpTo t most (Some n)
by_size t decide most n (three, within, splits, none) =
    (omega (arith, three), within, (decide n three).1 splits, λ m l u. none_by_stocks t decide (n + 1) most (omega (arith, three)) none m (omega (arith, l)) u)

-- where no stock splits, it is two, or there is none
pub by_two : (t : TypeTable) → ((n : ℕ) → 3 ≤ n → IsDiscerning t n ↔ SomeSplits t n) → (most : ℕ) → 2 ≤ most → IsExactSplit t most None → IsDiscerning t 2
    → IsNumberUpTo t most (Some 2)
by_two t decide most two none d = (omega arith, two, d, λ m l u. none_by_stocks t decide 3 most (omega arith) none m (omega (arith, l)) u)

pub by_none : (t : TypeTable) → ((n : ℕ) → 3 ≤ n → IsDiscerning t n ↔ SomeSplits t n) → (most : ℕ) → IsExactSplit t most None → ¬ IsDiscerning t 2
    → IsNumberUpTo t most None
by_none t decide most none not_two m two u = elim (cases_order m 2) [
  | inl e ↦ subst (λ (k : ℕ). ¬ IsDiscerning t k) (sym e) not_two
  | inr o ↦ elim o [
    | inl less ↦ absurd (omega (arith, two, less))
    | inr more ↦ none_by_stocks t decide 3 most (omega arith) none m (omega (arith, more)) u
  ]
]

-- a type no two of whose operations last: the number up to at least as many processes as it has states is the number
module _ (t : TypeTable) (few : (m : ℕ) → 3 ≤ m → length t.states < m → ¬ IsDiscerning t m) (most : ℕ) (three : 3 ≤ most) (all : length t.states ≤ most) where
  none_above : (n : ℕ) → ((m : ℕ) → n < m → m ≤ most → ¬ IsDiscerning t m) → (m : ℕ) → n < m → ¬ IsDiscerning t m
  none_above n none m l d = elim (cases_order m most) [
    | inl e ↦ none m l (omega (arith, e)) d
    | inr o ↦ elim o [
      | inl less ↦ none m l (omega (arith, less)) d
      | inr more ↦ few m (omega (arith, three, more)) (omega (arith, all, more)) d
    ]
  ]

  pub of_number : (n : ℕ) → IsNumberUpTo t most (Some n) → HasNumber t (Finite n)
  of_number n (two, within, d, none) = (
    omega (arith, two),
    elim (cases_order n (length t.states)) [
      | inl e ↦ inr (omega (arith, e))
      | inr o ↦ elim o [
        | inl less ↦ inr (omega (arith, less))
        | inr more ↦ elim (cases_order n 2) [
          | inl e ↦ inl (omega (arith, e))
          | inr p ↦ elim p [
            | inl less ↦ inl (omega (arith, less))
            | inr three ↦ absurd (few n (omega (arith, three)) more d)
          ]
        ]
      ]
    ],
    λ _. d,
    none_above n none,
  )

  pub of_none : IsNumberUpTo t most None → HasNumber t (Finite 1)
  of_none none = (omega arith, inl (omega arith), λ two. absurd (omega (arith, two)), none_above 1 (λ m l u. none m (omega (arith, l)) u))

-- ---- two operations that last

pub always_by_found : (t : TypeTable) → ((start many single : ℕ) → Lasts t start many single → IsAlwaysDiscerning t)
    → (found : Option Lasting) → IfSome found (IsLasting t) → is_some found ≡ true → IsAlwaysDiscerning t
always_by_found t always None lasts e = absurd (true≢false (sym e))
always_by_found t always (Some l) lasts e = always l.start.0 l.many.0 l.single.0 lasts

pub always_up_to : (t : TypeTable) (limit : ℕ) → 2 ≤ limit → IsAlwaysDiscerning t → IsNumberUpTo t limit (Some limit)
always_up_to t limit two always = (two, omega arith, always limit two, λ m l u. absurd (omega (arith, l, u)))

-- ---- a type that is discerning for the same numbers

pub same_up_to : (t u : TypeTable) → HaveSameNumbers t u → (limit : ℕ) (number : Option ℕ) → IsNumberUpTo u limit number → IsNumberUpTo t limit number
same_up_to t u same limit None none = λ m two within d. none m two within ((same.1 m).0 d)
same_up_to t u same limit (Some n) (two, within, d, none) = (two, within, (same.1 n).1 d, λ m l w e. none m l w ((same.1 m).0 e))

pub same_number : (t u : TypeTable) → HaveSameNumbers t u → (number : ConsensusNumber) → HasNumber u number → HasNumber t number
same_number t u same (Finite n) (one, few, d, none) =
    (one, subst (λ (k : ℕ). (n ≤ 2) ⊎ (n ≤ k)) (sym same.0) few, λ two. (same.1 n).1 (d two), λ m l e. none m l ((same.1 m).0 e))
same_number t u same Infinite always = λ n two. (same.1 n).1 (always n two)

pub same_without_copies : (t u : TypeTable) → ((n : ℕ) → IsDiscerning t n ↔ IsDiscerning u n) → IsWithoutCopies t u → HaveSameNumbers t u
same_without_copies t u same without = (ap (λ (v : TypeTable). length v.states) (sym without.2), same)
