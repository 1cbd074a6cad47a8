-- Ascending lists with the same members are one list.
use Rattle.std.proofs.Common.{◌≡◌, ℕ, zero, suc, ◌<◌, ◌≤◌, List, length, sym, ap, ◌∙◌, arith, inl, inr, subst}
use Rattle.std.specs.Prelude.{slice_index}
use Rattle.std.proofs.lemmas.Bool.{cases_order}
use Rattle.std.proofs.lemmas.Grind.{same_number_lists}

-- each number is less than those behind it
abbrev pub IsAscending : List ℕ → Type 0
IsAscending xs = (i j : ℕ) → i < j → j < length xs → slice_index xs i < slice_index xs j

-- each member of the first list is one of the second
abbrev pub AreMembers : List ℕ → List ℕ → Type 0
AreMembers xs ys = (i : ℕ) → i < length xs → (j : ℕ) × (j < length ys) × (slice_index ys j ≡ slice_index xs i)

-- up to a place the second list has the same numbers at the same places
abbrev AgreeBelow : ℕ → List ℕ → List ℕ → Type 0
AgreeBelow n xs ys = (i : ℕ) → i < n → (i < length ys) × (slice_index xs i ≡ slice_index ys i)

module _ (xs ys : List ℕ) (up : IsAscending xs) (up_too : IsAscending ys) (into : AreMembers xs ys) (back : AreMembers ys xs) where
  -- where a member of the first list stands in the second: not sooner, since those are taken
  not_sooner : (n j : ℕ) → n < length xs → AgreeBelow n xs ys → slice_index ys j ≡ slice_index xs n → j < n → ⊥
  not_sooner n j l agree e less =
      omega (arith, e, (agree j less).1, up j n less l)

  -- nor later: a number of the second list between them would stand in the first
  not_later : (n j : ℕ) → n < length xs → j < length ys → AgreeBelow n xs ys → slice_index ys j ≡ slice_index xs n → n < j → ⊥
  not_later n j l m agree e less =
      let here : slice_index ys n < slice_index ys j = up_too n j less m in
      let there = back n (omega (arith, less, m)) in
      elim (cases_order there.0 n) [
        | inl same ↦ omega (arith, e, here, there.2, ap (slice_index xs) same)
        | inr h ↦ elim h [
          | inl sooner ↦ omega (arith, there.2, (agree there.0 sooner).1, up_too there.0 n sooner (omega (arith, less, m)))
          | inr later ↦ omega (arith, e, here, there.2, up n there.0 later there.1)
        ]
      ]

  same_here : (n : ℕ) → n < length xs → AgreeBelow n xs ys → (n < length ys) × (slice_index xs n ≡ slice_index ys n)
  same_here n l agree =
      let there = into n l in
      elim (cases_order there.0 n) [
        | inl same ↦ (omega (arith, same, there.1), sym there.2 ∙ ap (slice_index ys) same)
        | inr h ↦ elim h [
          | inl sooner ↦ absurd (not_sooner n there.0 l agree there.2 sooner)
          | inr later ↦ absurd (not_later n there.0 l there.1 agree there.2 later)
        ]
      ]

  agree_below : (n : ℕ) → n ≤ length xs → AgreeBelow n xs ys
  agree_below zero few i l = absurd (omega (arith, l))
  agree_below (suc n) few i l =
      let sooner = agree_below n (omega (arith, few)) in
      elim (cases_order i n) [
        | inl same ↦ subst (λ (k : ℕ). (k < length ys) × (slice_index xs k ≡ slice_index ys k)) (sym same) (same_here n (omega (arith, few)) sooner)
        | inr h ↦ elim h [
          | inl less ↦ sooner i less
          | inr more ↦ absurd (omega (arith, l, more))
        ]
      ]

  pub agree_all : AgreeBelow (length xs) xs ys
  agree_all = agree_below (length xs) (omega arith)

not_longer : (xs ys : List ℕ) → AgreeBelow (length xs) xs ys → length xs ≤ length ys
not_longer xs ys agree = elim (cases_order (length xs) (length ys)) [
  | inl e ↦ omega (arith, e)
  | inr h ↦ elim h [
    | inl less ↦ omega (arith, less)
    | inr more ↦ absurd (omega (arith, more, (agree (length ys) more).0))
  ]
]

pub same_ascending : (xs ys : List ℕ) → IsAscending xs → IsAscending ys → AreMembers xs ys → AreMembers ys xs → xs ≡ ys
same_ascending xs ys up up_too into back =
    let here = agree_all xs ys up up_too into back in
    let there = agree_all ys xs up_too up back into in
    same_number_lists xs ys (omega (arith, not_longer xs ys here, not_longer ys xs there)) (λ k l. (here k l).1)
