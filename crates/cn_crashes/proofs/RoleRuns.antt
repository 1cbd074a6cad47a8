-- Runs of roles: one role more, and one role alone.
use Rattle.std.proofs.Common.{◌≡◌, ◌≢◌, ℕ, ◌<◌, ◌⊎◌, inl, inr, List, [], ◌∷◌, ◌++◌, refl, subst}
use Rattle.std.proofs.Common.{arith}
use Rattle.std.specs.List.{AllByRecursion}
use Rattle.std.proofs.lemmas.Bool.{cases_eq}
use Rattle.std.proofs.lemmas.List.Quantifiers.{all_pairs_push}
use Rattle.cn_choice.specs.declared.team.Team.{Team}
use Rattle.cn_choice.proofs.ListLemmas.Members.{IsIn, IsIn-at}
use Rattle.cn_proto.specs.Order.{after, BeginsIn, IsRun}

pub after_push : (act : ℕ → ℕ → ℕ × ℕ) (start : ℕ) (order : List ℕ) (role : ℕ)
    → after act start (order ++ role ∷ []) ≡ (act role (after act start order)).1
after_push act start [] role = refl
after_push act start (x ∷ order) role = after_push act (act x start).1 order role

below_push : (n : ℕ) (order : List ℕ) (role : ℕ) → AllByRecursion (λ role. role < n) order
    → role < n → AllByRecursion (λ role. role < n) (order ++ role ∷ [])
below_push n [] role h l = (l, tt)
below_push n (x ∷ order) role h l = (h.0, below_push n order role h.1 l)

begins_push : (team : ℕ → Team) (side : Team) (order : List ℕ) (role : ℕ)
    → BeginsIn team side order → BeginsIn team side (order ++ role ∷ [])
begins_push team side [] role h = absurd h
begins_push team side (x ∷ order) role h = h

pub run_push : (n : ℕ) (team : ℕ → Team) (side : Team) (order : List ℕ) (role : ℕ)
    → IsRun n team side order → (IsIn role order → ⊥) → role < n
    → IsRun n team side (order ++ role ∷ [])
run_push n team side order role r new l = record {
  distinct = all_pairs_push (λ (x : ℕ) y. x ≢ y) order role r.distinct (λ k d lt e.
      new (subst (λ (x : ℕ). IsIn x order) e (IsIn-at order k d lt)));
  below = below_push n order role r.below l;
  begins = begins_push team side order role r.begins;
}

pub run_alone : (n : ℕ) (team : ℕ → Team) (side : Team) (role : ℕ) → team role ≡ side → role < n
    → IsRun n team side (role ∷ [])
run_alone n team side role e l = record {
  distinct = λ i j d u v.
      absurd (omega (arith, u, v));
  below = (l, tt);
  begins = e;
}

pub in_or_not : (x : ℕ) (xs : List ℕ) → IsIn x xs ⊎ (IsIn x xs → ⊥)
in_or_not x [] = inr (λ h. h)
in_or_not x (y ∷ ys) = elim (cases_eq y x) [
  | inl e ↦ inl (inl e)
  | inr d ↦ elim (in_or_not x ys) [
    | inl i ↦ inl (inr i)
    | inr n ↦ inr (λ h.
        elim h [ inl e ↦ d e | inr i ↦ n i ])
  ]
]
