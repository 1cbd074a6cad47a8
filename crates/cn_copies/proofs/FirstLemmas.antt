-- The operations that are no copies of earlier ones.
use Rattle.std.proofs.Common.{ℕ, zero, suc, ◌+◌, ◌<◌, ◌≤◌, ◌∙◌, inl, inr, List, [], ◌∷◌, ◌++◌, length, refl, sym, subst, arith, Contains}
use Rattle.cn_table.specs.TypeTable.{TypeTable}
use Rattle.cn_choice.proofs.ListLemmas.Members.{AllPairs-from_Pairs, Contains-from_IsIn, IsIn, IsIn-append_cases, IsIn-append_left, IsIn-append_right, IsIn-from_Contains, Pairs, Pairs-append, each_from}
use Rattle.std.proofs.lemmas.List.Elements.{All-from_recursion}
use Rattle.cn_copies.specs.Copies.{AreCopies, AreFirst, HasCopies, IsCopy}
use Rattle.cn_copies.proofs.Deciding.{is_copy_or, last_or_less}

-- the list has those of the first n operations
pub record AreFirstOf (t : TypeTable) (n : ℕ) (list : List ℕ) : Type 0 where
  pub each : (o : ℕ) → IsIn o list → (o < n) × (IsCopy t o → ⊥)
  pub all : (o : ℕ) → o < n → (IsCopy t o → ⊥) → IsIn o list
  pub ascending : Pairs (λ (x y : ℕ). x < y) list

pub first_of_none : (t : TypeTable) → AreFirstOf t 0 []
first_of_none t = record { each = λ o i. absurd i; all = λ o l isnt. absurd (omega (arith, l)); ascending = tt }

pub first_skipped : (t : TypeTable) (n : ℕ) (list : List ℕ) → IsCopy t n → AreFirstOf t n list → AreFirstOf t (n + 1) list
first_skipped t n list copy f = record {
  each = λ o i. let r = f.each o i in (omega (arith, r.0), r.1);
  all = λ o l isnt. elim (last_or_less o n (omega (arith, l))) [ inl u ↦ f.all o u isnt | inr e ↦ absurd (isnt (subst (IsCopy t) (sym e) copy)) ];
  ascending = f.ascending;
}

pub first_added : (t : TypeTable) (n : ℕ) (list : List ℕ) → (IsCopy t n → ⊥) → AreFirstOf t n list → AreFirstOf t (n + 1) (list ++ n ∷ [])
first_added t n list first f = record {
  each = λ o i. elim (IsIn-append_cases o list (n ∷ []) i) [
    | inl l ↦ (let r = f.each o l in (omega (arith, r.0), r.1))
    | inr (inl e) ↦ (omega (arith, e), subst (λ (x : ℕ). IsCopy t x → ⊥) e first)
    | inr (inr none) ↦ absurd none
  ];
  all = λ o l isnt. elim (last_or_less o n (omega (arith, l))) [
    | inl u ↦ IsIn-append_left o list (n ∷ []) (f.all o u isnt)
    | inr e ↦ IsIn-append_right o list (n ∷ []) (inl (sym e))
  ];
  ascending = Pairs-append (λ x y. x < y) list (n ∷ []) f.ascending (tt, tt) (λ x y i j. elim j [
    | inl e ↦ (let r = f.each x i in omega (arith, r.0, e))
    | inr none ↦ absurd none
  ]);
}

some_long : (o : ℕ) (list : List ℕ) → IsIn o list → 1 ≤ length list
some_long o [] h = absurd h
some_long o (x ∷ xs) h = omega arith

pub first_of_all : (t : TypeTable) (list : List ℕ) → 1 ≤ length t.operations → AreFirstOf t (length t.operations) list → AreFirst t list
first_of_all t list some f = record {
  are = record {
    some = some_long 0 list (f.all 0 (omega (arith, some)) (λ copy. absurd (omega (arith, copy.1))));
    known = All-from_recursion (λ o. o < length t.operations) list (each_from (λ o. o < length t.operations) list (λ o i. (f.each o i).0));
    ascending = AllPairs-from_Pairs (λ x y. x < y) list f.ascending;
  };
  each = λ o. (λ c. f.each o (IsIn-from_Contains o list c), λ k. Contains-from_IsIn o list (f.all o k.0 k.1));
}

-- each operation does the same as the first one of its kind
first_kind : (t : TypeTable) (list : List ℕ) → AreFirst t list → (k o : ℕ) → o < k → o < length t.operations → (p : ℕ) × Contains list p × AreCopies t o p
first_kind t list f zero o u l = absurd (omega (arith, u))
first_kind t list f (suc k) o u l = elim (is_copy_or t o) [
  | inr isnt ↦ (o, (f.each o).1 (l, isnt), λ q known. refl)
  | inl copy ↦ (let r = first_kind t list f k copy.0 (omega (arith, u, copy.1)) (omega (arith, l, copy.1)) in
      (r.0, r.1, λ q known. sym (copy.2 q known) ∙ r.2 q known))
]

pub has_copies : (t : TypeTable) (list : List ℕ) → AreFirst t list → HasCopies t list
has_copies t list f = λ o l. first_kind t list f (suc o) o (omega arith) l
