-- Operations of a type, one of each row.
use Rattle.std.proofs.Common.{ℕ, ◌+◌, ◌<◌, ◌≤◌, inl, inr, List, [], ◌∷◌, ◌++◌, length, refl, sym, ap, ◌∙◌, subst, arith}
use Rattle.std.proofs.lemmas.List.Elements.{All-from_recursion}
use Rattle.cn_table.specs.TypeTable.{TypeTable}
use Rattle.cn_choice.proofs.ListLemmas.Members.{AllPairs-from_Pairs, Contains-from_IsIn, IsIn, IsIn-append_cases, IsIn-append_left, IsIn-append_right, IsIn-from_Contains, Pairs, Pairs-append, each_from}
use Rattle.cn_outcomes.proofs.Packing.{below_or_last}
use Rattle.cn_telling.specs.Rows.{HaveOneRow, next_row}
use Rattle.cn_recover.specs.Rows.{AreOfEachRow, HasRowOf}

-- the list has one of each row of the first n operations
pub record AreOfFirst (t : TypeTable) (n : ℕ) (list : List ℕ) : Type 0 where
  pub known : (o : ℕ) → IsIn o list → o < n
  pub each : (o : ℕ) → o < n → HasRowOf t list o
  pub ascending : Pairs (λ (x y : ℕ). x < y) list
  pub differ : Pairs (λ (x y : ℕ). HaveOneRow t x y → ⊥) list

pub of_none : (t : TypeTable) → AreOfFirst t 0 []
of_none t = record { known = λ o i. absurd i; each = λ o l. absurd (omega (arith, l)); ascending = tt; differ = tt }

pub of_row : (t : TypeTable) (n : ℕ) (list : List ℕ) → HasRowOf t list n → AreOfFirst t n list → AreOfFirst t (n + 1) list
of_row t n list has f = record {
  known = λ o i. let l = f.known o i in omega (arith, l);
  each = λ o l. elim (below_or_last o n (omega (arith, l))) [ inl u ↦ f.each o u | inr e ↦ subst (HasRowOf t list) (sym e) has ];
  ascending = f.ascending;
  differ = f.differ;
}

pub of_new_row : (t : TypeTable) (n : ℕ) (list : List ℕ) → (HasRowOf t list n → ⊥) → AreOfFirst t n list → AreOfFirst t (n + 1) (list ++ n ∷ [])
of_new_row t n list new f = record {
  known = λ o i. elim (IsIn-append_cases o list (n ∷ []) i) [
    | inl l ↦ (let u = f.known o l in omega (arith, u))
    | inr (inl e) ↦ omega (arith, e)
    | inr (inr none) ↦ absurd none
  ];
  each = λ o l. elim (below_or_last o n (omega (arith, l))) [
    | inl u ↦ (let r = f.each o u in (r.0, Contains-from_IsIn r.0 (list ++ n ∷ []) (IsIn-append_left r.0 list (n ∷ []) (IsIn-from_Contains r.0 list r.1)), r.2))
    | inr e ↦ (n, Contains-from_IsIn n (list ++ n ∷ []) (IsIn-append_right n list (n ∷ []) (inl refl)), ap (next_row t) e)
  ];
  ascending = Pairs-append (λ x y. x < y) list (n ∷ []) f.ascending (tt, tt) (λ x y i j. elim j [
    | inl e ↦ (let u = f.known x i in omega (arith, u, e))
    | inr none ↦ absurd none
  ]);
  differ = Pairs-append (λ x y. HaveOneRow t x y → ⊥) list (n ∷ []) f.differ (tt, tt) (λ x y i j h. elim j [
    | inl e ↦ new (x, Contains-from_IsIn x list i, ap (next_row t) e ∙ sym h)
    | inr none ↦ absurd none
  ]);
}

some_long : (o : ℕ) (list : List ℕ) → IsIn o list → 1 ≤ length list
some_long o [] h = absurd h
some_long o (x ∷ xs) h = omega arith

pub of_all : (t : TypeTable) (list : List ℕ) → 1 ≤ length t.operations → AreOfFirst t (length t.operations) list → AreOfEachRow t list
of_all t list some f = record {
  are = record {
    some = (let r = f.each 0 (omega (arith, some)) in some_long r.0 list (IsIn-from_Contains r.0 list r.1));
    known = All-from_recursion (λ o. o < length t.operations) list (each_from (λ o. o < length t.operations) list f.known);
    ascending = AllPairs-from_Pairs (λ x y. x < y) list f.ascending;
  };
  each = f.each;
  differ = AllPairs-from_Pairs (λ x y. HaveOneRow t x y → ⊥) list f.differ;
}
