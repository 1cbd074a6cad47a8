-- Orders with one more process at the end, and the pair of a process that moves last.
use Rattle.std.proofs.Common.{◌≡◌, ◌≢◌, ℕ, ◌<◌, inl, inr, List, [], ◌∷◌, ◌++◌, length, map, refl, ap, ◌∙◌, subst, arith, Bool, true, false, cond, nat_eq, Option, Some, None}
use Rattle.std.specs.Prelude.{slice_index}
use Rattle.std.proofs.lemmas.List.Elements.{All-from_recursion}
use Rattle.std.proofs.lemmas.Bool.{eq-eqb, ne_eqb}
use Rattle.cn_table.specs.TypeTable.{TypeTable, transition}
use Rattle.cn_table.specs.Run.{responses_along, state_after}
use Rattle.cn_choice.specs.RawChoices.{RawChoice}
use Rattle.cn_choice.specs.Orders.{IsOrder}
use Rattle.cn_choice.specs.OutcomeSets.{operations_of}
use Rattle.cn_choice.specs.Moves.{answer_of}
use Rattle.cn_choice.proofs.ListLemmas.Members.{IsIn, IsIn-append_cases, each_from, Pairs-append}
use Rattle.cn_choice.proofs.ListLemmas.Arrangements.{Differ}
use Rattle.cn_choice.proofs.OrderLemmas.AllOrders.{distinct_from}
use Rattle.cn_choice.proofs.OrderLemmas.Walks.{first_some}
use Rattle.cn_choice.specs.OutcomeSets.{response_of}
use Rattle.std.specs.Option.{option_map}
use Rattle.cn_choice.specs.OutcomeSets.{pair_of}
use Rattle.cn_choice.proofs.OrderLemmas.Walks.{pair_of-response_of}

differ_last : (xs : List ℕ) (p : ℕ) → Differ xs → ((x : ℕ) → IsIn x xs → x ≢ p) → Differ (xs ++ p ∷ [])
differ_last xs p d h = Pairs-append (λ x y. x ≢ y) xs (p ∷ []) d (tt, tt) (λ x y i j. elim j [ inl e ↦ subst (λ (z : ℕ). x ≢ z) e (h x i) | inr n ↦ absurd n ])

-- the response of process j if p moves last
response_last : (t : TypeTable) (f : ℕ → ℕ) (j q : ℕ) (ps : List ℕ) (p : ℕ)
    → response_of j (ps ++ p ∷ []) (responses_along t q (map f (ps ++ p ∷ []))) ≡ first_some (response_of j ps (responses_along t q (map f ps)))
    (cond (nat_eq p j) (Some (transition t (f p) (state_after t q (map f ps))).0) None)
response_last t f j q [] p = refl
response_last t f j q (x ∷ ps) p = by_test (nat_eq x j) (transition t (f x) q).0 _ _ _ (response_last t f j (transition t (f x) q).1 ps p)
  where
    by_test : (b : Bool) (r : ℕ) (whole rest new : Option ℕ) → whole ≡ first_some rest new → cond b (Some r) whole ≡ first_some (cond b (Some r) rest) new
    by_test true r whole rest new e = refl
    by_test false r whole rest new e = e

absent : (j : ℕ) (ps rs : List ℕ) → (IsIn j ps → ⊥) → response_of j ps rs ≡ None
absent j [] rs h = refl
absent j (p ∷ ps) [] h = refl
absent j (p ∷ ps) (r ∷ rs) h = rw (ne_eqb p j (λ e. h (inl e))) (absent j ps rs (λ i. h (inr i)))

pub response_along_last : (t : TypeTable) (c : RawChoice) (j : ℕ) (ps : List ℕ) (p : ℕ)
    → response_of j (ps ++ p ∷ []) (responses_along t c.state (operations_of c (ps ++ p ∷ [])))
    ≡ first_some (response_of j ps (responses_along t c.state (operations_of c ps))) (cond (nat_eq p j) (Some (answer_of t c p (state_after t c.state (operations_of c ps)))) None)
response_along_last t c j ps p = response_last t (λ p. slice_index c.operations p) j c.state ps p

-- ---- orders

-- an order, by cases on the list
pub record Known (n : ℕ) (order : List ℕ) : Type 0 where
  pub below : (p : ℕ) → IsIn p order → p < n
  pub differ : Differ order

not_nil : {X : Type 0} (x : X) (xs : List X) → x ∷ xs ≢ []
not_nil x xs e = absurd (omega (arith, ap length e))

pub order_from : (n : ℕ) (x : ℕ) (xs : List ℕ) → Known n (x ∷ xs) → IsOrder n (x ∷ xs)
order_from n x xs k = record {
  someone = not_nil x xs;
  known = All-from_recursion (λ p. p < n) (x ∷ xs) (each_from (λ p. p < n) (x ∷ xs) k.below);
  distinct = distinct_from (x ∷ xs) k.differ;
}

pub known_last : (n : ℕ) (ps : List ℕ) (p : ℕ) → Known n ps → ((x : ℕ) → IsIn x ps → x ≢ p) → p < n → Known n (ps ++ p ∷ [])
known_last n ps p k d l = record {
  below = λ x i. elim (IsIn-append_cases x ps (p ∷ []) i) [ inl j ↦ k.below x j | inr j ↦ elim j [ inl e ↦ subst (λ (y : ℕ). y < n) e l | inr a ↦ absurd a ] ];
  differ = differ_last ps p k.differ d;
}

-- ---- pairs

-- the parts of a pair
abbrev pub along : TypeTable → RawChoice → ℕ → List ℕ → Option ℕ
along t c j ps = response_of j ps (responses_along t c.state (operations_of c ps))

abbrev pub after : TypeTable → RawChoice → List ℕ → ℕ
after t c ps = state_after t c.state (operations_of c ps)

pub pair_whole : (t : TypeTable) (c : RawChoice) (j : ℕ) (ps : List ℕ) (r q : ℕ) → along t c j ps ≡ Some r → after t c ps ≡ q → pair_of t c ps j ≡ Some (r, q)
pair_whole t c j ps r q e f = pair_of-response_of t c ps j ∙ whole (along t c j ps) (after t c ps) e f
  where
    whole : (k : Option ℕ) (s : ℕ) → k ≡ Some r → s ≡ q → option_map (λ x. let pair : ℕ × ℕ = (x, s) in pair) k ≡ Some (r, q)
    whole k s g h = rw (g, h) refl

-- j moved last
pub last_self : (t : TypeTable) (c : RawChoice) (j : ℕ) (ps : List ℕ) → (IsIn j ps → ⊥) → along t c j (ps ++ j ∷ []) ≡ Some (answer_of t c j (after t c ps))
last_self t c j ps n = response_along_last t c j ps j ∙ rw (absent j ps (responses_along t c.state (operations_of c ps)) n, eq-eqb j j refl) refl
