-- Some of the processes of a choice, under other numbers, learn no more than in the whole choice.
use Rattle.std.proofs.Common.{◌≡◌, ◌≢◌, ℕ, ◌<◌, List, [], ◌∷◌, length, map, refl, sym, ap, ◌∙◌, subst, arith, Bool, true, false, true≢false, Some, nat_eq, All}
use Rattle.std.specs.Prelude.{slice_get}
use Rattle.std.specs.List.{AllByRecursion}
use Rattle.std.proofs.lemmas.Bool.{eqb-true, eq-eqb, ne_eqb}
use Rattle.std.proofs.lemmas.List.Elements.{All-from_recursion, recursion_from_All}
use Rattle.cn_table.specs.Run.{responses_along}
use Rattle.cn_table.specs.TypeTable.{TypeTable}
use Rattle.cn_choice.specs.Discerning.{IsWitness}
use Rattle.cn_choice.specs.Orders.{IsOrder}
use Rattle.cn_choice.specs.RawChoices.{RawChoice}
use Rattle.cn_choice.specs.Renumbering.{Embeds}
use Rattle.cn_choice.specs.OutcomeSets.{BeginsIn, InOutcomeSet, operations_of, pair_of}
use Rattle.cn_choice.specs.declared.team.Team.{Team}
use Rattle.cn_choice.specs.declared.team.Team.TheVariants.{A, B}
use Rattle.cn_choice.proofs.ListLemmas.Arrangements.{Differ}
use Rattle.cn_choice.proofs.OrderLemmas.AllOrders.{differ_from, distinct_from}
use Rattle.cn_choice.proofs.ListLemmas.Members.{IsIn-map_from, each_at, each_from}
use Rattle.cn_choice.proofs.OrderLemmas.Walks.{pair_of-response_of, pair_takes_part}
use Rattle.cn_choice.specs.OutcomeSets.{response_of}

pub differ_map : (f : ℕ → ℕ) (n : ℕ) → ((i j : ℕ) → i < n → j < n → f i ≡ f j → i ≡ j) → (xs : List ℕ) → AllByRecursion (λ x. x < n) xs → Differ xs → Differ (map f xs)
differ_map f n apart [] a p = tt
differ_map f n apart (x ∷ xs) a p = (
  each_from (λ y. f x ≢ y) (map f xs) (λ y i e. let r = IsIn-map_from f y xs i in
      each_at (λ z. x ≢ z) xs r.0 p.0 r.2 (apart x r.0 a.0 (each_at (λ z. z < n) xs r.0 a.1 r.2) (e ∙ sym r.1))),
  differ_map f n apart xs a.1 p.1,
)

map_not_empty : (f : ℕ → ℕ) (xs : List ℕ) → xs ≢ [] → map f xs ≢ []
map_not_empty f [] n e = n refl
map_not_empty f (x ∷ xs) n e = absurd (omega (arith, ap length e))

pub each_map : (f : ℕ → ℕ) (m n : ℕ) → ((i : ℕ) → i < m → f i < n) → (xs : List ℕ) → AllByRecursion (λ x. x < m) xs → AllByRecursion (λ x. x < n) (map f xs)
each_map f m n g [] a = tt
each_map f m n g (x ∷ xs) a = (g x a.0, each_map f m n g xs a.1)

module _ (f : ℕ → ℕ) (d c : RawChoice) (e : Embeds f d c) where
  pub order_embeds : (order : List ℕ) → IsOrder (length d.operations) order → IsOrder (length c.operations) (map f order)
  order_embeds order o =
      let known = recursion_from_All (λ p. p < length d.operations) order o.known in
      record {
        someone = map_not_empty f order o.someone;
        known = All-from_recursion (λ p. p < length c.operations) (map f order) (each_map f (length d.operations) (length c.operations) e.inside order known);
        distinct = distinct_from (map f order) (differ_map f (length d.operations) e.apart order known (differ_from order o.distinct));
      }

  pub operations_embed : (order : List ℕ) → AllByRecursion (λ p. p < length d.operations) order → operations_of d order ≡ operations_of c (map f order)
  operations_embed [] a = refl
  operations_embed (p ∷ ps) a = rw (e.operation p a.0, operations_embed ps a.1) refl

  same_test : (p j : ℕ) → p < length d.operations → j < length d.operations → nat_eq p j ≡ nat_eq (f p) (f j)
  same_test p j u v = by_test (nat_eq p j) refl
    where
      by_test : (b : Bool) → nat_eq p j ≡ b → b ≡ nat_eq (f p) (f j)
      by_test true t = sym (eq-eqb (f p) (f j) (ap f (eqb-true p j t)))
      by_test false t = sym (ne_eqb (f p) (f j) (λ g. true≢false (sym (eq-eqb p j (e.apart p j u v g)) ∙ t)))

  response_embeds : (j : ℕ) → j < length d.operations → (order responses : List ℕ) → AllByRecursion (λ p. p < length d.operations) order
      → response_of j order responses ≡ response_of (f j) (map f order) responses
  response_embeds j l [] rs a = refl
  response_embeds j l (p ∷ ps) [] a = refl
  response_embeds j l (p ∷ ps) (r ∷ rs) a = rw (same_test p j a.0 l, response_embeds j l ps rs a.1) refl

  pub pair_embeds : (t : TypeTable) (order : List ℕ) (j : ℕ) → j < length d.operations → All (λ p. p < length d.operations) order → pair_of t d order j ≡ pair_of t c (map f order) (f j)
  pair_embeds t order j l a =
      let known = recursion_from_All (λ p. p < length d.operations) order a in
      pair_of-response_of t d order j
      ∙ (rw (operations_embed order known, e.same_state, response_embeds j l order (responses_along t c.state (operations_of c (map f order))) known) refl
      ∙ sym (pair_of-response_of t c (map f order) (f j)))

  pub begins_embeds : (team : Team) (order : List ℕ) → AllByRecursion (λ p. p < length d.operations) order → BeginsIn d team order → BeginsIn c team (map f order)
  begins_embeds team [] a b = absurd (cc b.1)
  begins_embeds team (p ∷ ps) a b = (f p, refl, sym (e.team p a.0) ∙ (subst (λ (q : ℕ). slice_get d.marks q ≡ Some team) (sym (some_same p b.0 b.1)) b.2))
    where
      some_same : (x y : ℕ) → Some x ≡ Some y → x ≡ y
      some_same x y h = cc

  pub result_embeds : (t : TypeTable) (team : Team) (j : ℕ) (pair : ℕ × ℕ) → InOutcomeSet t d team j pair → InOutcomeSet t c team (f j) pair
  result_embeds t team j pair o =
      let l = pair_takes_part t d (length d.operations) o.0 j pair o.1.known o.3 in
      (map f o.0, order_embeds o.0 o.1, begins_embeds team o.0 (recursion_from_All (λ p. p < length d.operations) o.0 o.1.known) o.2, sym (pair_embeds t o.0 j l o.1.known) ∙ o.3)

  pub IsWitness-embeds : (t : TypeTable) → IsWitness t c → IsWitness t d
  IsWitness-embeds t w j pair a b = w (f j) pair (result_embeds t A j pair a) (result_embeds t B j pair b)
