-- Two operations last in each type that has them.
use Rattle.std.proofs.Common.{◌≡◌, ◌≢◌, ℕ, zero, suc, ◌<◌, ◌≤◌, inl, inr, List, [], ◌∷◌, ◌++◌, length, refl, sym, ap, ◌∙◌, arith, AllPairs, true≢false}
use Rattle.std.specs.Prelude.{replicate, slice_index_or}
use Rattle.std.proofs.lemmas.Bool.{cases_lt}
use Rattle.std.proofs.lemmas.List.{length-map}
use Rattle.std.proofs.lemmas.List.Elements.{All-from_recursion}
use Rattle.cn_table.specs.Restriction.{AreOperations, with_operations}
use Rattle.cn_table.specs.TypeTable.{TypeTable, no_row, transition}
use Rattle.cn_table.specs.Run.{state_after}
use Rattle.cn_choice.specs.Discerning.{IsDiscerning}
use Rattle.cn_stocks.specs.Lasting.{IsAlwaysDiscerning, Lasts, ManyFirst, SingleFirst}
use Rattle.cn_stocks.specs.Splits.{SomeSplits}
use Rattle.cn_stocks.proofs.LastingLemmas.Forms.{state_join}
use Rattle.cn_number_laws.specs.LastingStarts.{SomeLast}

-- two operations of another type with the same states that do the same
module _ (t u : TypeTable) (states : length t.states ≡ length u.states) (many single m s : ℕ)
    (many_does : (q : ℕ) → transition u m q ≡ transition t many q) (single_does : (q : ℕ) → transition u s q ≡ transition t single q) where
  same_path : (k q : ℕ) → state_after u q (replicate k m) ≡ state_after t q (replicate k many)
  same_path zero q = refl
  same_path (suc k) q = ap (λ (p : ℕ × ℕ). state_after u p.1 (replicate k m)) (many_does q) ∙ same_path k (transition t many q).1

  behind : (k q : ℕ) → state_after u q (s ∷ replicate k m) ≡ state_after t q (single ∷ replicate k many)
  behind k q = ap (λ (p : ℕ × ℕ). state_after u p.1 (replicate k m)) (single_does q) ∙ same_path k (transition t single q).1

  mixed : (i k q : ℕ) → state_after u q (m ∷ replicate i m ++ s ∷ replicate k m) ≡ state_after t q (many ∷ replicate i many ++ single ∷ replicate k many)
  mixed i k q =
      state_join u q (m ∷ replicate i m) (s ∷ replicate k m)
      ∙ (ap (λ (x : ℕ). state_after u x (s ∷ replicate k m)) (same_path (suc i) q)
      ∙ (behind k (state_after t q (many ∷ replicate i many)) ∙ sym (state_join t q (many ∷ replicate i many) (single ∷ replicate k many))))

  single_first : (start q : ℕ) → SingleFirst u start m s q → SingleFirst t start many single q
  single_first start q r = (r.0, sym (behind r.0 start) ∙ r.1)

  many_first : (start q : ℕ) → ManyFirst u start m s q → ManyFirst t start many single q
  many_first start q (inl r) = inl (r.0, sym (same_path r.0 start) ∙ r.1)
  many_first start q (inr r) = inr (r.0, r.1, sym (mixed r.0 r.1 start) ∙ r.2)

  pub last_too : (start : ℕ) → Lasts t start many single → m < length u.operations → s < length u.operations → m ≢ s → Lasts u start m s
  last_too start l m_known s_known d = record {
    start_known = omega (arith, l.start_known, states);
    many_known = m_known;
    single_known = s_known;
    different = d;
    apart = λ q a b. l.apart q (many_first start q a) (single_first start q b);
  }

two_ascend : (a b : ℕ) → a < b → AllPairs (λ (x y : ℕ). x < y) (a ∷ b ∷ [])
two_ascend a b l zero zero d i j = absurd (omega (arith, i))
two_ascend a b l zero (suc zero) d i j = l
two_ascend a b l zero (suc (suc k)) d i j = absurd (omega (arith, j))
two_ascend a b l (suc i) zero d h j = absurd (omega (arith, h))
two_ascend a b l (suc i) (suc zero) d h j = absurd (omega (arith, h))
two_ascend a b l (suc i) (suc (suc k)) d h j = absurd (omega (arith, j))

are_operations : (t : TypeTable) (a b : ℕ) → a < b → b < length t.operations → AreOperations t (a ∷ b ∷ [])
are_operations t a b l k = record {
  some = omega arith;
  known = All-from_recursion (λ o. o < length t.operations) (a ∷ b ∷ []) (omega (arith, l, k), (k, tt));
  ascending = two_ascend a b l;
}

-- the two alone last
abbrev LastAlone : TypeTable → Type 0
LastAlone t = (set : List ℕ) × AreOperations t set × (length set ≡ 2) × SomeLast (with_operations t set)

two_alone : (t : TypeTable) (start many single : ℕ) → Lasts t start many single → LastAlone t
two_alone t start many single l = elim (cases_lt many single) [
  | inl less ↦ (
    many ∷ single ∷ [],
    are_operations t many single less l.single_known,
    refl,
    (start, (0, 1, last_too t (with_operations t (many ∷ single ∷ [])) refl many single 0 1 (λ q. refl) (λ q. refl) start l (omega arith) (omega arith) (λ e. absurd (omega (arith, e))))),
  )
  | inr past ↦ (
    single ∷ many ∷ [],
    are_operations t single many (omega (arith, past, l.different)) l.many_known,
    refl,
    (start, (1, 0, last_too t (with_operations t (single ∷ many ∷ [])) refl many single 1 0 (λ q. refl) (λ q. refl) start l (omega arith) (omega arith) (λ e. absurd (omega (arith, e))))),
  )
]

pub a_pair : (always : (t : TypeTable) → SomeLast t → IsAlwaysDiscerning t) (t : TypeTable) → SomeLast t
    → (set : List ℕ) × AreOperations t set × (length set ≡ 2) × IsAlwaysDiscerning (with_operations t set)
a_pair always t l = let r = two_alone t l.0 l.1.0 l.1.1 l.1.2 in (r.0, r.1, r.2, always (with_operations t r.0) r.3)

-- for three processes or more no operation is enough alone
pub two_at_least : (t : TypeTable) (n : ℕ) → (IsDiscerning t n → SomeSplits t n) → IsDiscerning t n → 2 ≤ length t.operations
two_at_least t n law d =
    let s = law d in
    let splits = s.2.3 in
    let f = splits.inside in
    let g = splits.outside in
    let f_known = s.2.1 f.0 f.1 in
    let g_known = s.2.1 g.0 g.1 in
    elim (cases_lt (length t.operations) 2) [
      | inl few ↦ (
          let same : f.0 ≡ g.0 = omega (arith, few, f_known, g_known) in
          absurd (true≢false (sym f.2 ∙ (ap splits.chosen same ∙ g.2)))
          )
      | inr enough ↦ enough
    ]

pub set_of_two_at_least : (t : TypeTable) (set : List ℕ) → (IsDiscerning (with_operations t set) 3 → SomeSplits (with_operations t set) 3) → IsAlwaysDiscerning (with_operations t set) → 2 ≤ length set
set_of_two_at_least t set law d = omega (arith, two_at_least (with_operations t set) 3 law (d 3 (omega arith)), length-map set (λ o. slice_index_or t.operations o no_row))
