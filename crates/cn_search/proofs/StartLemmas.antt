-- Blocks whose start states no witness has, and the first witness of the others.
use Rattle.std.proofs.Common.{◌≡◌, ℕ, ◌<◌, ◌≤◌, ◌⊎◌, inl, inr, List, [], ◌∷◌, ◌++◌, length, slice_index_or, Some, None, Contains, arith, sym, ap, subst}
use Rattle.std.specs.Int.{IsBitSet}
use Rattle.std.proofs.lemmas.List.{get_or_default}
use Rattle.std.proofs.lemmas.List.Elements.{All-append, All-from_recursion, recursion_from_All}
use Rattle.cn_table.specs.TypeTable.{TypeTable}
use Rattle.cn_choice.specs.Blocks.{Block}
use Rattle.cn_choice.specs.Canonical.{Choice, raw_choice_of}
use Rattle.cn_choice.specs.Discerning.{IsWitness}
use Rattle.cn_choice.specs.Live.{IsLiveIn, live_blocks, live_in}
use Rattle.cn_choice.specs.RawChoices.{IsRawChoice, RawChoice}
use Rattle.cn_stocks.specs.Splits.{AreSplittingStarts, SplitsFrom}
use Rattle.cn_finding.specs.Evidence.{IsFirstWitness, NoneIsWitness}
use Rattle.cn_search.specs.Search.{HasStarts, HaveFirstOf, IsListedBlock, choices_of_all}
use Rattle.cn_search.proofs.Batches.{ahead, behind, choices_more, parts_of}

module _ (t : TypeTable) where
  abbrev Fails : Choice → Type 0
  Fails c = ¬ IsWitness t (raw_choice_of c)

  none_of_none : NoneIsWitness t []
  none_of_none = λ k d less. absurd (let l : k < 0 = less in omega (arith, l))

  -- the first witness of two lists is that of the first, or the first has none
  first_in : (xs ys : List Choice) (w : Choice) → IsFirstWitness t (xs ++ ys) w → IsFirstWitness t xs w ⊎ (NoneIsWitness t xs × IsFirstWitness t ys w)
  first_in [] ys w h = inr (none_of_none, h)
  first_in (x ∷ xs) ys w h = by_before (λ g. first_in xs ys w g) h.before h.listed h.earlier
    where
      by_before : (IsFirstWitness t (xs ++ ys) w → IsFirstWitness t xs w ⊎ (NoneIsWitness t xs × IsFirstWitness t ys w)) → (before : List Choice)
          → x ∷ (xs ++ ys) ≡ before ++ w ∷ h.after → NoneIsWitness t before
          → IsFirstWitness t (x ∷ xs) w ⊎ (NoneIsWitness t (x ∷ xs) × IsFirstWitness t ys w)
      by_before later [] e none = (let same : x ≡ w = cc e in inl (record { before = []; after = xs; listed = ap (λ v. v ∷ xs) same; witness = h.witness; earlier = none_of_none }))
      by_before later (b ∷ bs) e none =
          let head : x ≡ b = cc e in
          let tail : xs ++ ys ≡ bs ++ w ∷ h.after = cc e in
          let fails = recursion_from_All Fails (b ∷ bs) none in
          let here : Fails x = subst Fails (sym head) fails.0 in
          elim (later (record { before = bs; after = h.after; listed = tail; witness = h.witness; earlier = All-from_recursion Fails bs fails.1 })) [
            | inl f ↦ inl (record {
              before = x ∷ f.before;
              after = f.after;
              listed = ap (λ l. x ∷ l) f.listed;
              witness = f.witness;
              earlier = All-from_recursion Fails (x ∷ f.before) (here, recursion_from_All Fails f.before f.earlier);
            })
            | inr r ↦ inr (All-from_recursion Fails (x ∷ xs) (here, recursion_from_All Fails xs r.0), r.1)
          ]

  pub first_of_none : HaveFirstOf t [] []
  first_of_none found h = h

  -- one block more is kept
  pub first_with : (all kept : List Block) (k : Block) → HaveFirstOf t all kept → HaveFirstOf t (all ++ k ∷ []) (kept ++ k ∷ [])
  first_with all kept k h None none =
      let both = recursion_from_All Fails (choices_of_all t kept ++ live_in t k) (subst (NoneIsWitness t) (sym (choices_more t kept k)) none) in
      let split = parts_of Fails (choices_of_all t kept) (live_in t k) both in
      subst (NoneIsWitness t) (choices_more t all k)
      (All-append Fails (choices_of_all t all) (live_in t k) (h None (All-from_recursion Fails (choices_of_all t kept) split.0)) (All-from_recursion Fails (live_in t k) split.1))
  first_with all kept k h (Some w) first =
      subst (λ l. IsFirstWitness t l w) (choices_more t all k) (elim (first_in (choices_of_all t kept) (live_in t k) w (subst (λ l. IsFirstWitness t l w) (sym (choices_more t kept k)) first)) [
        | inl f ↦ ahead t (IsWitness t) (choices_of_all t all) (live_in t k) w (h (Some w) f)
        | inr r ↦ behind t (IsWitness t) (choices_of_all t all) (live_in t k) (Some w) (h None r.0) r.1
      ])

  -- a block that has no witness is not kept
  pub first_without : (all kept : List Block) (k : Block) → NoneIsWitness t (live_in t k) → HaveFirstOf t all kept → HaveFirstOf t (all ++ k ∷ []) kept
  first_without all kept k fails h None none = subst (NoneIsWitness t) (choices_more t all k) (All-append Fails (choices_of_all t all) (live_in t k) (h None none) fails)
  first_without all kept k fails h (Some w) first = subst (λ l. IsFirstWitness t l w) (choices_more t all k) (ahead t (IsWitness t) (choices_of_all t all) (live_in t k) w (h (Some w) first))

  -- a block with another start state has no witness
  pub none_from_state : (n starts : ℕ) (k : Block) → HasStarts t n starts → k.n ≡ n → ((c : Choice) → Contains (live_in t k) c → IsLiveIn t k c) → ¬ IsBitSet starts k.state
      → NoneIsWitness t (live_in t k)
  none_from_state n starts k has for_n law out i d less w =
      let c : Choice = slice_index_or (live_in t k) i d in
      let is = law c (i, less, get_or_default (live_in t k) i c d less) in
      out (subst (λ (q : ℕ). IsBitSet starts q) is.same_state (has (raw_choice_of c) (subst (λ (m : ℕ). IsRawChoice t m (raw_choice_of c)) for_n is.for_n) w))

-- the start states of stocks that split are those that a witness can have
pub has_splitting : (t : TypeTable) (n starts : ℕ)
    → ((c : RawChoice) → IsRawChoice t n c → IsWitness t c → (c.state < length t.states) × SplitsFrom t n c.state)
    → AreSplittingStarts t n starts → HasStarts t n starts
has_splitting t n starts law are = λ c is w. (are c.state).1 (law c is w)

pub listed_block : (t : TypeTable) (n : ℕ) (k : Block) → 2 ≤ n → n ≤ 8 → k.n ≡ n → Contains (live_blocks t n) k → IsListedBlock t k
listed_block t n k some few same listed = record { some = omega (arith, same); few = omega (arith, same); listed = subst (λ m. Contains (live_blocks t m) k) (sym same) listed }
