-- Lists of sizes, as merges are added.
use Rattle.std.proofs.Common.{ℕ, ◌≡◌, ◌+◌, ◌<◌, ◌≤◌, inl, inr, List, [], ◌∷◌, ◌++◌, length, append-nil, append_assoc, sym, ap, ◌∙◌, subst, arith, Some, slice_get}
use Rattle.std.specs.Prelude.{All, IsPermutation, slice_index, sum}
use Rattle.std.proofs.lemmas.List.Elements.{All-append, All-cons, All-head, All-nil, All-tail}
use Rattle.std.proofs.lemmas.List.Sorted.{All-permutation, IsPermutation-sym, sum_by-IsPermutation}
use Rattle.std.proofs.lemmas.Option.{slice_get_within}
use Rattle.cn_meetings.specs.Meeting.{Sight}
use Rattle.cn_stocks.proofs.StockLemmas.{get_before}
use Rattle.cn_table.specs.TypeTable.{TypeTable}
use Rattle.cn_tree_costs.specs.Sizes.{HasSizes, IsDivision}
use Rattle.cn_shortest.specs.Examples.{IsExample}
use Rattle.cn_shortest.specs.Roots.{AreAll, AreFound, AreSame, Has, HasMerged, IsAdded, IsExtended, IsFound}
use Rattle.cn_stocks.specs.Words.{times}
use Rattle.cn_stocks.proofs.Times.{one_else, times_cons, times_none}
use Rattle.cn_divisions.proofs.Counting.{times_long}
use Rattle.cn_shortest.specs.Sizes.{AreCounts, AreMerged, AreOf, HasBoth, sizes_of}
use Rattle.cn_shortest.specs.declared.sizes.Sizes.{Sizes}
use Rattle.cn_shortest.proofs.Elements.{below_or_last}
use Rattle.cn_tree_costs.proofs.Numbers.{fewer_each, long_sum, sum_cons}
use Rattle.cn_shortest.proofs.Permuted.{counts_same, merged_is, same_length, shuffled, times_in}

pub record MergedTo (n : ℕ) (sizes : Sizes) (old new : List Sizes) (a b : ℕ) : Type 0 where
  pub kept : IsExtended old new
  pub of_n : AreAll n new
  pub found : (t : TypeTable) (sight : Sight) → IsFound t sight n sizes → AreFound t sight n old → AreFound t sight n new
  pub all : (d : ℕ) → d < b → HasMerged n sizes.counts new a d

pub record AllTo (n : ℕ) (sizes : Sizes) (old new : List Sizes) (a : ℕ) : Type 0 where
  pub kept : IsExtended old new
  pub of_n : AreAll n new
  pub found : (t : TypeTable) (sight : Sight) → IsFound t sight n sizes → AreFound t sight n old → AreFound t sight n new
  pub all : (d b : ℕ) → d < a → HasMerged n sizes.counts new d b

-- ---- more of the list
pub extended_same : (list : List Sizes) → IsExtended list list
extended_same list = ([], sym (append-nil list))

pub extended_on : (a b c : List Sizes) → IsExtended a b → IsExtended b c → IsExtended a c
extended_on a b c h k = (h.0 ++ k.0, k.1 ∙ (ap (λ (l : List Sizes). l ++ k.0) h.1 ∙ append_assoc a h.0 k.0))

pub extended_added : (old new : List Sizes) (s : Sizes) → IsAdded old s new → IsExtended old new
extended_added old new s (inl e) = ([], e ∙ sym (append-nil old))
extended_added old new s (inr e) = (s ∷ [], e)

pub at_extended : (old new : List Sizes) (i : ℕ) (s : Sizes) → IsExtended old new → slice_get old i ≡ Some s → slice_get new i ≡ Some s
at_extended old new i s h e = ap (λ (l : List Sizes). slice_get l i) h.1 ∙ (get_before old h.0 i (slice_get_within old i s e) ∙ e)

pub has_extended : (old new : List Sizes) (counts : List ℕ) → IsExtended old new → Has old counts → Has new counts
has_extended old new counts h k = (k.0, k.1, at_extended old new k.0 k.1 h k.2, k.3)

pub all_added : (P : Sizes → Type 0) (old new : List Sizes) (s : Sizes) → IsAdded old s new → All P old → P s → All P new
all_added P old new s (inl e) all p = subst (All P) (sym e) all
all_added P old new s (inr e) all p = subst (All P) (sym e) (All-append P old (s ∷ []) all (All-cons P s [] p (All-nil P)))

-- ---- a merge
some_left : (xs : List ℕ) → 1 ≤ sum xs → 1 ≤ length xs
some_left [] l = absurd (omega (arith, l))
some_left (x ∷ xs) l = omega arith

pub merged_of : (n : ℕ) (old new : List ℕ) (a b : ℕ) → n ≤ 8 → 1 ≤ a → 1 ≤ b → a + b < n → HasBoth old a b → AreMerged old a b new → AreOf n old → AreOf n new
merged_of n old new a b few la lb lt has are of =
    let m = merged_is old new a b la lb (omega (arith, few, lt)) has are in
    let whole = of.division.whole in
    let s : sum (sizes_of old) ≡ sum (a ∷ (b ∷ m.rest)) = sym (sum_by-IsPermutation (λ x. x) (sizes_of old) (a ∷ (b ∷ m.rest)) m.old_is) in
    let u : sum (sizes_of new) ≡ sum ((a + b) ∷ m.rest) = sym (sum_by-IsPermutation (λ x. x) (sizes_of new) ((a + b) ∷ m.rest) m.new_is) in
    let each : All (λ k. 1 ≤ k) (a ∷ (b ∷ m.rest)) = All-permutation (λ k. 1 ≤ k) (sizes_of old) (a ∷ (b ∷ m.rest)) m.old_is of.division.inhabited in
    let rest : All (λ k. 1 ≤ k) m.rest = All-tail (λ k. 1 ≤ k) b m.rest (All-tail (λ k. 1 ≤ k) a (b ∷ m.rest) each) in
    let total : sum (sizes_of new) ≡ n = omega (arith, s, u, whole, sum_cons (a + b) m.rest, sum_cons a (b ∷ m.rest), sum_cons b m.rest) in
    record {
      long = are.long;
      division = record {
        whole = total;
        several = omega (arith, same_length (sizes_of new) ((a + b) ∷ m.rest) m.new_is, some_left m.rest (omega (arith, u, total, sum_cons (a + b) m.rest, lt)));
        inhabited = All-permutation (λ k. 1 ≤ k) ((a + b) ∷ m.rest) (sizes_of new) (IsPermutation-sym (sizes_of new) ((a + b) ∷ m.rest) m.new_is) (All-cons (λ k. 1 ≤ k) (a + b) m.rest (omega (arith, la)) rest);
      };
    }

pub found_merged : (n : ℕ) (old new : List ℕ) (a b : ℕ) → n ≤ 8 → 1 ≤ a → 1 ≤ b → a + b < n → HasBoth old a b → AreMerged old a b new
    → (t : TypeTable) (sight : Sight)
    → ((sizes others : List ℕ) → IsPermutation sizes others → HasSizes t sight sizes → HasSizes t sight others)
    → ((sizes : List ℕ) → HasSizes t sight (a ∷ (b ∷ sizes)) → HasSizes t sight ((a + b) ∷ sizes))
    → HasSizes t sight (sizes_of old) → HasSizes t sight (sizes_of new)
found_merged n old new a b few la lb lt has are t sight order one h =
    let m = merged_is old new a b la lb (omega (arith, few, lt)) has are in
    order ((a + b) ∷ m.rest) (sizes_of new) (IsPermutation-sym (sizes_of new) ((a + b) ∷ m.rest) m.new_is) (one m.rest (order (sizes_of old) (a ∷ (b ∷ m.rest)) m.old_is h))

-- what a merge makes is determined
pub merged_once : (old new other : List ℕ) (a b : ℕ) → AreMerged old a b new → AreMerged old a b other → AreSame new other
merged_once old new other a b x y i l = omega (arith, x.each i l, y.each i l)

pub same_has : (list : List Sizes) (a b : List ℕ) → AreSame a b → Has list a → Has list b
same_has list a b same h = (h.0, h.1, h.2, λ x l. h.3 x l ∙ same x l)

-- merges of the same counts
pub merged_same : (n : ℕ) (old other : List ℕ) (list : List Sizes) (a b : ℕ) → AreSame old other → HasMerged n old list a b → HasMerged n other list a b
merged_same n old other list a b same has new la lb both lt are =
    has new la lb (λ x l. omega (arith, both x l, same x l)) lt (record { long = are.long; each = λ x l. omega (arith, are.each x l, same x l) })

-- ---- one more pair
module _ (n : ℕ) (sizes : Sizes) (first old : List Sizes) (a b : ℕ) (few : n ≤ 8) (la : 1 ≤ a) (lb : 1 ≤ b) (of : AreOf n sizes.counts) (so : MergedTo n sizes first old a b) where
  pub merged_more : (new : List Sizes) (s : Sizes) → AreMerged sizes.counts a b s.counts → HasBoth sizes.counts a b × (a + b < n)
      → ((t : TypeTable) (sight : Sight) (xs ys : List ℕ) → IsPermutation xs ys → HasSizes t sight xs → HasSizes t sight ys)
      → ((t : TypeTable) (sight : Sight) (x y : ℕ) (zs : List ℕ) → HasSizes t sight (x ∷ (y ∷ zs)) → HasSizes t sight ((x + y) ∷ zs))
      → ((t : TypeTable) (sight : Sight) → IsExample t sight n sizes.counts sizes.example → IsExample t sight n s.counts s.example)
      → IsAdded old s new → Has new s.counts → MergedTo n sizes first new a (b + 1)
  merged_more new s are both order one example added has =
      let kept = extended_added old new s added in
      let here = merged_of n sizes.counts s.counts a b few la lb both.1 both.0 are of in
      record {
        kept = extended_on first old new so.kept kept;
        of_n = all_added (λ x. AreOf n x.counts) old new s added so.of_n here;
        found = λ t sight h all. all_added (IsFound t sight n) old new s added (so.found t sight h all)
            (record { of_n = here; has = found_merged n sizes.counts s.counts a b few la lb both.1 both.0 are t sight (order t sight) (one t sight a b) h.has; example = example t sight h.example });
        all = λ d l. elim (below_or_last d b l) [
          | inl m ↦ (λ counts ka kb pair lt is. has_extended old new counts kept (so.all d m counts ka kb pair lt is))
          | inr m ↦ subst (HasMerged n sizes.counts new a) (sym m) (λ counts ka kb pair lt is. same_has new s.counts counts (merged_once sizes.counts s.counts counts a b are is) has)
        ];
      }

  pub merged_none : (HasBoth sizes.counts a b → a + b < n → ⊥) → MergedTo n sizes first old a (b + 1)
  merged_none none = record {
    kept = so.kept;
    of_n = so.of_n;
    found = so.found;
    all = λ d l. elim (below_or_last d b l) [
      | inl m ↦ so.all d m
      | inr m ↦ subst (HasMerged n sizes.counts old a) (sym m) (λ counts ka kb pair lt is. absurd (none pair lt))
    ];
  }

pub few_counts : (n : ℕ) (counts : List ℕ) (x : ℕ) → n ≤ 8 → AreOf n counts → 1 ≤ x → x ≤ 8 → slice_index counts x ≤ 8
few_counts n counts x few of some l =
    omega (arith, few, times_in counts x 8 some l, times_long x (sizes_of counts), long_sum (sizes_of counts) of.division.inhabited, of.division.whole)

-- ---- the counts of a division
none_such : (P : ℕ → Type 0) (o : ℕ) (xs : List ℕ) → ¬ P o → All P xs → times o xs ≡ 0
none_such P o [] not all = times_none o
none_such P o (x ∷ xs) not all =
    omega (arith, times_cons o x xs, one_else o x (λ e. not (subst P e (All-head P x xs all))), none_such P o xs not (All-tail P x xs all))

pub counted_same : (n : ℕ) (list counts : List ℕ) → n ≤ 8 → AreCounts list counts → IsDivision n list → IsPermutation (sizes_of counts) list
counted_same n list counts few are division =
    shuffled (sizes_of counts) list (counts_same list counts are
    (none_such (λ m. (1 ≤ m) × (m < n)) 0 list (λ h. (let l = h.0 in absurd (omega (arith, l)))) (fewer_each n list division))
    (λ x l. none_such (λ m. (1 ≤ m) × (m < n)) x list (λ h. (let u = h.1 in absurd (omega (arith, u, l, few)))) (fewer_each n list division)))

pub counted_of : (n : ℕ) (list counts : List ℕ) → n ≤ 8 → AreCounts list counts → IsDivision n list → AreOf n counts
counted_of n list counts few are division =
    let p = counted_same n list counts few are division in
    let whole = division.whole in let several = division.several in
    record {
      long = are.long;
      division = record {
        whole = sym (sum_by-IsPermutation (λ x. x) (sizes_of counts) list p) ∙ whole;
        several = omega (arith, same_length (sizes_of counts) list p, several);
        inhabited = All-permutation (λ k. 1 ≤ k) list (sizes_of counts) (IsPermutation-sym (sizes_of counts) list p) division.inhabited;
      };
    }
