-- Lists of divisions that grow.
use Rattle.std.proofs.Common.{ℕ, zero, suc, ◌≡◌, ◌+◌, ◌<◌, ◌≤◌, ◌⊎◌, inl, inr, List, [], ◌∷◌, ◌++◌, All, Option, Some, None, length, refl, sym, ap, ◌∙◌, subst, arith, append-nil, append_assoc, slice_get}
use Rattle.std.proofs.lemmas.List.Elements.{All-append, All-cons, All-nil}
use Rattle.std.proofs.lemmas.Option.{none-some, same_Some, slice_get_within}
use Rattle.cn_table.specs.TypeTable.{TypeTable}
use Rattle.cn_meetings.specs.Meeting.{Meeting, Sight}
use Rattle.cn_stocks.specs.Words.{HaveSame, IsKnown}
use Rattle.cn_outcomes.proofs.Packing.{below_or_last}
use Rattle.cn_stocks.proofs.StockLemmas.{before_or_behind, get_before, get_behind}
use Rattle.cn_divisions.specs.declared.divisions.Division.{Division}
use Rattle.cn_divisions.specs.Divisions.{AreParted, DifferInSizes, HaveSizesOf, IsDivision, IsFinestOf, IsMeetingOf, operations_of, teams_of}
use Rattle.cn_divisions.specs.Found.{HasDivisionOf, HaveSizes, IsAdded, IsExtended}
use Rattle.cn_divisions.specs.declared.levels.Setting.{Setting}
use Rattle.cn_divisions.specs.Joins.{IsSplit}
use Rattle.cn_divisions.specs.Levels.{HasLessStarts, HasStarts}
use Rattle.cn_divisions.specs.Sizes.{AreSizes}
use Rattle.cn_divisions.proofs.Finding.{parted_split}
use Rattle.cn_divisions.proofs.Links.{process_of}
use Rattle.cn_divisions.proofs.Splitting.{less_split}

pub extended_same : (xs : List Division) → IsExtended xs xs
extended_same xs = ([], sym (append-nil xs))

pub extended_on : (a b c : List Division) → IsExtended a b → IsExtended b c → IsExtended a c
extended_on a b c x y = (x.0 ++ y.0, y.1 ∙ (ap (λ (l : List Division). l ++ y.0) x.1 ∙ append_assoc a x.0 y.0))

pub added_extended : (old new : List Division) (d : Division) → IsAdded old d new → IsExtended old new
added_extended old new d (inl e) = ([], e ∙ sym (append-nil old))
added_extended old new d (inr e) = (d ∷ [], e.0)

pub added_all : (P : Division → Type 0) (old new : List Division) (d : Division) → IsAdded old d new → All P old → P d → All P new
added_all P old new d (inl e) all p = subst (All P) (sym e) all
added_all P old new d (inr e) all p = subst (All P) (sym e.0) (All-append P old (d ∷ []) all (All-cons P d [] p (All-nil P)))

-- where an element of a longer list stands
seam : (old : List Division) (d e : Division) (i : ℕ) → slice_get (old ++ d ∷ []) i ≡ Some e → (slice_get old i ≡ Some e) ⊎ ((i ≡ length old) × (e ≡ d))
seam old d e i at = elim (before_or_behind i (length old)) [
  | inl l ↦ inl (sym (get_before old (d ∷ []) i l) ∙ at)
  | inr l ↦ (let k = get_behind old (d ∷ []) i l in last k.0 k.1 (sym k.2 ∙ at))
]
  where
    last : (k : ℕ) → length old + k ≡ i → slice_get (d ∷ []) k ≡ Some e → (slice_get old i ≡ Some e) ⊎ ((i ≡ length old) × (e ≡ d))
    last zero l h = inr (omega (arith, l), sym (same_Some d e h))
    last (suc k) l h = absurd (none-some e h)

pub added_differ : (old new : List Division) (d : Division) → IsAdded old d new → DifferInSizes old → DifferInSizes new
added_differ old new d (inl e) differ = subst DifferInSizes (sym e) differ
added_differ old new d (inr e) differ = subst DifferInSizes (sym e.0) each
  where
    each : DifferInSizes (old ++ d ∷ [])
    each i j x y at there same = elim (seam old d x i at) [
      | inl a ↦ elim (seam old d y j there) [
        | inl b ↦ differ i j x y a b same
        | inr b ↦ absurd (e.1 (i, x, a, same ∙ ap (λ (z : Division). z.sizes.items) b.1))
      ]
      | inr a ↦ elim (seam old d y j there) [
        | inl b ↦ absurd (e.1 (j, y, b, sym same ∙ ap (λ (z : Division). z.sizes.items) a.1))
        | inr b ↦ a.0 ∙ sym b.0
      ]
    ]

pub extended_sizes : (t : TypeTable) (n : ℕ) (M : Meeting) (old new : List Division) → IsExtended old new → HaveSizesOf t n M old → HaveSizesOf t n M new
extended_sizes t n M old new x has team finest parted =
    let h = has team finest parted in
    (h.0, h.1, subst (λ (l : List Division). slice_get l h.0 ≡ Some h.1) (sym x.1) (get_before old x.0 h.0 (slice_get_within old h.0 h.1 h.2) ∙ h.2), h.3)

-- what is found of a stock and a start state is in the list
pub found_sizes : (t : TypeTable) (sight : Sight) (start : ℕ) (items : List ℕ) (found : Option Division) (d : Division) (new : List Division) → found ≡ Some d → HasDivisionOf t sight start items found
    → HaveSizes new d.sizes.items → (M : Meeting) (team : ℕ → ℕ) → IsMeetingOf t sight (length items) M → M.start ≡ start
    → HaveSame items (operations_of M (length items)) → IsFinestOf t M (length items) team → AreParted (length items) team
    → (i : ℕ) × (e : Division) × (slice_get new i ≡ Some e) × AreSizes (teams_of team (length items)) e.sizes.items
found_sizes t sight start items found d new e has there M team is begins same finest parted =
    let h = has M team is begins same finest parted in
    let at = there in
    let one : h.0 ≡ d = same_Some _ _ (sym h.1 ∙ e) in
    (at.0, at.1, at.2, subst (λ (xs : List ℕ). AreSizes (teams_of team (length items)) xs) (sym at.3) (subst (λ (x : Division). AreSizes (teams_of team (length items)) x.sizes.items) one h.2))

pub none_found : (t : TypeTable) (sight : Sight) (start : ℕ) (items : List ℕ) (found : Option Division) → found ≡ None → HasDivisionOf t sight start items found
    → (M : Meeting) (team : ℕ → ℕ) → IsMeetingOf t sight (length items) M → M.start ≡ start → HaveSame items (operations_of M (length items)) → IsFinestOf t M (length items) team
    → ¬ AreParted (length items) team
none_found t sight start items found e has M team is begins same finest parted =
    let h = has M team is begins same finest parted in none-some h.0 (sym e ∙ h.1)

-- ---- the divisions of one stock, by start states
pub record FoundTo (t : TypeTable) (sight : Sight) (items : List ℕ) (old : List Division) (k : ℕ) (found : List Division) : Type 0 where
  pub are : All (IsDivision t sight (length items)) found
  pub once : DifferInSizes found
  pub kept : IsExtended old found
  pub done : (M : Meeting) → IsMeetingOf t sight (length items) M → M.start < k → HaveSame items (operations_of M (length items)) → HaveSizesOf t (length items) M found

pub found_more : (t : TypeTable) (sight : Sight) (items : List ℕ) (old : List Division) (k : ℕ) (found new : List Division) (option : Option Division) (d : Division) → option ≡ Some d
    → HasDivisionOf t sight k items option → IsDivision t sight (length items) d → IsAdded found d new → HaveSizes new d.sizes.items → FoundTo t sight items old k found → FoundTo t sight items old (k + 1) new
found_more t sight items old k found new option d e has is added there so = record {
  are = added_all (IsDivision t sight (length items)) found new d added so.are is;
  once = added_differ found new d added so.once;
  kept = extended_on old found new so.kept (added_extended found new d added);
  done = λ M m l same. elim (below_or_last M.start k l) [
    | inl u ↦ extended_sizes t (length items) M found new (added_extended found new d added) (so.done M m u same)
    | inr b ↦ (λ team finest parted. found_sizes t sight k items option d new e has there M team m b same finest parted)
  ];
}

pub found_none : (t : TypeTable) (sight : Sight) (items : List ℕ) (old : List Division) (k : ℕ) (found : List Division) (option : Option Division) → option ≡ None
    → HasDivisionOf t sight k items option → FoundTo t sight items old k found → FoundTo t sight items old (k + 1) found
found_none t sight items old k found option e has so = record {
  are = so.are;
  once = so.once;
  kept = so.kept;
  done = λ M m l same. elim (below_or_last M.start k l) [
    | inl u ↦ so.done M m u same
    | inr b ↦ (λ team finest parted. absurd (none_found t sight k items option e has M team m b same finest parted))
  ];
}

-- from a state that none of the smaller stocks splits from there is nothing to find
pub found_skip : (t : TypeTable) (sight : Sight) (items : List ℕ) (old : List Division) (k : ℕ) (found : List Division) → 3 ≤ length items → ¬ IsSplit t sight k items
    → FoundTo t sight items old k found → FoundTo t sight items old (k + 1) found
found_skip t sight items old k found many none so = record {
  are = so.are;
  once = so.once;
  kept = so.kept;
  done = λ M m l same. elim (below_or_last M.start k l) [
    | inl u ↦ so.done M m u same
    | inr b ↦ (λ team finest parted. absurd (none (subst (λ (q : ℕ). IsSplit t sight q items) b (parted_split t sight (length items) items M team many m same finest parted))))
  ];
}

-- a stock of three operations or more is split only from states in the set
pub less_set : (s : Setting) (sight : Sight) (set : ℕ) → HasLessStarts s sight set → 3 ≤ length s.stock.now.operations.items → HasStarts s.table.now sight s.stock.now.operations.items set
less_set s sight set less many q l split =
    let r = less_split s.table.now sight q s.stock.now.operations.items many split in
    less r.0 r.1 r.2 q l r.3

-- the operations of a meeting are those of the type
pub meeting_known : (t : TypeTable) (sight : Sight) (n : ℕ) (M : Meeting) → IsMeetingOf t sight n M → IsKnown (length t.operations) (operations_of M n)
meeting_known t sight n M is o l = let d = process_of t M n sight is.looks (operations_of M n) (λ o. refl) o l in subst (λ (x : ℕ). x < length t.operations) d.2 (is.operations d.0 d.1)
