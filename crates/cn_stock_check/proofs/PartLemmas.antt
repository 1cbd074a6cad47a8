-- Labels of operations, need by need.
use Rattle.std.proofs.Common.{◌≡◌, ◌==◌, ℕ, zero, suc, ◌+◌, ◌<◌, ◌≤◌, inl, inr, ◌↔◌, List, [], ◌∷◌, ◌++◌, length, get_or, take, All, refl, sym, ap, ◌∙◌, subst, arith, Bool, nat_eq, Contains}
use Rattle.std.specs.Prelude.{if◌then◌else◌, slice_index}
use Rattle.std.proofs.lemmas.Bool.{eqb-true, eq-eqb, ne_eqb}
use Rattle.std.proofs.lemmas.List.{get_or_past}
use Rattle.std.proofs.lemmas.List.Elements.{All-contains, All-take, Contains-append_left, Contains-push, Contains-push_cases}
use Rattle.cn_stocks.proofs.StockLemmas.{before_or_behind}
use Rattle.cn_stocks.proofs.Times.{same_or}
use Rattle.cn_stock_check.specs.Needs.{ArePartsBy, HasNeed, HaveOneLabel, NeedsConnect, NeedsKeepApart}
use Rattle.cn_stock_check.specs.declared.needs.Need.{Need}

-- ---- one label in place of another

abbrev pub relabel : ℕ → ℕ → ℕ → ℕ
relabel keep drop l = if l == drop then keep else l

pub relabel_drop : (keep drop l : ℕ) → l ≡ drop → relabel keep drop l ≡ keep
relabel_drop keep drop l e = rw (eq-eqb l drop e) refl

pub relabel_other : (keep drop l : ℕ) → (l ≡ drop → ⊥) → relabel keep drop l ≡ l
relabel_other keep drop l n = rw (ne_eqb l drop n) refl

-- ---- the first labels

pub own_label : (f : ℕ) → f < 8 → get_or (0 ∷ 1 ∷ 2 ∷ 3 ∷ 4 ∷ 5 ∷ 6 ∷ 7 ∷ []) f 0 ≡ f
own_label zero l = refl
own_label (suc zero) l = refl
own_label (suc (suc zero)) l = refl
own_label (suc (suc (suc zero))) l = refl
own_label (suc (suc (suc (suc zero)))) l = refl
own_label (suc (suc (suc (suc (suc zero))))) l = refl
own_label (suc (suc (suc (suc (suc (suc zero)))))) l = refl
own_label (suc (suc (suc (suc (suc (suc (suc zero))))))) l = refl
own_label (suc (suc (suc (suc (suc (suc (suc (suc f)))))))) l = absurd (omega (arith, l))

pub first_parts : (counts : List ℕ) → ArePartsBy [] counts (0 ∷ 1 ∷ 2 ∷ 3 ∷ 4 ∷ 5 ∷ 6 ∷ 7 ∷ [])
first_parts counts = record {
  connected = λ chosen apart f g l u e. ap chosen (sym (own_label f l) ∙ (e ∙ own_label g u));
  joined = λ need has enough. absurd (let l = has.1 in omega (arith, l));
}

-- ---- one need more

module _ (needs : List Need) (need : Need) (counts labels : List ℕ) (parts : ArePartsBy needs counts labels) where
  fewer_apart : (chosen : ℕ → Bool) → NeedsKeepApart chosen (needs ++ need ∷ []) counts → NeedsKeepApart chosen needs counts
  fewer_apart chosen apart other has = apart other (Contains-append_left needs (need ∷ []) other has)

  pub without_need : ¬ HasNeed counts need → ArePartsBy (needs ++ need ∷ []) counts labels
  without_need lacks = record {
    connected = λ chosen apart. parts.connected chosen (fewer_apart chosen apart);
    joined = λ other has enough. elim (Contains-push_cases needs need other has) [
      | inl old ↦ parts.joined other old enough
      | inr same ↦ absurd (lacks (subst (HasNeed counts) (sym same) enough))
    ];
  }

  abbrev keep : ℕ
  keep = get_or labels need.first 0

  abbrev drop : ℕ
  drop = get_or labels need.second 0

  module _ (enough : HasNeed counts need) (first_known : need.first < 8) (second_known : need.second < 8) (merged : List ℕ)
      (new_at : (f : ℕ) → f < 8 → get_or merged f 0 ≡ relabel keep drop (get_or labels f 0)) where
    new_joined : (other : Need) → other.first < 8 → other.second < 8 → get_or labels other.first 0 ≡ get_or labels other.second 0
        → get_or merged other.first 0 ≡ get_or merged other.second 0
    new_joined other l u e = new_at other.first l ∙ (ap (relabel keep drop) e ∙ sym (new_at other.second u))

    relabel_keep : relabel keep drop keep ≡ keep
    relabel_keep = elim (same_or keep drop) [ inl e ↦ relabel_drop keep drop keep e | inr n ↦ relabel_other keep drop keep n ]

    this_joined : get_or merged need.first 0 ≡ get_or merged need.second 0
    this_joined = new_at need.first first_known ∙ (relabel_keep ∙ (sym (relabel_drop keep drop drop refl) ∙ sym (new_at need.second second_known)))

    new_connected : (chosen : ℕ → Bool) → NeedsKeepApart chosen (needs ++ need ∷ []) counts → (f g : ℕ) → f < 8 → g < 8 → relabel keep drop (get_or labels f 0) ≡ relabel keep drop (get_or labels g 0)
        → chosen f ≡ chosen g
    new_connected chosen apart f g l u e =
        let old = parts.connected chosen (fewer_apart chosen apart) in
        let this = apart need (Contains-push needs need) enough in
        elim (same_or (get_or labels f 0) drop) [
          | inl a ↦ elim (same_or (get_or labels g 0) drop) [
            | inl b ↦ old f g l u (a ∙ sym b)
            | inr n ↦ old f need.second l second_known a
                ∙ (sym this ∙ old need.first g first_known u (sym (relabel_drop keep drop (get_or labels f 0) a) ∙ (e ∙ relabel_other keep drop (get_or labels g 0) n)))
          ]
          | inr m ↦ elim (same_or (get_or labels g 0) drop) [
            | inl b ↦ old f need.first l first_known (sym (relabel_other keep drop (get_or labels f 0) m) ∙ (e ∙ relabel_drop keep drop (get_or labels g 0) b))
                ∙ (this ∙ old need.second g second_known u (sym b))
            | inr n ↦ old f g l u (sym (relabel_other keep drop (get_or labels f 0) m) ∙ (e ∙ relabel_other keep drop (get_or labels g 0) n))
          ]
        ]

    pub with_need : ((other : Need) → Contains needs other → (other.first < 8) × (other.second < 8)) → ArePartsBy (needs ++ need ∷ []) counts merged
    with_need known = record {
      connected = λ chosen apart f g l u e. new_connected chosen apart f g l u (sym (new_at f l) ∙ (e ∙ new_at g u));
      joined = λ other has fits. elim (Contains-push_cases needs need other has) [
        | inl old ↦ (let k = known other old in new_joined other k.0 k.1 (parts.joined other old fits))
        | inr same ↦ subst (λ (x : Need). get_or merged x.first 0 ≡ get_or merged x.second 0) same this_joined
      ];
    }

-- ---- need by need

-- the needs so far, with a need more
module _ (needs : List Need) (i : ℕ) (counts labels : List ℕ) where
  abbrev AreBelow : List Need → Type 0
  AreBelow xs = All (λ (need : Need). (need.first < 8) × (need.second < 8)) xs

  known_in : AreBelow needs → (other : Need) → Contains (take i needs) other → (other.first < 8) × (other.second < 8)
  known_in all other has = All-contains (λ (need : Need). (need.first < 8) × (need.second < 8)) (take i needs) other (All-take (λ (need : Need). (need.first < 8) × (need.second < 8)) i needs all) has

  pub parts_same : ArePartsBy (take i needs) counts labels → (need : Need) → take (i + 1) needs ≡ take i needs ++ need ∷ [] → ¬ HasNeed counts need → ArePartsBy (take (i + 1) needs) counts labels
  parts_same parts need more lacks = subst (λ (xs : List Need). ArePartsBy xs counts labels) (sym more) (without_need (take i needs) need counts labels parts lacks)

  pub parts_more : (merged : List ℕ) → AreBelow needs → ArePartsBy (take i needs) counts labels → (need : Need) → take (i + 1) needs ≡ take i needs ++ need ∷ [] → (need.first < 8) × (need.second < 8)
      → HasNeed counts need → ((f : ℕ) → f < 8 → get_or merged f 0 ≡ relabel (get_or labels need.first 0) (get_or labels need.second 0) (get_or labels f 0)) → ArePartsBy (take (i + 1) needs) counts merged
  parts_more merged all parts need more known enough at = subst (λ (xs : List Need). ArePartsBy xs counts merged) (sym more)
      (with_need (take i needs) need counts labels parts enough known.0 known.1 merged at (known_in all))

-- ---- when the labels are one

count_known : (counts : List ℕ) (f : ℕ) → length counts ≡ 8 → 1 ≤ get_or counts f 0 → f < 8
count_known counts f long l = elim (before_or_behind f 8) [ inl u ↦ u | inr u ↦ (let past = get_or_past counts f 0 (omega (arith, long, u)) in absurd (omega (arith, past, l))) ]

pub one_label : (needs : List Need) (counts labels : List ℕ) → length counts ≡ 8 → ArePartsBy needs counts labels → HaveOneLabel counts labels ↔ NeedsConnect needs counts
one_label needs counts labels long parts = (
  λ one chosen apart f g in_f in_g. parts.connected chosen apart f g (count_known counts f long in_f) (count_known counts g long in_g) (one f g in_f in_g),
  λ connect f g in_f in_g. from f g (connect (λ x. nat_eq (slice_index labels x) (slice_index labels f)) (λ need has enough. ap (λ (l : ℕ). nat_eq l (slice_index labels f)) (parts.joined need has enough)) f g in_f in_g),
)
  where
    from : (f g : ℕ) → nat_eq (slice_index labels f) (slice_index labels f) ≡ nat_eq (slice_index labels g) (slice_index labels f) → slice_index labels f ≡ slice_index labels g
    from f g e = sym (eqb-true (slice_index labels g) (slice_index labels f) (sym e ∙ eq-eqb (slice_index labels f) (slice_index labels f) refl))
