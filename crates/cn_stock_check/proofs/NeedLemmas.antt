-- The needs of joins, join by join.
use Rattle.std.proofs.Common.{◌≡◌, ◌≢◌, ℕ, ◌<◌, ◌≤◌, inl, inr, ◌↔◌, List, [], ◌∷◌, ◌++◌, length, get_or, max, min, sym, ap, ◌∙◌, subst, arith, All, Contains}
use Rattle.std.proofs.lemmas.List.{get_or_past}
use Rattle.std.proofs.lemmas.List.Elements.{All-contains, Contains-append_left, Contains-get_or, Contains-push, Contains-push_cases}
use Rattle.cn_table.specs.TypeTable.{TypeTable}
use Rattle.cn_stocks.specs.Words.{IsKnown, times}
use Rattle.cn_stocks.proofs.StockLemmas.{before_or_behind}
use Rattle.cn_stocks.proofs.Times.{one, one_else, one_of, same_or, times_cons, times_none, times_of_place}
use Rattle.cn_joins.specs.Joins.{IsJoin, Join}
use Rattle.cn_stock_check.specs.Needs.{AreKnown, AreNeedsOf, IsNeedOf}
use Rattle.cn_stock_check.specs.declared.needs.Need.{Need}

pub no_needs : (start end : ℕ) (stock : List ℕ) → AreNeedsOf [] start end stock []
no_needs start end stock = record {
  of_each = λ join has same fits. absurd (let l = has.1 in omega (arith, l));
  of_some = λ need has. absurd (let l = has.1 in omega (arith, l));
}

module _ (joins : List Join) (join : Join) (start end : ℕ) (stock : List ℕ) (needs : List Need) (are : AreNeedsOf joins start end stock needs) where
  pub from_here : (need : Need) → join.start ≡ start → IsNeedOf join need → AreNeedsOf (joins ++ join ∷ []) start end stock (needs ++ need ∷ [])
  from_here need same is = record {
    of_each = λ other has same_start fits. elim (Contains-push_cases joins join other has) [
      | inl old ↦ (let n = are.of_each other old same_start fits in (n.0, Contains-append_left needs (need ∷ []) n.0 n.1, n.2))
      | inr e ↦ (need, Contains-push needs need, subst (λ (j : Join). IsNeedOf j need) e is)
    ];
    of_some = λ other has. elim (Contains-push_cases needs need other has) [
      | inl old ↦ (let j = are.of_some other old in (j.0, Contains-append_left joins (join ∷ []) j.0 j.1, j.2, j.3))
      | inr e ↦ (join, Contains-push joins join, same, subst (IsNeedOf join) e is)
    ];
  }

  pub from_elsewhere : join.start ≢ start → AreNeedsOf (joins ++ join ∷ []) start end stock needs
  from_elsewhere other_start = record {
    of_each = λ other has same_start fits. elim (Contains-push_cases joins join other has) [
      | inl old ↦ are.of_each other old same_start fits
      | inr e ↦ absurd (other_start (subst (λ (j : Join). j.start ≡ start) (sym e) same_start))
    ];
    of_some = λ other has. (let j = are.of_some other has in (j.0, Contains-append_left joins (join ∷ []) j.0 j.1, j.2, j.3));
  }

none_past : (k o : ℕ) (word : List ℕ) → IsKnown k word → k ≤ o → times o word ≡ 0
none_past k o word known l = elim (before_or_behind 0 (times o word)) [ inl some ↦ absurd (omega (arith, known o (omega (arith, some)), l)) | inr none ↦ omega (arith, none) ]

-- what is enough for both words
pub counted : (t : TypeTable) (join : Join) (counts : List ℕ) → IsJoin t join → length t.operations < 9 → length counts ≡ 8
    → ((o : ℕ) → o < 8 → get_or counts o 0 ≡ max (min (times o join.first.word) 255) (min (times o join.second.word) 255)) → (o c : ℕ) → c < 255
    → get_or counts o 0 ≤ c ↔ ((times o join.first.word ≤ c) × (times o join.second.word ≤ c))
counted t join counts is few long each o c small = elim (before_or_behind o 8) [
  | inl l ↦ (let e = each o l in ((λ h. (omega (arith, e, h, small), omega (arith, e, h, small))), (λ h. let a = h.0 in let b = h.1 in omega (arith, e, a, b, small))))
  | inr l ↦ (
      let past = get_or_past counts o 0 (omega (arith, long, l)) in
      let a = none_past (length t.operations) o join.first.word is.first.known (omega (arith, few, l)) in
      let b = none_past (length t.operations) o join.second.word is.second.known (omega (arith, few, l)) in
      ((λ h. (omega (arith, a), omega (arith, b))), (λ h. omega (arith, past)))
      )
]

pub need_by : (t : TypeTable) (join : Join) (first second counts : List ℕ) → first ≡ join.first.word → second ≡ join.second.word → IsJoin t join → length t.operations < 9 → length counts ≡ 8
    → ((o : ℕ) → o < 8 → get_or counts o 0 ≡ max (min (times o first) 255) (min (times o second) 255))
    → IsNeedOf join (record { first = get_or first 0 0; second = get_or second 0 0; counts = counts })
need_by t join first second counts e f is few long each = record {
  first = ap (λ (w : List ℕ). get_or w 0 0) e;
  second = ap (λ (w : List ℕ). get_or w 0 0) f;
  counts = counted t join counts is few long (λ o l. each o l ∙ (ap (λ (w : List ℕ). max (min (times o w) 255) (min (times o second) 255)) e ∙ ap (λ (w : List ℕ). max (min (times o join.first.word) 255) (min (times o w) 255)) f));
}

one_short : (o x : ℕ) → one o x ≤ 1
one_short o x = elim (same_or x o) [ inl e ↦ (let h = one_of o x e in omega (arith, h)) | inr n ↦ (let h = one_else o x n in omega (arith, h)) ]

pub times_short : (o : ℕ) (xs : List ℕ) → times o xs ≤ length xs
times_short o [] = let h = times_none o in omega (arith, h)
times_short o (x ∷ xs) = let h = times_cons o x xs in let l = one_short o x in let r = times_short o xs in omega (arith, h, l, r)

-- ---- the needs that are met

module _ (operation count : ℕ) where
  abbrev pub AreMet : List Need → List Need → Type 0
  AreMet needs met = (need : Need) → Contains met need ↔ (Contains needs need × (get_or need.counts operation 0 ≤ count))

  module _ (needs met next new : List Need) (x : Need) (more : next ≡ needs ++ x ∷ []) (are : AreMet needs met) where
    pub met_more : new ≡ met ++ x ∷ [] → get_or x.counts operation 0 ≤ count → AreMet next new
    met_more e fits need = subst (λ (xs : List Need). Contains new need ↔ (Contains xs need × (get_or need.counts operation 0 ≤ count))) (sym more)
        (subst (λ (xs : List Need). Contains xs need ↔ (Contains (needs ++ x ∷ []) need × (get_or need.counts operation 0 ≤ count))) (sym e) (
          λ h. elim (Contains-push_cases met x need h) [
            | inl old ↦ (let b = (are need).0 old in (Contains-append_left needs (x ∷ []) need b.0, b.1))
            | inr same ↦ subst (λ (y : Need). Contains (needs ++ x ∷ []) y × (get_or y.counts operation 0 ≤ count)) same (Contains-push needs x, fits)
          ],
          λ h. elim (Contains-push_cases needs x need h.0) [
            | inl old ↦ Contains-append_left met (x ∷ []) need ((are need).1 (old, h.1))
            | inr same ↦ subst (Contains (met ++ x ∷ [])) same (Contains-push met x)
          ],
        ))

    pub met_same : ¬ (get_or x.counts operation 0 ≤ count) → AreMet next met
    met_same lacks need = subst (λ (xs : List Need). Contains met need ↔ (Contains xs need × (get_or need.counts operation 0 ≤ count))) (sym more) (
      λ h. (let b = (are need).0 h in (Contains-append_left needs (x ∷ []) need b.0, b.1)),
      λ h. elim (Contains-push_cases needs x need h.0) [
        | inl old ↦ (are need).1 (old, h.1)
        | inr same ↦ absurd (lacks (subst (λ (y : Need). get_or y.counts operation 0 ≤ count) (sym same) h.1))
      ],
    )

  pub known_met : (needs met : List Need) → AreKnown needs → AreMet needs met → AreKnown met
  known_met needs met known are = λ k d l. All-contains (λ (need : Need). (need.first < 8) × (need.second < 8)) needs (get_or met k d) known ((are (get_or met k d)).0 (Contains-get_or met k d l)).0

-- ---- the operations with which words begin

first_known : (k : ℕ) (word : List ℕ) → IsKnown k word → 0 < length word → get_or word 0 0 < k
first_known k word known l = known (get_or word 0 0) (times_of_place word 0 l)

pub known_needs : (t : TypeTable) (joins : List Join) (start end : ℕ) (stock : List ℕ) (needs : List Need) → length t.operations < 9 → All (IsJoin t) joins → AreNeedsOf joins start end stock needs → AreKnown needs
known_needs t joins start end stock needs few all are = λ k d l.
    let j = are.of_some (get_or needs k d) (Contains-get_or needs k d l) in
    let is = All-contains (IsJoin t) joins j.0 all j.1 in
    let a = first_known (length t.operations) j.0.first.word is.first.known (omega (arith, is.first.has_place)) in
    let b = first_known (length t.operations) j.0.second.word is.second.known (omega (arith, is.second.has_place)) in
    let e = j.3.first in
    let f = j.3.second in
    (omega (arith, a, e, few), omega (arith, b, f, few))
