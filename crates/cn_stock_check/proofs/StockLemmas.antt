-- Stocks of some operations more.
use Rattle.std.specs.Prelude.{IsTrue, slice_index}
use Rattle.std.proofs.Common.{◌≡◌, ◌≢◌, ◌⊎◌, ℕ, zero, suc, ◌+◌, ◌-◌, ◌<◌, ◌≤◌, inl, inr, ◌↔◌, List, [], ◌∷◌, ◌++◌, length, get_or, get_or-set_same, get_or-set_other, slice_set, refl, sym, ap, ◌∙◌, subst, arith, All, Bool, true, false, true≢false, Contains, append-nil}
use Rattle.std.proofs.lemmas.List.{get_or_past}
use Rattle.std.proofs.lemmas.List.Elements.{All-get_or, All-set, All-weaker}
use Rattle.cn_table.specs.TypeTable.{TypeTable}
use Rattle.cn_stocks.specs.Stocks.{UpTo}
use Rattle.cn_stocks.specs.Words.{HaveSame, IsKnown, times}
use Rattle.cn_stocks.proofs.StockLemmas.{before_or_behind}
use Rattle.cn_stocks.proofs.Times.{one_at, one_else, same_or, same_sym, times_append, times_at, times_cons, times_last, times_none}
use Rattle.cn_telling.specs.Rows.{HasEarlier}
use Rattle.cn_telling.proofs.RowLemmas.{rows_same}
use Rattle.cn_joins.specs.Evidence.{HasRowOfEarlier, MustBeConnected}
use Rattle.cn_joins.specs.Joins.{Connect, IsJoinWithin, Join, KeepsApart}
use Rattle.cn_joins.proofs.Finite.{without}
use Rattle.cn_stock_check.specs.Needs.{AreFrom, AreNeedsOf, ConnectFrom, ConnectWith, HasCounts, HasNeed, IsBegun, IsLeftOut, IsNeedOf, NeedsConnect, NeedsKeepApart}
use Rattle.cn_stock_check.specs.declared.needs.Need.{Need}

-- ---- the needs that counts have are those of the joins within the stock

module _ (joins : List Join) (start next : ℕ) (needs : List Need) (counts stock : List ℕ) (are : AreNeedsOf joins start next stock needs) (has : HasCounts counts stock)
    (small : (o : ℕ) → times o stock < 255) where
  to_need : (join : Join) (need : Need) → IsNeedOf join need → IsJoinWithin start stock join → HasNeed counts need
  to_need join need is within o =
      let e = has o in
      let enough = (is.counts o (times o stock) (small o)).1 (within.first o, within.second o) in
      omega (arith, e, enough)

  to_join : (join : Join) (need : Need) → IsNeedOf join need → join.start ≡ start → HasNeed counts need → IsJoinWithin start stock join
  to_join join need is same enough = record {
    same_start = same;
    first = λ o. ((is.counts o (times o stock) (small o)).0 (let e = has o in let l = enough o in omega (arith, e, l))).0;
    second = λ o. ((is.counts o (times o stock) (small o)).0 (let e = has o in let l = enough o in omega (arith, e, l))).1;
  }

  to_apart : (chosen : ℕ → Bool) → NeedsKeepApart chosen needs counts → KeepsApart chosen joins start stock
  to_apart chosen apart join in_joins within =
      let n = are.of_each join in_joins within.same_start (λ o l. (within.first o, within.second o)) in
      ap chosen (sym n.2.first) ∙ (apart n.0 n.1 (to_need join n.0 n.2 within) ∙ ap chosen n.2.second)

  from_apart : (chosen : ℕ → Bool) → KeepsApart chosen joins start stock → NeedsKeepApart chosen needs counts
  from_apart chosen apart need in_needs enough =
      let j = are.of_some need in_needs in
      ap chosen j.3.first ∙ (apart j.0 j.1 (to_join j.0 need j.3 j.2 enough) ∙ ap chosen (sym j.3.second))

  pub connect_by_needs : NeedsConnect needs counts ↔ Connect joins start stock
  connect_by_needs = (
    λ c chosen apart f g in_f in_g. c chosen (from_apart chosen apart) f g (let e = has f in omega (arith, e, in_f)) (let e = has g in omega (arith, e, in_g)),
    λ c chosen apart f g in_f in_g. c chosen (to_apart chosen apart) f g (let e = has f in omega (arith, e, in_f)) (let e = has g in omega (arith, e, in_g)),
  )

-- ---- stocks with the same operations

pub connect_same : (joins : List Join) (start : ℕ) (a b : List ℕ) → HaveSame a b → Connect joins start a → Connect joins start b
connect_same joins start a b same c chosen apart f g in_f in_g =
    c chosen (λ join has within. apart join has (record { same_start = within.same_start; first = λ o. (let e = same o in let l = within.first o in omega (arith, e, l)); second = λ o. (let e = same o in let l = within.second o in omega (arith, e, l)) }))
    f g (let e = same f in omega (arith, e, in_f)) (let e = same g in omega (arith, e, in_g))

-- ---- counts

pub counts_none : HasCounts (0 ∷ 0 ∷ 0 ∷ 0 ∷ 0 ∷ 0 ∷ 0 ∷ 0 ∷ []) []
counts_none zero = refl
counts_none (suc zero) = refl
counts_none (suc (suc zero)) = refl
counts_none (suc (suc (suc zero))) = refl
counts_none (suc (suc (suc (suc zero)))) = refl
counts_none (suc (suc (suc (suc (suc zero))))) = refl
counts_none (suc (suc (suc (suc (suc (suc zero)))))) = refl
counts_none (suc (suc (suc (suc (suc (suc (suc zero))))))) = refl
counts_none (suc (suc (suc (suc (suc (suc (suc (suc o)))))))) = refl

pub known_from : (m : ℕ) (list : List ℕ) → IsKnown m list ↔ AreFrom 0 m list
known_from m list = ((λ k o l. (omega arith, k o l)), (λ f o l. (f o l).1))

-- one operation more is counted
pub counts_with : (counts stock : List ℕ) (next : ℕ) → HasCounts counts stock → next < length counts → HasCounts (slice_set counts next (get_or counts next 0 + 1)) (stock ++ next ∷ [])
counts_with counts stock next has l o = elim (same_or o next) [
  | inl e ↦ subst (λ (x : ℕ). get_or (slice_set counts next (get_or counts next 0 + 1)) x 0 ≡ times x (stock ++ next ∷ [])) (sym e)
      (get_or-set_same counts next (get_or counts next 0 + 1) 0 l ∙ (let h = has next in let t = times_last next next stock in let a = one_at next in omega (arith, h, t, a)))
  | inr n ↦ get_or-set_other counts next o (get_or counts next 0 + 1) 0 n ∙ (let h = has o in let t = times_last o next stock in let z = one_else o next (λ e. n (sym e)) in omega (arith, h, t, z))
]

-- counts that have room for some operations more are small
pub small_counts : (counts stock : List ℕ) (more : ℕ) → HasCounts counts stock → All (λ count. count + more ≤ 17) counts → (o : ℕ) → times o stock < 255
small_counts counts stock more has room o = elim (before_or_behind o (length counts)) [
  | inl l ↦ (let r = All-get_or (λ count. count + more ≤ 17) counts o 0 l room in let h = has o in omega (arith, r, h))
  | inr l ↦ (let z = get_or_past counts o 0 l in let h = has o in omega (arith, z, h))
]

pub room_with : (counts : List ℕ) (next more : ℕ) → next < length counts → 1 ≤ more → All (λ count. count + more ≤ 17) counts
    → All (λ count. count + (more - 1) ≤ 17) (slice_set counts next (get_or counts next 0 + 1))
room_with counts next more l some room =
    All-set (λ count. count + (more - 1) ≤ 17) counts next (get_or counts next 0 + 1) (let r = All-get_or (λ count. count + more ≤ 17) counts next 0 l room in omega (arith, r, some))
    (All-weaker (λ count. count + more ≤ 17) (λ count. count + (more - 1) ≤ 17) (λ x r. omega (arith, r)) counts room)

-- ---- stocks that must be connected

pub must_same : (t : TypeTable) (a b : List ℕ) → HaveSame a b → MustBeConnected t a → MustBeConnected t b
must_same t a b same must = record {
  no_copies = λ o l. must.no_copies o (let e = same o in omega (arith, e, l));
  rows_differ = rows_same t a b same must.rows_differ;
}

must_none : (t : TypeTable) → MustBeConnected t []
must_none t = record { no_copies = λ o l. absurd (omega (arith, l, times_none o)); rows_differ = λ o l. absurd (omega (arith, l, times_none o)) }

module _ (t : TypeTable) (next : ℕ) (stock : List ℕ) where
  in_stock : (o : ℕ) → next ≢ o → 1 ≤ times o (stock ++ next ∷ []) → 1 ≤ times o stock
  in_stock o d l = let e = times_last o next stock in let z = one_else o next d in omega (arith, l, e, z)

  -- an operation that is not left out is one more
  must_with : UpTo next stock → ¬ IsLeftOut t stock next → MustBeConnected t stock → MustBeConnected t (stock ++ next ∷ [])
  must_with up_to kept must = record {
    no_copies = λ o l copy. elim (same_or next o) [ inl e ↦ kept (inl (subst (HasRowOfEarlier t) (sym e) copy)) | inr d ↦ must.no_copies o (in_stock o d l) copy ];
    rows_differ = λ o l early. elim (same_or next o) [
      | inl e ↦ (
          let has = in_stock early.0 (λ h. absurd (omega (arith, e, h, early.1))) early.2 in
          kept (inr (subst (HasEarlier t stock) (sym e) (early.0, early.1, has, early.3)))
          )
      | inr d ↦ (
          let in_o = in_stock o d l in
          let below = up_to o in_o in
          must.rows_differ o in_o (early.0, early.1, in_stock early.0 (λ h. absurd (omega (arith, h, early.1, below))) early.2, early.3)
          )
    ];
  }

  -- a stock that has these and one that is left out need not be connected
  left_out : IsLeftOut t stock next → (whole : List ℕ) → ((o : ℕ) → 1 ≤ times o stock → 1 ≤ times o whole) → 1 ≤ times next whole → ¬ MustBeConnected t whole
  left_out (inl copy) whole inside has must = must.no_copies next has copy
  left_out (inr early) whole inside has must = must.rows_differ next has (early.0, early.1, inside early.0 early.2, early.3)

  pub begun_with : (counts : List ℕ) → next < length counts → ¬ IsLeftOut t stock next → IsBegun t next counts stock → IsBegun t next (slice_set counts next (get_or counts next 0 + 1)) (stock ++ next ∷ [])
  begun_with counts l kept begun = record {
    counted = counts_with counts stock next begun.counted l;
    up_to = λ o has. elim (same_or next o) [ inl e ↦ omega (arith, e) | inr d ↦ begun.up_to o (in_stock o d has) ];
    must = must_with begun.up_to kept begun.must;
  }

  pub begun_next : (counts : List ℕ) → IsBegun t next counts stock → IsBegun t (next + 1) counts stock
  begun_next counts begun = record { counted = begun.counted; up_to = λ o has. (let l = begun.up_to o has in omega (arith, l)); must = begun.must }

pub begun_none : (t : TypeTable) → IsBegun t 0 (0 ∷ 0 ∷ 0 ∷ 0 ∷ 0 ∷ 0 ∷ 0 ∷ 0 ∷ []) []
begun_none t = record { counted = counts_none; up_to = λ o l. absurd (omega (arith, l, times_none o)); must = must_none t }

-- ---- some operations more

module _ (t : TypeTable) (joins : List Join) (start : ℕ) where
  pub connect_none : (stock : List ℕ) (next end : ℕ) → MustBeConnected t stock → Connect joins start stock ↔ ConnectWith t joins start stock next end 0
  connect_none stock next end must = (
    λ c rest long from _. empty rest long c,
    λ a. subst (Connect joins start) (append-nil stock) (a [] refl (λ o l. absurd (let z = times_none o in omega (arith, l, z))) (subst (MustBeConnected t) (sym (append-nil stock)) must)),
  )
    where
      empty : (rest : List ℕ) → length rest ≡ 0 → Connect joins start stock → Connect joins start (stock ++ rest)
      empty [] long c = subst (Connect joins start) (sym (append-nil stock)) c
      empty (o ∷ rest) long c = absurd (omega (arith, long))

  pub connect_end : (stock : List ℕ) (end more : ℕ) → 1 ≤ more → ConnectWith t joins start stock end end more
  connect_end stock end more some [] long from must = absurd (omega (arith, long, some))
  connect_end stock end more some (o ∷ rest) long from must = let f = from o (times_at o rest) in absurd (omega (arith, f.0, f.1))

  module _ (stock : List ℕ) (next end more : ℕ) where
    move : (rest : List ℕ) → HaveSame ((stock ++ next ∷ []) ++ rest) (stock ++ next ∷ rest)
    move rest o =
        let a = times_append o (stock ++ next ∷ []) rest in
        let b = times_last o next stock in
        let c = times_append o stock (next ∷ rest) in
        let d = times_cons o next rest in
        omega (arith, a, b, c, d)

    same_behind : (rest other : List ℕ) → HaveSame other rest → HaveSame (stock ++ rest) (stock ++ other)
    same_behind rest other same o =
        let a = times_append o stock rest in
        let b = times_append o stock other in
        let c = same o in
        omega (arith, a, b, c)

    -- a list from the next one on that lacks it is from the one behind on
    from_behind : (rest : List ℕ) → AreFrom next end rest → ((o : ℕ) → 1 ≤ times o rest → next ≢ o) → AreFrom (next + 1) end rest
    from_behind rest from lacks o l = let f = from o l in let n = lacks o l in (omega (arith, f.0, n), f.1)

    pub connect_more : ConnectWith t joins start (stock ++ next ∷ []) next end more → ConnectWith t joins start stock (next + 1) end (more + 1) → ConnectWith t joins start stock next end (more + 1)
    connect_more with_it later rest long from must = elim (before_or_behind 0 (times next rest)) [
      | inl some ↦ (
          let r = without next rest (omega (arith, some)) in
          let less : (o : ℕ) → 1 ≤ times o r.0 → 1 ≤ times o rest = λ o l. (let e = r.1 o in let c = times_cons o next r.0 in omega (arith, e, c, l)) in
          let same : HaveSame ((stock ++ next ∷ []) ++ r.0) (stock ++ rest) = λ o. move r.0 o ∙ same_behind (next ∷ r.0) rest r.1 o in
          let other = same_sym ((stock ++ next ∷ []) ++ r.0) (stock ++ rest) same in
          connect_same joins start ((stock ++ next ∷ []) ++ r.0) (stock ++ rest) same
          (with_it r.0 (omega (arith, r.2, long)) (λ o l. from o (less o l)) (must_same t (stock ++ rest) ((stock ++ next ∷ []) ++ r.0) other must))
          )
      | inr lacks ↦ later rest long (from_behind rest from (λ o l e. (let s : times next rest ≡ times o rest = ap (λ (x : ℕ). times x rest) e in absurd (omega (arith, s, lacks, l))))) must
    ]

    -- stocks with an operation that is left out need nothing
    pub left_passed : IsLeftOut t stock next → ConnectWith t joins start stock (next + 1) end (more + 1) → ConnectWith t joins start stock next end (more + 1)
    left_passed out later rest long from must = later rest long (from_behind rest from lacks) must
      where
        inside : (o : ℕ) → 1 ≤ times o stock → 1 ≤ times o (stock ++ rest)
        inside o l = omega (arith, l, times_append o stock rest)

        lacks : (o : ℕ) → 1 ≤ times o rest → next ≢ o
        lacks o l e = (
            let has : 1 ≤ times next rest = subst (λ (x : ℕ). 1 ≤ times x rest) (sym e) l in
            left_out t next stock out (stock ++ rest) inside (omega (arith, has, times_append next stock rest)) must)

    pub with_next : next < end → ConnectWith t joins start stock next end (more + 1) → ConnectWith t joins start (stock ++ next ∷ []) next end more
    with_next below a rest long from must =
        connect_same joins start (stock ++ next ∷ rest) ((stock ++ next ∷ []) ++ rest) (same_sym ((stock ++ next ∷ []) ++ rest) (stock ++ next ∷ rest) (move rest))
        (a (next ∷ rest) (omega (arith, long)) (λ o l. elim (same_or next o) [ inl e ↦ (omega (arith, e), omega (arith, e, below)) | inr d ↦ from o (behind o d l) ])
        (must_same t ((stock ++ next ∷ []) ++ rest) (stock ++ next ∷ rest) (move rest) must))
      where
        behind : (o : ℕ) → next ≢ o → 1 ≤ times o (next ∷ rest) → 1 ≤ times o rest
        behind o d l = let c = times_cons o next rest in let z = one_else o next d in omega (arith, c, z, l)

    pub behind_next : ConnectWith t joins start stock next end (more + 1) → ConnectWith t joins start stock (next + 1) end (more + 1)
    behind_next a rest long from must = a rest long (λ o l. (let f = from o l in (omega (arith, f.0), f.1))) must

-- ---- needs, where more is known of the stock

module _ (joins : List Join) (start next : ℕ) (stock : List ℕ) (needs : List Need) (are : AreNeedsOf joins start next stock needs) where
  pub needs_with : AreNeedsOf joins start next (stock ++ next ∷ []) needs
  needs_with = record {
    of_each = λ join has same fits. are.of_each join has same (λ o l. (
        let f = fits o l in
        let a = times_last o next stock in
        let z = one_else o next (λ e. absurd (omega (arith, e, l))) in
        let b = f.0 in
        let c = f.1 in
        (omega (arith, a, z, b), omega (arith, a, z, c))
        ));
    of_some = are.of_some;
  }

  pub needs_met : (counts : List ℕ) → HasCounts counts stock → ((o : ℕ) → times o stock < 255) → (met : List Need)
      → ((need : Need) → Contains met need ↔ (Contains needs need × (slice_index need.counts next ≤ slice_index counts next)))
      → AreNeedsOf joins start (next + 1) stock met
  needs_met counts has small met is_met = record {
    of_each = λ join in_joins same fits. (
        let n = are.of_each join in_joins same (λ o l. fits o (omega (arith, l))) in
        let enough = (n.2.counts next (times next stock) (small next)).1 (fits next (omega arith)) in
        let e = has next in
        (n.0, (is_met n.0).1 (n.1, omega (arith, e, enough)), n.2)
        );
    of_some = λ need in_met. are.of_some need ((is_met need).0 in_met).0;
  }

-- ---- the verdicts on the stocks, step by step

module _ (t : TypeTable) (joins : List Join) (start : ℕ) (stock : List ℕ) (next end : ℕ) where
  pub none_more : (needs : List Need) (counts : List ℕ) (more : ℕ) (answer : Bool) → AreNeedsOf joins start next stock needs → IsBegun t next counts stock → All (λ count. count + more ≤ 17) counts
      → IsTrue answer ↔ NeedsConnect needs counts → more ≡ 0 → IsTrue answer ↔ ConnectWith t joins start stock next end more
  none_more needs counts more answer are begun room y e =
      let by = connect_by_needs joins start next needs counts stock are begun.counted (small_counts counts stock more begun.counted room) in
      let none = connect_none t joins start stock next end begun.must in
      subst (λ (m : ℕ). IsTrue answer ↔ ConnectWith t joins start stock next end m) (sym e) ((λ h. none.0 (by.0 (y.0 h))), (λ h. y.1 (by.1 (none.1 h))))

  -- with the next operation they connect, or it is left out
  abbrev pub AreSettled : ℕ → Type 0
  AreSettled more = ConnectWith t joins start (stock ++ next ∷ []) next end (more - 1) ⊎ IsLeftOut t stock next

  module _ (more : ℕ) (some : 1 ≤ more) where
    as_more : more ≡ (more - 1) + 1
    as_more = omega (arith, some)

    pub with_fails : next < end → (answer : Bool) → IsTrue answer ↔ ConnectWith t joins start (stock ++ next ∷ []) next end (more - 1) → answer ≡ false → IsTrue false ↔ ConnectWith t joins start stock next end more
    with_fails below answer y fails = (
      λ h. absurd (true≢false (sym h)),
      λ h. absurd (true≢false (sym (y.1 (with_next t joins start stock next end (more - 1) below (subst (ConnectWith t joins start stock next end) as_more h))) ∙ fails)),
    )

    pub all_hold : AreSettled more → (other : Bool) → IsTrue other ↔ ConnectWith t joins start stock (next + 1) end more → IsTrue other ↔ ConnectWith t joins start stock next end more
    all_hold settled other o = (
      λ h. (let later = subst (ConnectWith t joins start stock (next + 1) end) as_more (o.0 h) in subst (ConnectWith t joins start stock next end) (sym as_more) (elim settled [
        | inl with_it ↦ connect_more t joins start stock next end (more - 1) with_it later
        | inr out ↦ left_passed t joins start stock next end (more - 1) out later
      ])),
      λ h. o.1 (subst (ConnectWith t joins start stock (next + 1) end) (sym as_more) (behind_next t joins start stock next end (more - 1) (subst (ConnectWith t joins start stock next end) as_more h))),
    )

    pub last_holds : AreSettled more → next + 1 ≡ end → IsTrue true ↔ ConnectWith t joins start stock next end more
    last_holds settled e = all_hold settled true ((λ h. subst (λ (k : ℕ). ConnectWith t joins start stock k end more) (sym e) (connect_end t joins start stock end more some)), (λ h. refl))

-- the whole stocks
pub from_none : (t : TypeTable) (joins : List Join) (start n : ℕ) (answer : Bool) → IsTrue answer ↔ ConnectWith t joins start [] 0 (length t.operations) n → IsTrue answer ↔ ConnectFrom t n joins start
from_none t joins start n answer y = (
  λ h stock known long must. y.0 h stock long ((known_from (length t.operations) stock).0 known) must,
  λ h. y.1 (λ rest long from must. h rest ((known_from (length t.operations) rest).1 from) long must),
)
