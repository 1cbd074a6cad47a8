-- Joins between a set of operations and the others, from words within the stocks.
use Rattle.std.proofs.Common.{◌≡◌, ◌≢◌, ℕ, ◌<◌, ◌↔◌, List, [], ◌∷◌, ◌++◌, length, refl, sym, ◌∙◌, subst, arith, Option, Some, None}
use Rattle.std.specs.Prelude.{IsBitSet, MatchOption, slice_index_or}
use Rattle.cn_table.specs.TypeTable.{IsRow, IsTypeTable, TypeTable, no_row, transition}
use Rattle.cn_table.specs.Run.{state_after}
use Rattle.cn_table.proofs.ReachLemmas.{next_below}
use Rattle.cn_table.proofs.Rows.{all_at}
use Rattle.cn_joins.specs.Joins.{Join, pair_of_word}
use Rattle.cn_stocks.specs.declared.pair_sets.PairSet.{PairSet}
use Rattle.cn_stocks.specs.Pairs.{Has, set_at}
use Rattle.cn_stocks.specs.Words.{HaveSame, IsKnown, Shows, times}
use Rattle.cn_stocks.proofs.Steps.{shows_asked, shows_first, shows_same}
use Rattle.cn_stocks.proofs.Times.{same_sym, times_at, times_between, times_cons}
use Rattle.cn_join_find.specs.declared.meeting.Meeting.{Meeting}
use Rattle.cn_join_find.specs.declared.steps.Views.{Views}
use Rattle.cn_join_find.specs.Crossing.{IsCrossing, IsMeeting, MeetsWithin, NoCommonPair, NoneCrosses, NoneShown}
use Rattle.cn_join_find.specs.Steps.{IsShowing}
use Rattle.cn_join_find.proofs.ReachLemmas.{within_other}

-- ---- responses and states of words

module _ (t : TypeTable) (table : IsTypeTable t) where
  after_below : (word : List ℕ) (s : ℕ) → IsKnown (length t.operations) word → s < length t.states → state_after t s word < length t.states
  after_below [] s known l = l
  after_below (o ∷ word) s known l =
      after_below word (transition t o s).1 (λ x u. known x (omega (arith, u, times_cons x o word))) (next_below t o s table (known o (times_at o word)) l)

  response_below : (o q : ℕ) → o < length t.operations → q < length t.states → (transition t o q).0 < length t.responses
  response_below o q l u =
      let row : IsRow (length t.states) (length t.responses) (slice_index_or t.operations o no_row) = all_at (IsRow (length t.states) (length t.responses)) t.operations o no_row l table.rows in
      all_at (λ r. r < length t.responses) (slice_index_or t.operations o no_row).response q 0 (rw row.response_len u) row.response

  module _ (start : ℕ) (stock : List ℕ) (start_known : start < length t.states) (known : IsKnown (length t.operations) stock) where
    shown_response : (f o r q : ℕ) → Shows t start stock f o r q → r < length t.responses
    shown_response f o r q s = subst (λ (x : ℕ). x < length t.responses) s.answer
        (response_below o (state_after t start s.before) (known o (shows_asked t start stock f o r q s))
        (after_below s.before start (λ x u. known x (omega (arith, u, s.within x, times_between x o s.before s.after))) start_known))

    shown_state : (f o r q : ℕ) → Shows t start stock f o r q → q < length t.states
    shown_state f o r q s = subst (λ (x : ℕ). x < length t.states) s.ends
        (after_below (s.before ++ o ∷ s.after) start (λ x u. known x (omega (arith, u, s.within x))) start_known)

    -- ---- pairs by the first operation

    module _ (o : ℕ) (pairs : List PairSet) (shown : (f r q : ℕ) → Has (set_at pairs f) r q ↔ Shows t start stock f o r q) where
      pub none_meets : (set : ℕ) → ((f g : ℕ) → f < length t.operations → g < length t.operations → IsBitSet set f → ¬ IsBitSet set g → NoCommonPair t (set_at pairs f) (set_at pairs g))
          → NoneShown t start stock set o
      none_meets set none f g r q inside outside s u =
          none f g (known f (shows_first t start stock f o r q s)) (known g (shows_first t start stock g o r q u)) inside outside r q (shown_response f o r q s) (shown_state f o r q s)
          ((shown f r q).1 s) ((shown g r q).1 u)

pub meets_within : (v : Views) (start set : ℕ) (whole : List ℕ) (pairs : List PairSet) (m : Meeting)
    → ((f r q : ℕ) → Has (set_at pairs f) r q ↔ Shows v.cells.table.now start whole f v.asked r q) → IsMeeting v.cells.table.now pairs set m → MeetsWithin v start whole set m
meets_within v start set whole pairs m shown is = record {
  first_known = is.first_known;
  second_known = is.second_known;
  response_known = is.response_known;
  state_known = is.state_known;
  inside = is.inside;
  outside = is.outside;
  first_shows = (shown m.first m.pair.response m.pair.state).0 is.first_has;
  second_shows = (shown m.second m.pair.response m.pair.state).0 is.second_has;
}

-- ---- the join of two words

pub crosses : (t : TypeTable) (start set : ℕ) (stock : List ℕ) (f g o r q : ℕ) (join : Join) → start < length t.states → IsKnown (length t.operations) stock → IsBitSet set f → ¬ IsBitSet set g
    → join.start ≡ start → IsShowing t start stock f o r q join.first → IsShowing t start stock g o r q join.second → IsCrossing t start stock set join
crosses t start set stock f g o r q join start_known known inside outside e first second = record {
  is_join = record {
    start_known = subst (λ (s : ℕ). s < length t.states) (sym e) start_known;
    first = record { known = λ x l. known x (omega (arith, l, first.within x)); has_place = first.has_place };
    second = record { known = λ x l. known x (omega (arith, l, second.within x)); has_place = second.has_place };
    same_operation = first.asked_is ∙ sym second.asked_is;
    same_pair = subst (λ (s : ℕ). pair_of_word t s join.first ≡ pair_of_word t s join.second) (sym e) (first.pair ∙ sym second.pair);
  };
  within = record { same_start = e; first = first.within; second = second.within };
  inside = subst (λ (x : ℕ). IsBitSet set x) (sym first.begins) inside;
  outside = subst (λ (x : ℕ). ¬ IsBitSet set x) (sym second.begins) outside;
}

-- ---- all asked operations

pub none_asked : (t : TypeTable) (start set k : ℕ) (stock : List ℕ) → IsKnown k stock → ((o : ℕ) → o < k → NoneShown t start stock set o) → NoneCrosses t start stock set
none_asked t start set k stock known none f g inside outside j =
    none j.0 (known j.0 (shows_asked t start stock f j.0 j.1 j.2 j.3)) f g j.1 j.2 inside outside j.3 j.4

pub not_asked : (t : TypeTable) (start set o : ℕ) (stock : List ℕ) → times o stock ≡ 0 → NoneShown t start stock set o
not_asked t start set o stock none f g r q inside outside s u = omega (arith, none, shows_asked t start stock f o r q s)

-- ---- the same stock in another order

pub crosses_other : (t : TypeTable) (start set : ℕ) (a b : List ℕ) (join : Join) → HaveSame a b → IsCrossing t start a set join → IsCrossing t start b set join
crosses_other t start set a b join same c = record { is_join = c.is_join; within = within_other start a b join same c.within; inside = c.inside; outside = c.outside }

pub none_other : (t : TypeTable) (start set : ℕ) (a b : List ℕ) → HaveSame a b → NoneCrosses t start a set → NoneCrosses t start b set
none_other t start set a b same none f g inside outside j =
    none f g inside outside (j.0, j.1, j.2, shows_same t start a b f j.0 j.1 j.2 (same_sym a b same) j.3, shows_same t start a b g j.0 j.1 j.2 (same_sym a b same) j.4)

-- what holds if there is nothing, where there is nothing
pub none_match : {X : Type 0} (P : Type 0) (Q : X → Type 0) (o : Option X) → ((x : X) → o ≢ Some x) → MatchOption o P Q → P
none_match P Q None n h = h
none_match P Q (Some x) n h = absurd (n x refl)

pub match_weaker : {X : Type 0} (P R : Type 0) (Q : X → Type 0) (o : Option X) → (P → R) → MatchOption o P Q → MatchOption o R Q
match_weaker P R Q None f h = f h
match_weaker P R Q (Some x) f h = h
