-- Sets that meet, step by step.
use Rattle.std.proofs.Common.{◌≡◌, ℕ, zero, suc, replicate, ◌^◌, ◌+◌, ◌<◌, ◌⊎◌, inl, inr, ◌↔◌, List, length, get_or, bit_and, sym, ap, ◌∙◌, subst, arith, Bool, true, not, nat_eq, true≢false}
use Rattle.std.specs.Prelude.{IsBitSet, IsTrue}
use Rattle.cn_outcomes.proofs.BitSets.{shared}
use Rattle.cn_outcomes.proofs.LastProcess.{zero_has_none}
use Rattle.cn_outcomes.proofs.Packing.{below_or_last}
use Rattle.cn_outcomes.proofs.Unions.{nothing_beyond}
use Rattle.cn_stocks.proofs.StockLemmas.{before_or_behind}
use Rattle.cn_stocks.specs.Meetings.{AreGathered, FallApart, HasAt, IsClosed, IsOutside}
use Rattle.cn_stocks.proofs.SplitLemmas.{either, not_false, not_no, not_true}

-- one set more
pub gathered_union : (sets : List ℕ) (first set other more : ℕ) → AreGathered sets first set → ((q : ℕ) → IsBitSet more q ↔ (IsBitSet set q ⊎ HasAt sets other q))
    → (q : ℕ) × HasAt sets other q × IsBitSet set q → AreGathered sets first more
gathered_union sets first set other more g m common chosen sure closed q b = elim ((m q).0 b) [
  | inl old ↦ g chosen sure closed q old
  | inr new ↦ (
      let here = g chosen sure closed common.0 common.2 in
      (other, closed here.0 other common.0 here.1 here.2 common.1, new)
      )
]

pub gathered_first : (sets : List ℕ) (first : ℕ) → AreGathered sets first (get_or sets first 0)
gathered_first sets first chosen sure closed q b = (first, sure, b)

-- the set at the place meets this one
meets_set : List ℕ → ℕ → ℕ → Bool
meets_set sets set f = not (nat_eq (bit_and set (get_or sets f 0)) 0)

meets_iff : (sets : List ℕ) (set f : ℕ) → set < 2 ^ 16 → IsTrue (meets_set sets set f) ↔ ((q : ℕ) × IsBitSet set q × HasAt sets f q)
unfolding meets_set
meets_iff sets set f l = shared set (get_or sets f 0) l

pub apart_by : (sets : List ℕ) (first set : ℕ) → set < 2 ^ 16 → (q : ℕ) × HasAt sets first q → ((q : ℕ) → HasAt sets first q → IsBitSet set q) → IsClosed sets set
    → (g : ℕ) × IsOutside sets set g → FallApart sets
apart_by sets first set l some has closed out =
    let meets = meets_set sets set in record {
      chosen = meets;
      inside = (first, (meets_iff sets set first l).1 (some.0, has some.0 some.1, some.1), some);
      outside = (
        out.0,
        elim (either (meets out.0)) [
          | inl picked ↦ absurd (let q = (meets_iff sets set out.0 l).0 picked in out.1.apart q.0 q.2 q.1)
          | inr left_out ↦ left_out
        ],
        out.1.some,
      );
      apart = λ f g q picked left_out a b.
          let common = (meets_iff sets set f l).0 picked in
          true≢false (sym ((meets_iff sets set g l).1 (q, closed f common.0 q common.2 common.1 a, b)) ∙ left_out);
    }

other_apart : (sets : List ℕ) → FallApart sets → FallApart sets
other_apart sets a = record {
  chosen = λ f. not (a.chosen f);
  inside = (a.outside.0, not_true (a.chosen a.outside.0) a.outside.1, a.outside.2);
  outside = (a.inside.0, ap not a.inside.1, a.inside.2);
  apart = λ f g q picked left_out x y. a.apart g f q (not_no (a.chosen g) left_out) (not_false (a.chosen f) picked) y x;
}

outside_in : (sets : List ℕ) (first set : ℕ) → AreGathered sets first set → (a : FallApart sets) → a.chosen first ≡ true → (g : ℕ) × IsOutside sets set g
outside_in sets first set gathered a sure =
    let closed : (f g q : ℕ) → a.chosen f ≡ true → HasAt sets f q → HasAt sets g q
    → a.chosen g ≡ true = λ f g q picked x y. elim (either (a.chosen g)) [ inl e ↦ e | inr left_out ↦ absurd (a.apart f g q picked left_out x y) ] in (
      a.outside.0,
      record {
        some = a.outside.2;
        apart = λ q h b. (let f = gathered a.chosen sure closed q b in a.apart f.0 a.outside.0 q f.1 a.outside.1 f.2 h);
      },
    )

pub outside_of : (sets : List ℕ) (first set : ℕ) → AreGathered sets first set → FallApart sets → (g : ℕ) × IsOutside sets set g
unfolding other_apart
outside_of sets first set gathered a = elim (either (a.chosen first)) [
  | inl picked ↦ outside_in sets first set gathered a picked
  | inr left_out ↦ outside_in sets first set gathered (other_apart sets a) (not_true (a.chosen first) left_out)
]

-- no set is beyond the last place
pub place_within : (n : ℕ) (sets : List ℕ) (f q : ℕ) → length sets ≡ n → HasAt sets f q → f < n
place_within n sets f q long h = elim (before_or_behind f n) [ inl l ↦ l | inr l ↦ absurd (nothing_beyond sets n f q long l h) ]

-- what is gathered of the places so far
pub one_more : (P : ℕ → Type 0) (k : ℕ) (here more : Type 0) → here ↔ ((f : ℕ) × (f < k) × P f) → more ↔ (here ⊎ P k) → more ↔ ((f : ℕ) × (f < k + 1) × P f)
one_more P k here more h m = (
  λ x. elim (m.0 x) [ inl a ↦ (let f = h.0 a in (f.0, omega (arith, f.1), f.2)) | inr b ↦ (k, omega arith, b) ],
  λ f. m.1 (elim (below_or_last f.0 k f.1) [ inl l ↦ inl (h.1 (f.0, l, f.2)) | inr e ↦ inr (subst P e f.2) ]),
)

pub none_held : (n f q : ℕ) → ¬ HasAt (replicate n 0) f q
none_held zero f q h = zero_has_none q h
none_held (suc n) zero q h = zero_has_none q h
none_held (suc n) (suc f) q h = none_held n f q h
