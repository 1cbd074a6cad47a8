-- Evidence by joins decides whether a type is n-discerning.
use Rattle.std.proofs.Common.{◌≡◌, ℕ, zero, suc, ◌+◌, ◌-◌, ◌<◌, ◌≤◌, inl, inr, List, length, sym, subst, arith, All}
use Rattle.cn_table.specs.TypeTable.{TypeTable}
use Rattle.cn_choice.specs.Discerning.{IsDiscerning}
use Rattle.cn_choice.proofs.NumberLemmas.FewerProcesses.{discerning_below}
use Rattle.cn_stocks.specs.Splits.{SomeSplits}
use Rattle.cn_stocks.specs.Words.{IsKnown}
use Rattle.cn_stocks.proofs.Times.{same_or}
use Rattle.cn_stocks.proofs.Witnesses.{to_splits, to_witness}
use Rattle.cn_joins.specs.Evidence.{IsEvidenceAgainst, SomeNotices}
use Rattle.cn_joins.specs.Joins.{Connect, IsJoin, Join}
use Rattle.std.proofs.lemmas.List.Elements.{Contains-append_left, Contains-append_right}
use Rattle.cn_joins.proofs.CopyLemmas.{to_connect}
use Rattle.cn_joins.proofs.Gathering.{Grows, for_each, for_each_list}
use Rattle.cn_joins.proofs.Joined.{connecting}
use Rattle.cn_joins.proofs.Soundness.{no_split}
use Rattle.cn_joins.proofs.TwoProcesses.{two}

-- ---- from evidence

none_splits : (t : TypeTable) (n : ℕ) (joins : List Join) → 2 ≤ n → IsEvidenceAgainst t n joins → ¬ SomeSplits t n
none_splits t n joins l e s =
    let from = to_connect t n s.0 l e.none_notices s.1 s.2 in
    no_split t s.0 from.0 joins e.are_joins (e.connect s.0 s.1 from.0 from.1 from.2 from.3) from.4

pub refuted : (t : TypeTable) (n : ℕ) (joins : List Join) → 2 ≤ n → IsEvidenceAgainst t n joins → ¬ IsDiscerning t n
refuted t n joins l e d = elim (same_or n 2) [
  | inl same ↦ elim ((two t).0 (subst (IsDiscerning t) same d)) [
    | inl s ↦ none_splits t n joins l e (subst (SomeSplits t) (sym same) s)
    | inr s ↦ e.none_notices same s
  ]
  | inr other ↦ none_splits t n joins l e (to_splits t n (omega (arith, l, other)) d)
]

-- what is discerning for more is so for fewer
down : (t : TypeTable) (n more : ℕ) → 2 ≤ n → IsDiscerning t (n + more) → IsDiscerning t n
down t n zero l d = let e : n + 0 ≡ n = omega arith in subst (IsDiscerning t) e d
down t n (suc more) l d = let e : n + suc more - 1 ≡ n + more = omega arith in down t n more l (subst (IsDiscerning t) e (discerning_below t (n + suc more) (omega (arith, l)) d))

pub sound : (t : TypeTable) (n m : ℕ) (joins : List Join) → 2 ≤ n → n ≤ m → IsEvidenceAgainst t n joins → ¬ IsDiscerning t m
sound t n m joins l u e d = let same : m ≡ n + (m - n) = omega (arith, u) in refuted t n joins l e (down t n (m - n) l (subst (IsDiscerning t) same d))

-- ---- to evidence

more_connect : (start : ℕ) (stock : List ℕ) → Grows (λ joins. Connect joins start stock)
more_connect start stock = record {
  left = λ xs ys c chosen keeps. c chosen (λ join has. keeps join (Contains-append_left xs ys join has));
  right = λ xs ys c chosen keeps. c chosen (λ join has. keeps join (Contains-append_right xs ys join has));
}

module _ (t : TypeTable) (n : ℕ) (none : ¬ SomeSplits t n) where
  of_state : (start : ℕ) → start < length t.states
      → (xs : List Join) × All (IsJoin t) xs × ((stock : List ℕ) → length stock ≡ n → IsKnown (length t.operations) stock → Connect xs start stock)
  of_state start known = for_each_list (IsJoin t) (length t.operations) n (λ stock xs. Connect xs start stock) (λ stock. more_connect start stock)
      (λ stock long in_table. connecting t start stock known in_table (λ s. none (start, known, (stock, in_table, long, s))))

  of_all : (xs : List Join) × All (IsJoin t) xs × ((start : ℕ) → start < length t.states → (stock : List ℕ) → length stock ≡ n → IsKnown (length t.operations) stock → Connect xs start stock)
  of_all = for_each (IsJoin t) (λ start xs. (stock : List ℕ) → length stock ≡ n → IsKnown (length t.operations) stock → Connect xs start stock)
      (λ start. record {
        left = λ xs ys h stock long in_table. (more_connect start stock).left xs ys (h stock long in_table);
        right = λ xs ys h stock long in_table. (more_connect start stock).right xs ys (h stock long in_table);
      }) (length t.states) of_state

  evidence : (n ≡ 2 → ¬ SomeNotices t) → (joins : List Join) × IsEvidenceAgainst t n joins
  evidence quiet = (
    of_all.0,
    record {
      are_joins = of_all.1;
      connect = λ start known stock in_table long must. of_all.2 start known stock long in_table;
      none_notices = quiet;
    },
  )

pub complete : (t : TypeTable) (n : ℕ) → 2 ≤ n → ¬ IsDiscerning t n → (joins : List Join) × IsEvidenceAgainst t n joins
complete t n l not_so =
    evidence t n (λ s. not_so (to_witness t n s)) (λ same s. not_so (subst (IsDiscerning t) (sym same) ((two t).1 (inr s))))
