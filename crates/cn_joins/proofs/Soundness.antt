-- Joins that connect a stock leave no split.
use Rattle.std.proofs.Common.{◌≡◌, ℕ, List, refl, sym, ◌∙◌, subst, Bool, true, false, true≢false, All}
use Rattle.std.proofs.lemmas.List.Elements.{All-contains}
use Rattle.cn_table.specs.TypeTable.{TypeTable}
use Rattle.cn_stocks.specs.Splits.{AreJoined, StockSplits}
use Rattle.cn_stocks.specs.Words.{Shows}
use Rattle.cn_stocks.proofs.SplitLemmas.{joined_sym}
use Rattle.cn_joins.specs.Joins.{Connect, IsJoin, IsJoinWithin, Join, KeepsApart, asked, beginning, pair_of_word}
use Rattle.cn_joins.proofs.PlacedWords.{shows}

-- a join within a stock joins the operations with which its words begin
pub joined_by : (t : TypeTable) (start : ℕ) (stock : List ℕ) (join : Join) → IsJoin t join → IsJoinWithin start stock join
    → AreJoined t start stock (beginning join.first) (beginning join.second)
joined_by t start stock join is within =
    let pair = pair_of_word t join.start join.first in
    let first : Shows t join.start stock (beginning join.first) (asked join.first) pair.0 pair.1 = shows t join.start stock join.first is.first.has_place within.first in
    let second = shows t join.start stock join.second is.second.has_place within.second in
    let same_pair : Shows t join.start stock (beginning join.second) (asked join.second) pair.0 pair.1 =
    subst (λ (p : ℕ × ℕ). Shows t join.start stock (beginning join.second) (asked join.second) p.0 p.1) (sym is.same_pair) second in
    let same : Shows t join.start stock (beginning join.second) (asked join.first) pair.0 pair.1 =
    subst (λ (o : ℕ). Shows t join.start stock (beginning join.second) o pair.0 pair.1) (sym is.same_operation) same_pair in
    let both : AreJoined t join.start stock (beginning join.first) (beginning join.second) = (asked join.first, pair.0, pair.1, first, same) in
    subst (λ (s : ℕ). AreJoined t s stock (beginning join.first) (beginning join.second)) within.same_start both

pub equal_from : (a b : Bool) → (a ≡ true → b ≡ false → ⊥) → (b ≡ true → a ≡ false → ⊥) → a ≡ b
equal_from true true x y = refl
equal_from true false x y = absurd (x refl refl)
equal_from false true x y = absurd (y refl refl)
equal_from false false x y = refl

pub no_split : (t : TypeTable) (start : ℕ) (stock : List ℕ) (joins : List Join) → All (IsJoin t) joins → Connect joins start stock → ¬ StockSplits t start stock
no_split t start stock joins are connect s =
    true≢false (sym s.inside.2 ∙ (connect s.chosen keeps s.inside.0 s.outside.0 s.inside.1 s.outside.1 ∙ s.outside.2))
  where
    keeps : KeepsApart s.chosen joins start stock
    keeps join has within =
        let f = beginning join.first in
        let g = beginning join.second in
        let j = joined_by t start stock join (All-contains (IsJoin t) joins join are has) within in
        equal_from (s.chosen f) (s.chosen g) (λ yes no. s.apart f g yes no j) (λ yes no. s.apart g f yes no (joined_sym t start stock f g j))
