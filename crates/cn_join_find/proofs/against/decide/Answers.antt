use Rattle.std.proofs.Common.{ℕ, ◌≡◌, ◌<◌, ◌++◌, ◌+◌, [], List, All, arith, inl, inr, subst, sym}
use Rattle.std.proofs.lemmas.List.Elements.{All-append, All-nil, All-weaker}
use Rattle.cn_table.specs.TypeTable.{TypeTable}
use Rattle.cn_joins.specs.Joins.{IsJoin, Join}
use Rattle.cn_outcomes.proofs.Packing.{below_or_last}
use Rattle.cn_join_find.specs.Marks.{IsWitnessFor}
use Rattle.cn_join_find.specs.Reached.{ConnectFrom, IsJoinFrom}
use Rattle.cn_join_find.proofs.CrossLemmas.{none_match}
use Rattle.cn_join_find.proofs.ReachLemmas.{all_more, more_connect, more_connect_behind}
use Rattle.cn_join_find.proofs.against.decide.Goals as goal

none_yet : (t : TypeTable) (start : ℕ) (joins : List Join) → joins ≡ [] → All (IsJoinFrom t start) joins
none_yet t start joins e = subst (All (IsJoinFrom t start)) (sym e) (All-nil (IsJoinFrom t start))

starts_next : (t : TypeTable) (n start : ℕ) (xs ys : List Join) → ((s : ℕ) → s < start → ConnectFrom t n s xs) → ConnectFrom t n start ys
    → (s : ℕ) → s < start + 1 → ConnectFrom t n s (xs ++ ys)
starts_next t n start xs ys before here s l stock known long differ = elim (below_or_last s start l) [
  | inl u ↦ more_connect xs ys s stock (before s u stock known long differ)
  | inr same ↦ more_connect_behind xs ys s stock (subst (λ (k : ℕ). ConnectFrom t n k ys) (sym same) here stock known long differ)
]

pub loop-start-init : goal.loop-start-init
loop-start-init g c = record { are = c.requires.none; connect = λ s l. absurd (omega (arith, l)) }

pub decide_from-requires-clause-joins : goal.decide_from-requires-clause-joins
decide_from-requires-clause-joins g c κs within = none_yet c.args.table.now c.loop-start.start c.new-more.result.items c.new-more.ensures.items

pub returns-in-Some : goal.returns-in-Some
returns-in-Some g c = rw c.in-Some.is at c.in_ok-found.ensures.split

pub loop-start-preserved : goal.loop-start-preserved
loop-start-preserved g c =
    let t = c.args.table.now in
    let n = c.args.n in
    let start = c.loop-start.start in
    let v = c.loop-start.invariant in
    let old = c.loop-start.joins.items in
    let told = c.in_ok-found.ensures in
    let from = c.decide_from.new.joins.items in
    let connect = none_match (ConnectFrom t n start from) (IsWitnessFor t n) c.in_ok-found.found c.in_default.not-Some told.split in
    let are = all_more t start c.new-more.result.items from told.more (none_yet t start c.new-more.result.items c.new-more.ensures.items) in
    record {
      are = subst (All (IsJoin t)) (sym c.in_ok-append.ensures.items) (All-append (IsJoin t) old from v.are (All-weaker (IsJoinFrom t start) (IsJoin t) (λ j is. is.0) from are));
      connect = subst (λ (l : List Join). (s : ℕ) → s < start + 1 → ConnectFrom t n s l) (sym c.in_ok-append.ensures.items) (starts_next t n start old from v.connect connect);
    }

pub returns : goal.returns
returns g c =
    let v = c.loop-start.invariant in
    (v.are, λ start known stock in_table long must. v.connect start (omega (arith, known, c.loop-start-test.false, c.states-start-end.ensures.number)) stock in_table long must.rows_differ)
