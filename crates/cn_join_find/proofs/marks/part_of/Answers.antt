use Rattle.std.proofs.Common.{ℕ, ◌≤◌, List, IfOk, length, subst, sym}
use Rattle.std.specs.Prelude.{MatchOption}
use Rattle.cn_joins.specs.Joins.{Connect}
use Rattle.cn_stocks.specs.Words.{IsKnown}
use Rattle.cn_join_find.specs.Crossing.{IsPart}
use Rattle.cn_join_find.proofs.ReachLemmas.{none_more}
use Rattle.cn_join_find.proofs.marks.part_of.Goals as goal

pub is_connected-requires : goal.is_connected-requires
is_connected-requires c = (c.args.table.now, (c.args.start, (c.args.joins.now.items, c.requires.above)))

pub returns-then-is_connected : goal.returns-then-is_connected
returns-then-is_connected c = record {
  more = none_more c.args.table.now c.args.start c.args.joins.now.items;
  part = c.is_connected.ensures c.args.table.now c.args.start c.args.joins.now.items c.requires.above c.if-is_connected.true;
}

pub connect-requires-clause-known : goal.connect-requires-clause-known
connect-requires-clause-known c = subst (IsKnown (length c.args.table.now.operations)) (sym c.as_slice.ensures.value) c.requires.above.is_stock.known

pub connect-requires-clause-some : goal.connect-requires-clause-some
connect-requires-clause-some c = subst (λ (l : List ℕ). 1 ≤ length l) (sym c.as_slice.ensures.value) c.requires.some

pub returns : goal.returns
returns c = record {
  more = c.connect.ensures.more;
  part = subst (λ (l : List ℕ). IfOk c.connect.result (λ found. MatchOption found (Connect c.connect.new.joins.items c.args.start l) (IsPart c.args.table.now c.args.start l))) c.as_slice.ensures.value c.connect.ensures.part;
}
