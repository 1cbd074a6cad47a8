use Rattle.std.proofs.Common.{ℕ, ◌≤◌, List, length, subst, sym, true≢false}
use Rattle.cn_joins.specs.Joins.{Connect}
use Rattle.cn_stocks.specs.Words.{IsKnown}
use Rattle.cn_join_find.proofs.ReachLemmas.{none_more}
use Rattle.cn_join_find.proofs.marks.is_left.Goals as goal

pub is_connected-requires : goal.is_connected-requires
is_connected-requires c = (c.args.table.now, (c.args.start, (c.args.joins.now.items, c.requires.above)))

pub returns-then-is_connected : goal.returns-then-is_connected
returns-then-is_connected c = record {
  more = none_more c.args.table.now c.args.start c.args.joins.now.items;
  connected = λ e. c.is_connected.ensures c.args.table.now c.args.start c.args.joins.now.items c.requires.above c.if-is_connected.true;
}

pub returns-then-tells : goal.returns-then-tells
returns-then-tells c = record { more = none_more c.args.table.now c.args.start c.args.joins.now.items; connected = λ e. absurd (true≢false e) }

pub connect-requires-clause-known : goal.connect-requires-clause-known
connect-requires-clause-known c = subst (IsKnown (length c.args.table.now.operations)) (sym c.as_slice.ensures.value) c.requires.above.is_stock.known

pub connect-requires-clause-some : goal.connect-requires-clause-some
connect-requires-clause-some c = subst (λ (l : List ℕ). 1 ≤ length l) (sym c.as_slice.ensures.value) c.requires.some

pub returns-in-Some : goal.returns-in-Some
returns-in-Some c = record { more = c.in_ok-found.ensures.more; connected = λ e. absurd (true≢false e) }

pub returns-in-None : goal.returns-in-None
returns-in-None c = record {
  more = c.in_ok-found.ensures.more;
  connected = λ e. (
      let part = rw c.in-None.is at c.in_ok-found.ensures.part in
      subst (λ (l : List ℕ). Connect c.connect.new.joins.items c.args.start l) c.as_slice.ensures.value part);
}
