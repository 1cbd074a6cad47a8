use Rattle.std.proofs.Common.{All, subst, sym}
use Rattle.std.proofs.lemmas.List.Elements.{All-nil}
use Rattle.cn_joins.specs.Joins.{IsJoin}
use Rattle.cn_join_find.proofs.against.connecting_joins.Goals as goal

pub decide-requires-clause-none : goal.decide-requires-clause-none
decide-requires-clause-none g c κs within = subst (All (IsJoin c.args.table.now)) (sym c.new-joins.ensures.items) (All-nil (IsJoin c.args.table.now))

pub returns-in-Some : goal.returns-in-Some
returns-in-Some g c = let w = rw c.in-Some.is at c.in_ok-found.ensures in (_, w.0, w.1)

pub returns-in-None : goal.returns-in-None
returns-in-None g c = rw c.in-None.is at c.in_ok-found.ensures
