use Rattle.std.proofs.Common.{All, arith, subst, sym}
use Rattle.std.proofs.lemmas.List.Elements.{All-nil}
use Rattle.cn_joins.specs.Joins.{IsJoin}
use Rattle.cn_join_find.specs.Marks.{IsWitnessFor}
use Rattle.cn_join_find.proofs.CrossLemmas.{match_weaker}
use Rattle.cn_join_find.proofs.against.find_witness.Goals as goal

pub decide-requires-clause-none : goal.decide-requires-clause-none
decide-requires-clause-none g c κs within = subst (All (IsJoin c.args.table.now)) (sym c.new-joins.ensures.items) (All-nil (IsJoin c.args.table.now))

pub returns : goal.returns
returns g c =
    let t = c.args.table.now in
    let n = c.args.n in
    match_weaker _ _ (IsWitnessFor t n) c.in_ok-found.found (λ joined. c.joins_decide.ensures.sound t n n _ (omega (arith, c.requires.some)) (omega arith)
    (record { are_joins = joined.0; connect = joined.1; none_notices = λ two. absurd (omega (arith, two, c.requires.some)) })) c.in_ok-found.ensures
