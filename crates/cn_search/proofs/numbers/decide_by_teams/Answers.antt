use Rattle.std.proofs.Common.{refl, subst, IsTrue}
use Rattle.cn_search.proofs.NumberLemmas.{discerning_by_witness, known_by_witness}
use Rattle.cn_search.proofs.numbers.decide_by_teams.Goals as goal

pub returns-clause-decided : goal.returns-clause-decided
returns-clause-decided g c =
    let t = c.args.table.now in
    let n = c.args.n in
    rw c.is_some.ensures (discerning_by_witness t n (c.live_choices_decide.ensures.refuted t n) (c.live_choices_decide.ensures.shown t n) c.in_ok-witness.witness (c.in_ok-witness.ensures.all refl))

pub returns-clause-witness : goal.returns-clause-witness
returns-clause-witness g c some =
    known_by_witness c.args.table.now c.args.n c.in_ok-witness.witness (c.in_ok-witness.ensures.all refl) (subst IsTrue c.is_some.ensures some)
