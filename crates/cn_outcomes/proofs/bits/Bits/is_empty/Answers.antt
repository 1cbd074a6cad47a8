use Rattle.std.proofs.lemmas.Bool.{eqb-true, eq-eqb}
use Rattle.cn_outcomes.proofs.MemberLemmas.{empty_none}
use Rattle.cn_outcomes.proofs.bits.Bits.is_empty.Goals as goal

pub returns-clause-none : goal.returns-clause-none
returns-clause-none c =
    let same = empty_none c.self.inside.0 in
    rw (← c.self.view_is) (λ t. same.0 (eqb-true c.self.inside.0 0 t), λ n. eq-eqb c.self.inside.0 0 (same.1 n))
