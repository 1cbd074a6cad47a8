use Rattle.cn_choice.specs.Canonical.{raw_choice_of}
use Rattle.cn_reasons.proofs.SightLemmas.{sees_exact}
use Rattle.cn_reasons.proofs.laws.told_sights.Goals as goal

pub returns : goal.returns
returns c t choice team j r q = sees_exact t choice team j (c.team_orders.ensures.listed choice team j) (λ order. c.pair_in_order.ensures t (raw_choice_of choice) order j) r q
