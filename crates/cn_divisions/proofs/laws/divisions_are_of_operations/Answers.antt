use Rattle.std.proofs.Common.{inl, inr, arith}
use Rattle.cn_divisions.proofs.Links.{connected_by_operations, joined_down, twins_of_three}
use Rattle.cn_divisions.proofs.Twins.{twins_connected}
use Rattle.cn_divisions.proofs.laws.divisions_are_of_operations.Goals as goal

pub returns-clause-joined : goal.returns-clause-joined
returns-clause-joined c t M n sight stock p q alike same joined = joined_down t M n sight alike stock same p q joined

pub returns-clause-connected : goal.returns-clause-connected
returns-clause-connected c t M n sight stock p q many alike same l u = connected_by_operations t M n sight alike stock same (twins_of_three t M n many) p q l u

pub returns-clause-two : goal.returns-clause-two
returns-clause-two c t M o e f =
    let both = twins_connected t M o e f 0 1 (omega arith) (omega arith) in (
      λ x. elim (both.0 x) [ inl same ↦ absurd (omega (arith, same)) | inr r ↦ r ],
      λ r. both.1 (inr r),
    )
