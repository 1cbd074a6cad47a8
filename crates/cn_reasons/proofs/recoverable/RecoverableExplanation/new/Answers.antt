use Rattle.std.proofs.Common.{◌≤◌, ℕ, sym, subst}
use Rattle.cn_recover.specs.Recording.{IsRecording}
use Rattle.cn_reasons.proofs.Evidence.{limit_within, recording_at}
use Rattle.cn_reasons.proofs.recoverable.RecoverableExplanation.new.Goals as goal

pub witness_for-requires-clause-recording : goal.witness_for-requires-clause-recording
witness_for-requires-clause-recording g c κs within two =
    let t = c.args.table in
    let is = recording_at t (c.monotonicity.ensures t) c.greatest_limit-limit.result c.in_ok-number.number
    (limit_within _ _ _ c.greatest_limit-limit.ensures.taken).0 c.in_ok-number.ensures in
    subst (λ (n : ℕ). IsRecording t n) (sym c.witness_size.ensures) (is (subst (λ (n : ℕ). 2 ≤ n) c.witness_size.ensures two))
