use Rattle.std.proofs.Common.{◌≡◌, ◌+◌, ◌-◌, ℕ, arith, subst}
use Rattle.cn_recover.specs.Recording.{IsRecording}
use Rattle.cn_recover.proofs.Recordings.{recording_discerns}
use Rattle.cn_recover.proofs.laws.no_greatest_together.Goals as goal

pub returns : goal.returns
returns c t = (
  λ r n l. recording_discerns t n (r n l),
  λ d n l.
      let same : n + 2 - 2 ≡ n = omega arith in
      subst (λ (m : ℕ). IsRecording t m) same (c.at_least_the_number_less_two.ensures.recording t (n + 2) (omega (arith, l)) (d (n + 2) (omega (arith, l)))),
)
