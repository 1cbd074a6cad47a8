use Rattle.std.proofs.Common.{◌-◌, refl}
use Rattle.cn_agree.proofs.Agreeing.{schedules_reach_consensus}
use Rattle.cn_agree.proofs.laws.sound_protocols_reach_consensus.Goals as goal

pub returns : goal.returns
returns g c = λ P n team sound short inputs schedule many all.
    schedules_reach_consensus P n (n - 1) team sound inputs schedule many all short refl
