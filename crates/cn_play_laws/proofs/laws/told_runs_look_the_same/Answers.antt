use Rattle.cn_play_laws.proofs.Told.{looks_the_same}
use Rattle.cn_play_laws.proofs.laws.told_runs_look_the_same.Goals as goal

pub returns : goal.returns
returns g c t P i d choice a b end h o k = looks_the_same t P i d choice a b end h o k
