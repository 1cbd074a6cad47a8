use Rattle.cn_proto.proofs.WitnessTournaments as tournaments
use Rattle.cn_proto.proofs.laws.tournaments_are_sound.Goals as goal

pub returns : goal.returns
returns c = record {
  outcomes = tournaments.run_outcome;
  sound = λ t c n judge is. tournaments.sound t c n is judge;
  short = tournaments.short;
}
