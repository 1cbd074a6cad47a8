use Rattle.cn_solvable.proofs.WitnessProtocols.{discerning_solves}
use Rattle.cn_solvable.proofs.laws.witness_is_enough.Goals as goal

pub returns : goal.returns
returns c = discerning_solves (record {
  decided = c.decidable_outcome_sets.ensures;
  canonical = c.coverage.ensures;
  sound = c.tournaments_are_sound.ensures.sound;
  short = c.tournaments_are_sound.ensures.short;
  agree = c.sound_protocols_reach_consensus.ensures;
})
