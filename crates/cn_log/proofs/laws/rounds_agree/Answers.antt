use Rattle.cn_log.proofs.InvariantLemmas.Rounds.{agrees_of, begun_of, sizes_of}
use Rattle.cn_log.proofs.laws.rounds_agree.Goals as goal

pub returns-clause-agrees : goal.returns-clause-agrees
returns-clause-agrees c = λ o plan. agrees_of (record {
  consensus = c.rounds_keep_consensus.ensures.consensus;
  fixed = c.rounds_keep_consensus.ensures.fixed;
  begun = c.rounds_keep_consensus.ensures.begun;
  sizes = c.rounds_keep_consensus.ensures.sizes;
  sound_plans = c.plan_protocols_are_sound.ensures.sound;
  short_paths = c.plan_protocols_are_sound.ensures.short;
}) o plan

pub returns-clause-begun : goal.returns-clause-begun
returns-clause-begun c = λ o plan. begun_of (record {
  consensus = c.rounds_keep_consensus.ensures.consensus;
  fixed = c.rounds_keep_consensus.ensures.fixed;
  begun = c.rounds_keep_consensus.ensures.begun;
  sizes = c.rounds_keep_consensus.ensures.sizes;
  sound_plans = c.plan_protocols_are_sound.ensures.sound;
  short_paths = c.plan_protocols_are_sound.ensures.short;
}) o plan

pub returns-clause-sizes : goal.returns-clause-sizes
returns-clause-sizes c = λ o plan. sizes_of (record {
  consensus = c.rounds_keep_consensus.ensures.consensus;
  fixed = c.rounds_keep_consensus.ensures.fixed;
  begun = c.rounds_keep_consensus.ensures.begun;
  sizes = c.rounds_keep_consensus.ensures.sizes;
  sound_plans = c.plan_protocols_are_sound.ensures.sound;
  short_paths = c.plan_protocols_are_sound.ensures.short;
}) o plan
