use Rattle.cn_unread_laws.proofs.ViewProtocols.{views_solve}
use Rattle.cn_unread_laws.proofs.laws.views_are_enough.Goals as goal

pub returns : goal.returns
returns c = views_solve (record {
  decided = c.decidable_outcome_sets.ensures;
  canonical = c.coverage.ensures;
  sound = c.tournaments_are_sound.ensures.sound;
  short = c.tournaments_are_sound.ensures.short;
  agree = c.sound_protocols_reach_consensus.ensures;
})
