use Rattle.cn_log.proofs.StateLemmas.AtomicEvents.{atomic_event}
use Rattle.cn_log.proofs.laws.atomic_events.Goals as goal

pub returns : goal.returns
returns c = λ o events event opening may.
    atomic_event (record {
      consensus = c.rounds_keep_consensus.ensures.consensus;
      fixed = c.rounds_keep_consensus.ensures.fixed;
      begun = c.rounds_keep_consensus.ensures.begun;
      sizes = c.rounds_keep_consensus.ensures.sizes;
      sound_plans = c.plan_protocols_are_sound.ensures.sound;
      short_paths = c.plan_protocols_are_sound.ensures.short;
    }) c.atomic_steps.ensures o opening events event may
