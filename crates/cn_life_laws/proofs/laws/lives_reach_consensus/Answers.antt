use Rattle.cn_proto.specs.Plan.{processes_of}
use Rattle.cn_agree.proofs.Running.{no_stranger, right_count}
use Rattle.cn_crashes.proofs.LawsBelow.{Tournaments}
use Rattle.cn_lives.specs.Schedules.{named}
use Rattle.cn_life_laws.proofs.Reaching.{consensus}
use Rattle.cn_life_laws.proofs.laws.lives_reach_consensus.Goals as goal

pub returns : goal.returns
returns c =
    let below = c.tournaments_are_sound.ensures in
    let tournaments : Tournaments = record {
      outcomes = below.outcomes;
      sound = below.sound;
      short = below.short;
    } in
    record {
      schedule = λ p inputs events is many k. consensus p is tournaments inputs many events k;
      run = λ p inputs events is run.
          (let n = processes_of p.plan in
          consensus p is tournaments inputs (right_count n inputs (named events) run) events
          (no_stranger n inputs (named events) run));
    }
