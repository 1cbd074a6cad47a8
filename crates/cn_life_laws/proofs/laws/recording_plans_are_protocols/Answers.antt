use Rattle.cn_crashes.proofs.LawsBelow.{Tournaments}
use Rattle.cn_life_laws.proofs.Reaching.{bound, protocol}
use Rattle.cn_life_laws.proofs.laws.recording_plans_are_protocols.Goals as goal

pub returns : goal.returns
returns c =
    let below = c.tournaments_are_sound.ensures in
    let tournaments : Tournaments = record {
      outcomes = below.outcomes;
      sound = below.sound;
      short = below.short;
    } in
    record {
      consensus = λ p is. protocol p is tournaments;
      bound = λ p is. bound p is tournaments;
    }
