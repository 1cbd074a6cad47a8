use Rattle.cn_crashes.proofs.LawsBelow.{Renumberings, Tournaments}
use Rattle.cn_crashes.proofs.RecordingTypes.{recording_solves}
use Rattle.cn_crashes.proofs.laws.recording_is_enough.Goals as goal

pub returns : goal.returns
returns c =
    let laws = c.tournaments_are_sound.ensures in
    let tournaments : Tournaments = record {
      outcomes = laws.outcomes;
      sound = laws.sound;
      short = laws.short;
    } in
    let renumberings : Renumberings = record {
      some = c.renumbering.ensures.some;
      exchanged = c.renumbering.ensures.exchanged;
    } in
    recording_solves tournaments renumberings c.coverage.ensures
