use Rattle.cn_crashes.proofs.LawsBelow.{Tournaments}
use Rattle.cn_life_laws.proofs.Reaching.{on_path}
use Rattle.cn_life_laws.proofs.laws.lives_end_on_their_paths.Goals as goal

pub returns : goal.returns
returns c =
    let below = c.tournaments_are_sound.ensures in
    let tournaments : Tournaments = record {
      outcomes = below.outcomes;
      sound = below.sound;
      short = below.short;
    } in
    record {
      lives = λ p inputs es us is many ke ku q lq never often.
          on_path p is tournaments inputs many es us ke ku q lq never often;
    }
