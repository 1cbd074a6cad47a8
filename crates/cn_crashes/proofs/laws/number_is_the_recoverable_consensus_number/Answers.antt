use Rattle.cn_crashes.proofs.RecoverableNumbers as numbers
use Rattle.cn_crashes.proofs.laws.number_is_the_recoverable_consensus_number.Goals as goal

pub returns : goal.returns
returns g c =
    let enough = c.recording_is_enough.ensures in
    let above = c.none_above_the_recoverable_number.ensures in
    record {
      found = numbers.found enough above.found;
      none = numbers.none above.none;
      at_least = numbers.at_least enough;
    }
