use Rattle.cn_headline.proofs.NumbersTold.{read_whole}
use Rattle.cn_headline.proofs.TypeNumbers.{line_has_both, recoverable_words_tell}
use Rattle.cn_headline.proofs.TypeNumbers.{tells_recoverable, tells_recoverable_up_to}
use Rattle.cn_headline.proofs.TypeNumbers.{words_tell, words_text}
use Rattle.cn_headline.proofs.laws.recoverable_consensus_number.Goals as goal

pub returns : goal.returns
returns g c =
    let spelled = c.spelled_tables.ensures in
    let closed = c.tables_are_closed.ensures in
    let first = c.number_is_the_consensus_number.ensures in
    let enough = c.witness_is_enough.ensures in
    let number = c.number_is_the_recoverable_consensus_number.ensures in
    let recording = c.recording_is_enough.ensures in
    record {
      up_to = tells_recoverable_up_to closed number.found number.none number.at_least recording;
      number = tells_recoverable closed number.found number.none number.at_least recording;
      line = λ bytes t limit line words recoverable read is text e.
          let table = spelled bytes t (read_whole bytes t read) in
          let both = line_has_both t limit line words recoverable
          (λ written own. words_text closed first.found first.none first.at_least enough t limit written table is.in_range own)
          is text e in (
            words_tell closed first.found first.none first.at_least enough t limit words table is.in_range both.0,
            recoverable_words_tell closed number.found number.none number.at_least recording t limit
                recoverable table is.in_range both.1,
          );
    }
