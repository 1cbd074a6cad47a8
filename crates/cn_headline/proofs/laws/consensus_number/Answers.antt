use Rattle.cn_headline.proofs.NumbersTold.{read_whole}
use Rattle.cn_headline.proofs.TypeNumbers.{line_has, tells, tells_up_to, words_tell}
use Rattle.cn_headline.proofs.laws.consensus_number.Goals as goal

pub returns : goal.returns
returns g c =
    let spelled = c.spelled_tables.ensures in
    let closed = c.tables_are_closed.ensures in
    let number = c.number_is_the_consensus_number.ensures in
    let enough = c.witness_is_enough.ensures in
    record {
      finding = λ t limit f table two is.
          tells_up_to closed number.found number.none number.at_least enough t limit f.number table two is.number;
      number = tells closed number.found number.none number.at_least enough;
      line = λ bytes t limit line words read is e.
          words_tell closed number.found number.none number.at_least enough t limit words
          (spelled bytes t (read_whole bytes t read)) is.in_range (line_has t limit line words is e);
    }
