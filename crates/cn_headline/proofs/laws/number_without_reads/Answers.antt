use Rattle.cn_headline.proofs.NumbersTold.{read_whole}
use Rattle.cn_headline.proofs.UnreadLines.{known, same_bounds_text}
use Rattle.cn_headline.proofs.laws.number_without_reads.Goals as goal

pub returns : goal.returns
returns g c = record {
  told = λ bytes t limit is_asked told bounds read is asked. c.found_bounds_hold.ensures t bounds
      (c.spelled_tables.ensures bytes t (read_whole bytes t read))
      (known t limit is_asked told is bounds asked);
  line = λ bytes t limit is_asked told found bounds read is asked small less same.
      c.bounds_are_told.ensures t found bounds (c.spelled_tables.ensures bytes t (read_whole bytes t read))
      (known t limit is_asked told is found asked) small less
      (same_bounds_text t limit is_asked told is found asked bounds same);
}
