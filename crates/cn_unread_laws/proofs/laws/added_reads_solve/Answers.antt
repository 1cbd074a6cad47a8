use Rattle.cn_unread_laws.proofs.ReadNumbers.{number_with_reads}
use Rattle.cn_unread_laws.proofs.laws.added_reads_solve.Goals as goal

pub returns : goal.returns
returns g c = record {
  solves = λ t u n closed adds two. (
    λ s. c.views_are_enough.ensures u n (c.added_reads.ensures.closed t u closed adds) two
        (c.added_reads.ensures.views t u n closed adds
        ((c.solving_is_discerning.ensures t n closed two).0 s)),
    λ s. (c.solving_is_discerning.ensures t n closed two).1
        ((c.added_reads.ensures.discerning t u n closed adds).1
        ((c.solving_is_discerning.ensures u n (c.added_reads.ensures.closed t u closed adds) two).0
        (s.0, s.1, s.3))),
  );
  number = λ t u n closed adds. number_with_reads t u adds.same_states
      (λ m two s. c.views_are_enough.ensures u m (c.added_reads.ensures.closed t u closed adds) two
      (c.added_reads.ensures.views t u m closed adds
      ((c.solving_is_discerning.ensures t m closed two).0 s)))
      (λ m P two known con. (c.solving_is_discerning.ensures t m closed two).1
      ((c.added_reads.ensures.discerning t u m closed adds).1
      (c.consensus_needs_a_witness.ensures u m P (c.added_reads.ensures.closed t u closed adds) two
      known con))) n;
}
