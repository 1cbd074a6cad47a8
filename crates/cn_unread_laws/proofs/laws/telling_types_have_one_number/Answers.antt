use Rattle.cn_unread_laws.proofs.TellingTypes.{Laws, discerning_solves, from_unread, to_unread}
use Rattle.cn_unread_laws.proofs.TellingTypes.{with_reads, without_reads}
use Rattle.cn_unread_laws.proofs.laws.telling_types_have_one_number.Goals as goal

pub returns : goal.returns
returns g c =
    let laws : Laws = record {
      responses = c.telling_types_need_no_reads.ensures.responses;
      looks = c.telling_types_need_no_reads.ensures.looks;
      collects = c.collects_are_enough.ensures;
    } in record {
      solves = λ t n closed tells. (
        to_unread t (λ m two s. discerning_solves laws t closed tells m two
            ((c.solving_is_discerning.ensures t m closed two).0 s)) n,
        from_unread t n,
      );
      without_reads = λ t n closed tells. without_reads t
          (λ m two s. discerning_solves laws t closed tells m two
          ((c.solving_is_discerning.ensures t m closed two).0 s))
          (λ m P two known con. discerning_solves laws t closed tells m two
          (c.consensus_needs_a_witness.ensures t m P closed two known con)) n;
      with_reads = λ t n closed tells. with_reads t
          (λ m two s. discerning_solves laws t closed tells m two
          ((c.solving_is_discerning.ensures t m closed two).0 s))
          (λ m P two known con. discerning_solves laws t closed tells m two
          (c.consensus_needs_a_witness.ensures t m P closed two known con)) n;
    }
