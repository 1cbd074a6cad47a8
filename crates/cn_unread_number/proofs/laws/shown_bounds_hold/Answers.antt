use Rattle.cn_unread_number.proofs.Numbers.{Laws, are_bounds}
use Rattle.cn_unread_number.proofs.laws.shown_bounds_hold.Goals as goal

pub returns : goal.returns
returns c =
    let laws : Laws = record {
      discerning = c.defended_choices_are_witnesses.ensures.numbers;
      traps = c.listed_traps_refute.ensures;
      responses = c.telling_types_need_no_reads.ensures.responses;
      looks = c.telling_types_need_no_reads.ensures.looks;
    } in
    λ t low high bounds table shown. are_bounds laws t (c.tables_are_closed.ensures t table) low high
    bounds shown
