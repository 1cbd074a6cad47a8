use Rattle.cn_stock_check.proofs.lasting.are_lasting_sets.Goals as goal

pub returns : goal.returns
returns c = (
  λ y.
      let pair = c.is_pair.ensures.0 c.if-not-is_pair.false in
      let known = c.are_all_known.ensures.0 c.if-not-are_all_known.false in
      let later = c.are_later_right.ensures.0 c.if-not-are_later_right.false in
      let first = c.are_first_right.ensures.0 y in
      record {
        start_known = pair.0;
        many_known = pair.1;
        single_known = pair.2;
        different = pair.3;
        alone_known = known.0;
        behind_known = known.1;
        first_known = known.2;
        alone = later.0;
        alone_closed = later.1;
        behind = later.2;
        behind_closed = later.3;
        first = first.0;
        first_closed = first.1;
        apart = first.2;
      },
  λ are. c.are_first_right.ensures.1 (are.first, are.first_closed, are.apart),
)
