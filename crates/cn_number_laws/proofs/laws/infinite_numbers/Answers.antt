use Rattle.std.proofs.Common.{◌↔◌}
use Rattle.cn_table.specs.TypeTable.{TypeTable}
use Rattle.cn_stocks.specs.Lasting.{IsAlwaysDiscerning}
use Rattle.cn_number_laws.specs.LastingStarts.{SomeLast}
use Rattle.cn_number_laws.proofs.Orbits.{always_last, from_one, some_or_none}
use Rattle.cn_number_laws.proofs.laws.infinite_numbers.Goals as goal

pub returns : goal.returns
returns c =
    let exactly : (t : TypeTable) → SomeLast t ↔ IsAlwaysDiscerning t = λ t. (
      λ l. c.lasting_operations_decide.ensures.always t l.0 l.1.0 l.1.1 l.1.2,
      always_last t (c.lasting_operations_decide.ensures.never t),
    ) in
    record {
      from_one = from_one;
      decided = some_or_none;
      discerning = exactly;
      recording = λ t. (
        λ l. (c.no_greatest_together.ensures t).1 ((exactly t).0 l),
        λ r. (exactly t).1 ((c.no_greatest_together.ensures t).0 r),
      );
    }
