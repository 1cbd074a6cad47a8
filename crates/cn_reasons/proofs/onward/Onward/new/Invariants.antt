use Rattle.cn_stocks.specs.Each.{EachAt}
use Rattle.cn_reasons.specs.Onward.{AreEnds}
use Rattle.cn_reasons.proofs.onward.Onward.new.Given as goal

-- the rows so far, and the next one
abbrev pub invariant-loop-count : goal.invariant-loop-count
invariant-loop-count l = record {
  rows : EachAt (λ count row. AreEnds l.table count row) l.count l.rows.items;
  row : AreEnds l.table l.count l.row;
}
