use Rattle.std.proofs.Common.{ℕ, ◌≡◌, ◌+◌, ◌-◌, ◌++◌, List, arith, length, replicate, subst}
use Rattle.cn_telling.specs.declared.cells.Block.{Block}
use Rattle.cn_telling.specs.Cells.{AreCells, LinksFrom}
use Rattle.cn_telling.proofs.CellLemmas.{cells_next, length_more, none_appended, replicate_last, underway_first, up_to_more, within_long}
use Rattle.cn_telling.proofs.cells.add_operation.Goals as goal

pub loop-copy-init : goal.loop-copy-init
loop-copy-init c = record {
  cells_are = λ whole are. subst (λ (all : List ℕ). AreCells all c.args.cells.now.items) (none_appended whole) are;
  inside = omega (arith, c.requires.cells.1.some);
  block = λ i s from at x j other link. omega arith;
}

pub add_to-requires-clause-underway : goal.add_to-requires-clause-underway
add_to-requires-clause-underway c =
    let i = c.loop-copy.invariant in
    let whole = c.requires.cells.0 in
    let k = c.loop-copy._copy in
    let list = c.loop-copy.cells.items in
    let b : Block = record { first = c.loop-copy.first; size = c.in_ok-end.end - c.loop-copy.first; operation = c.args.operation } in
    underway_first b (whole ++ replicate k c.args.operation) list (i.cells_are whole c.requires.cells.1) (up_to_more c.args.operation k whole c.requires.cells.2) c.requires.operation i.inside
    (omega (arith, i.inside, c.in_ok-end.ensures, c.len.ensures, c.loop-copy.cells.ok.0)) i.block

pub add_to-requires-clause-short : goal.add_to-requires-clause-short
add_to-requires-clause-short c i items at =
    let whole = c.requires.cells.0 in
    let k = c.loop-copy._copy in
    let all = whole ++ replicate k c.args.operation in
    let long = within_long all items ((c.loop-copy.invariant.cells_are whole c.requires.cells.1).within i items at) in
    omega (arith, long, length_more whole k c.args.operation, c.requires.cells.3, c.loop-copy-test.true)

pub loop-copy-preserved : goal.loop-copy-preserved
loop-copy-preserved c =
    let i = c.loop-copy.invariant in
    let k = c.loop-copy._copy in
    let o = c.args.operation in
    let old = c.loop-copy.cells.items in
    let new = c.add_to.new.list.items in
    let size : ℕ = c.in_ok-end.end - c.loop-copy.first in
    let b : Block = record { first = c.loop-copy.first; size = size; operation = o } in
    let end : c.in_ok-end.end ≡ length old = omega (arith, c.in_ok-end.ensures, c.len.ensures, c.loop-copy.cells.ok.0) in
    let long : length old ≡ c.loop-copy.first + size = omega (arith, i.inside, end) in
    let same : c.loop-copy.first + size ≡ c.in_ok-end.end = omega (arith, long, end) in
    let is = c.in_ok-add_to.ensures.all in
    record {
      cells_are = λ whole are. subst (λ (all : List ℕ). AreCells all new) (replicate_last whole k o)
          (cells_next b (whole ++ replicate k o) old new (i.cells_are whole are) is long i.inside c.in_ok-add_to.ensures.kept);
      inside = omega (arith, is.long, is.size, same);
      block = λ j s from at. subst (λ (n : ℕ). LinksFrom o n s.less) same (is.new j s (omega (arith, from, same)) at);
    }

pub returns : goal.returns
returns c whole are =
    let e : c.loop-copy._copy ≡ c.args.count = omega (arith, c.loop-copy-test.false, c.loop-copy.auto._copy-end) in
    subst (λ (k : ℕ). AreCells (whole ++ replicate k c.args.operation) c.loop-copy.cells.items) e (c.loop-copy.invariant.cells_are whole are)

pub overflow_sub-block : goal.overflow_sub-block
overflow_sub-block c = omega (arith, c.loop-copy.invariant.inside, c.in_ok-end.ensures, c.len.ensures, c.loop-copy.cells.ok.0)
