use Rattle.std.proofs.Common.{◌≡◌, ℕ, List, get_or, arith}
use Rattle.cn_table.specs.TypeTable.{IsClosed, TypeTable}
use Rattle.cn_stock_check.specs.Seen.{LeadsTo, ShowsLast}
use Rattle.cn_stock_check.specs.Sets.{IsIn}
use Rattle.cn_stock_check.proofs.SeenLemmas.{IsLess, LeavesBy, ShowsBy, all_seen, found_put, leads_is, none_by, none_shown_by, shows_last_is}
use Rattle.cn_stock_check.proofs.SetLemmas.{none_more, one_more}
use Rattle.cn_stock_check.proofs.seen.Question.+seen.Goals as goal
use Rattle.cn_stock_check.proofs.seen.Question.+seen.Goals.{then-counts-operation-gt0+in_ok-less, else-counts-operation-gt0}

pub loop-operation-preserved : goal.loop-operation-preserved
loop-operation-preserved m c =
    let t : TypeTable = c.args.self.now.table.now in
    let start = c.args.self.now.start.0 in
    let team : List ℕ = c.args.self.now.team.now in
    let asked = c.args.self.now.asked in
    let counts : List ℕ = c.args.counts in
    let k = c.loop-operation.operation in
    let i = c.loop-operation.invariant in
    let closed : IsClosed t = c.tables_are_closed.ensures t c.tables_are_valid.ensures.table in
    elim c.if-counts-operation-gt0.branch [
      | then-counts-operation-gt0+in_ok-less w ↦ (
          let fewer : List ℕ = w.with_one_less.result in
          let is : IsLess counts fewer k = record { here = w.with_one_less.ensures.here; others = w.with_one_less.ensures.others } in
          rw (w.found-is, w.seen-is) (record {
            states = λ q. one_more (LeavesBy t start team asked counts q) k (IsIn c.loop-operation.seen.states q) (LeadsTo t start team k w.in_ok-less.less.states q) (IsIn w.add_last.new.self.states q) (i.states q)
                (leads_is t start team asked counts closed c.requires.start c.requires.counts k fewer is w.in_ok-less.less w.in_ok-less.ensures.seen q) (w.add_last.ensures.states q);
            pairs = λ r q. one_more (ShowsBy t start team asked counts r q) k (IsIn (get_or c.loop-operation.seen.pairs r 0) q) (ShowsLast t start team asked k w.in_ok-less.less r q) (IsIn (get_or w.add_last.new.self.pairs r 0) q)
                (i.pairs r q) (shows_last_is t start team asked counts closed c.requires.start c.requires.counts k fewer is w.in_ok-less.less w.in_ok-less.ensures.seen r q) (w.add_last.ensures.pairs r q);
            found = w.seen.ensures.found;
          })
          )
      | else-counts-operation-gt0 w ↦ (
          let zero : get_or counts k 0 ≡ 0 = omega (arith, w.if-counts-operation-gt0.false) in
          rw (w.found-is, w.seen-is) (record {
            states = λ q. none_more (LeavesBy t start team asked counts q) k (IsIn c.loop-operation.seen.states q) (i.states q) (none_by t start team asked counts q k zero);
            pairs = λ r q. none_more (ShowsBy t start team asked counts r q) k (IsIn (get_or c.loop-operation.seen.pairs r 0) q) (i.pairs r q) (none_shown_by t start team asked counts r q k zero);
            found = i.found;
          })
          )
    ]

pub returns-clause-seen : goal.returns-clause-seen
returns-clause-seen m c =
    all_seen c.args.self.now.table.now c.args.self.now.start.0 c.args.self.now.team.now c.args.self.now.asked c.args.counts c.requires.counts c.loop-operation.operation
    (omega (arith, c.operations-operation-end.ensures.number, c.loop-operation-test.false, c.loop-operation.auto.operation-end)) c.loop-operation.seen c.loop-operation.invariant.states c.loop-operation.invariant.pairs

pub returns-clause-found : goal.returns-clause-found
returns-clause-found m c =
    found_put c.args.self.now.table.now c.args.self.now.start.0 c.args.self.now.team.now c.args.self.now.asked c.loop-operation.found c.insert.new.self c.args.counts c.loop-operation.seen
    (λ q. c.in_ok-insert.ensures.updates.0 q) c.loop-operation.invariant.found
    (all_seen c.args.self.now.table.now c.args.self.now.start.0 c.args.self.now.team.now c.args.self.now.asked c.args.counts c.requires.counts c.loop-operation.operation
    (omega (arith, c.operations-operation-end.ensures.number, c.loop-operation-test.false, c.loop-operation.auto.operation-end)) c.loop-operation.seen c.loop-operation.invariant.states
    c.loop-operation.invariant.pairs)
