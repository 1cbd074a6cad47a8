use Rattle.std.proofs.Common.{ℕ, ◌≡◌, ◌<◌, ◌∙◌, List, ap, arith, length, map, take}
use Rattle.std.specs.Prelude.{slice_index, slice_index_or}
use Rattle.std.proofs.Math.Seq.{take-length}
use Rattle.cn_shortest.specs.Ordering.{ordered}
use Rattle.cn_shortest.proofs.OrderedTeams.{order_known}
use Rattle.cn_shortest.proofs.meetings.operations.Goals as goal

pub bounds-example-process : goal.bounds-example-process
bounds-example-process c =
    let team = λ (p : ℕ). slice_index c.args.example.now.teams p in
    let list = c.as_slice-process-items.result.now in
    let place = c.loop-process.process-index in
    let items : list ≡ ordered team c.args.n = c.as_slice-process-items.ensures.value ∙ c.ordered-order.ensures in
    let inside : place < length list = omega (arith, c.loop-process-test.true) in
    omega (arith, order_known team c.args.n place 0 (omega (arith, inside, ap length items)), ap (λ (xs : List ℕ). slice_index_or xs place 0) items, c.requires)

pub returns : goal.returns
returns c =
    let team = λ (p : ℕ). slice_index c.args.example.now.teams p in
    let operation = λ (p : ℕ). slice_index c.args.example.now.operations p in
    let list = c.as_slice-process-items.result.now in
    let items : list ≡ ordered team c.args.n = c.as_slice-process-items.ensures.value ∙ c.ordered-order.ensures in
    let end : c.loop-process.process-index ≡ length list = omega (arith, c.loop-process-test.false, c.loop-process.auto.process-index-end) in
    c.loop-process.invariant ∙ (ap (λ (k : ℕ). map operation (take k list)) end ∙ (ap (map operation) (take-length list) ∙ ap (map operation) items))
