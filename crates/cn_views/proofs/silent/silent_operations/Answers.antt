use Rattle.std.proofs.Common.{arith, sym, ◌∙◌, true≢false, length-append, ◌∷◌, []}
use Rattle.cn_views.proofs.SilentLists.{all_silent, ascends_more, left_out, none_silent, one_more}
use Rattle.cn_views.proofs.silent.silent_operations.Goals as goal
use Rattle.cn_views.proofs.silent.silent_operations.Goals.{then-is_silent, else-is_silent}

pub loop-operation-init : goal.loop-operation-init
loop-operation-init c = record {
  has = rw c.new-silent.ensures (none_silent c.args.table.now);
  ascends = rw c.new-silent.ensures (λ i j d l u. absurd (omega (arith, u)));
  few = rw c.new-silent.ensures (omega arith);
}

pub loop-operation-preserved : goal.loop-operation-preserved
loop-operation-preserved c =
    let t = c.args.table.now in
    let o = c.loop-operation.operation in
    let i = c.loop-operation.invariant in
    let list = c.loop-operation.silent.items in
    elim c.if-is_silent.branch [
      | then-is_silent w ↦ rw (w.silent-is, w.push.ensures.items) (record {
        has = one_more t o list (c.is_silent.ensures.0 w.if-is_silent.true) i.has;
        ascends = ascends_more t o list i.has i.ascends;
        few = omega (arith, i.few, length-append list (o ∷ []));
      })
      | else-is_silent w ↦ rw w.silent-is (record {
        has = left_out t o list (λ s. true≢false (sym (c.is_silent.ensures.1 s) ∙ w.if-is_silent.false)) i.has;
        ascends = i.ascends;
        few = omega (arith, i.few);
      })
    ]

pub returns : goal.returns
returns c =
    let i = c.loop-operation.invariant in
    all_silent c.args.table.now c.loop-operation.operation c.loop-operation.silent.items (omega (arith, c.loop-operation-test.false, c.operations-operation-end.ensures.number)) i.has i.ascends
