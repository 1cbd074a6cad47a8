use Rattle.std.proofs.Common.{refl}
use Rattle.cn_stock_text.proofs.Steps.{left_more, steps_more}
use Rattle.cn_stock_text.proofs.joins.push_steps.Goals as goal

pub loop-k-preserved : goal.loop-k-preserved
loop-k-preserved c =
    let t = c.args.table.now in
    let k = c.loop-k.k in
    let word = c.args.word.now in record {
      known = c.apply.ensures.next;
      text = steps_more t c.args.place k c.loop-k.state.0 word _ c.apply.result.0.0 c.apply.result.1.0 _ _ _ c.loop-k-test.true refl c.apply.ensures.value c.loop-k.invariant.text
          c.in_ok-push_step.ensures;
      left = left_more t k c.loop-k.state.0 word _ c.apply.result.0.0 c.apply.result.1.0 _ c.loop-k-test.true refl c.apply.ensures.value c.loop-k.invariant.left;
    }
