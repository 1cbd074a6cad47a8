use Rattle.std.proofs.Common.{◌+◌, ℕ, ap, length, ◌∙◌}
use Rattle.std.proofs.lemmas.List.{length_push}
use Rattle.cn_merging.specs.Rounds.{IsFirstAgreeing}
use Rattle.cn_merging.proofs.Numbers.{each_more}
use Rattle.cn_merging.proofs.firsts.refined.Goals as goal

pub loop-q-preserved : goal.loop-q-preserved
loop-q-preserved c =
    let before = c.loop-q.finer.items in
    let i = c.loop-q.invariant in
    record {
      long = ap length c.push.ensures.items ∙ (length_push before c.first_agreeing.result ∙ ap (λ (k : ℕ). k + 1) i.long);
      each = each_more (λ k f. IsFirstAgreeing c.args.table.now c.args.firsts.now k f) before c.push.new.self.items c.first_agreeing.result c.loop-q.q
          c.push.ensures.items i.long i.each c.first_agreeing.ensures;
    }
