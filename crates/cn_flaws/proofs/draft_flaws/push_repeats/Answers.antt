use Rattle.std.proofs.Common.{map, string_bytes}
use Rattle.cn_flaws.specs.Flaws.{flaws_view, repeat_at}
use Rattle.cn_flaws.proofs.FlawLemmas.{each_more}
use Rattle.cn_flaws.proofs.draft_flaws.push_repeats.Goals as goal

pub loop-i-preserved : goal.loop-i-preserved
loop-i-preserved c =
    each_more (repeat_at c.args.list (map (λ s. string_bytes s) c.args.names.now)) (λ s. string_bytes s)
    (flaws_view c.loop-i.flaws) _ _ c.args.names.now c.loop-i.i c.index-names-i.result c.loop-i-test.true c.index-names-i.is
    (rw c.as_str.ensures.value at c.in_ok-push_repeat_at.ensures) c.loop-i.invariant
