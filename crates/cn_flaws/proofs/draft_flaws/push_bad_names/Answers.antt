use Rattle.std.proofs.Common.{string_bytes}
use Rattle.cn_flaws.specs.FlawPath.{name_path}
use Rattle.cn_flaws.specs.Flaws.{flaws_view, list_word, bad_name}
use Rattle.cn_flaws.proofs.FlawLemmas.{each_more}
use Rattle.cn_flaws.proofs.draft_flaws.push_bad_names.Goals as goal

pub loop-i-preserved : goal.loop-i-preserved
loop-i-preserved c =
    each_more (λ i. bad_name (name_path c.args.list i) (list_word c.args.list)) (λ s. string_bytes s) (flaws_view c.loop-i.flaws) _ _ c.args.names.now c.loop-i.i c.index-names-i.result
    c.loop-i-test.true c.index-names-i.is (rw c.as_str.ensures.value at c.in_ok-push_bad_name.ensures) c.loop-i.invariant
