use Rattle.std.proofs.Common.{◌∙◌, string_bytes}
use Rattle.cn_flaws.proofs.FlawLemmas.{stands_before}
use Rattle.cn_flaws.proofs.draft_flaws.stands_before.Goals as goal

pub returns : goal.returns
returns c = c.has_namesake.ensures ∙ stands_before (λ s. string_bytes s) c.args.names.now c.args.i c.args.name.now
