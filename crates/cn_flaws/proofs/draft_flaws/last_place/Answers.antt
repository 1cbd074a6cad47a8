use Rattle.std.proofs.Common.{◌∙◌}
use Rattle.cn_flaws.proofs.FlawLemmas.{last_is}
use Rattle.cn_flaws.proofs.draft_flaws.last_place.Goals as goal

pub returns : goal.returns
returns c = rw (c.copied.ensures, c.last.ensures.value) at c.unwrap_or.ensures ∙ last_is c.args.i c.args.places.now
