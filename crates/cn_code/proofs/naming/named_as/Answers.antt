use Rattle.std.proofs.Common.{◌∙◌, ap, flat_map, map-id, sym}
use Rattle.std.proofs.lemmas.Iterator.{YieldsList-from_chars}
use Rattle.std.proofs.lemmas.Iterator.Consumers.{YieldsList-end}
use Rattle.cn_code.specs.Naming.{char_as}
use Rattle.cn_code.proofs.naming.named_as.Goals as goal

pub returns : goal.returns
returns c =
    let all = (YieldsList-end (YieldsList-from_chars c.args.text.now c.utf8.text cc) c.loop-c.yielded _ c.loop-c.yielded_by _ _ c.in-None.is c.next.ensures.steps).0 in
    c.loop-c.invariant ∙ ap (flat_map (char_as c.args.prefix.now c.args.capitals.now c.args.linkage.now)) (sym (map-id c.loop-c.yielded) ∙ all)
