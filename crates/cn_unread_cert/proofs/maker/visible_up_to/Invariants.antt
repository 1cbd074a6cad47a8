use Rattle.cn_unread_cert.specs.Kept.{IsLower}
use Rattle.cn_unread_cert.proofs.maker.visible_up_to.Given as goal

abbrev pub invariant-loop-n : goal.invariant-loop-n
invariant-loop-n l = IsLower l.table l.lower
