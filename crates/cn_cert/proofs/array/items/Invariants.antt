use Rattle.std.proofs.Common.{◌≡◌, length}
use Rattle.cn_cert.specs.Tokens.{items_at, with_value, all_items}
use Rattle.cn_cert.proofs.ArrayWalks.{behind}
use Rattle.cn_cert.proofs.array.items.Given as goal

abbrev pub invariant-items : goal.invariant-items
invariant-items g l = with_value (all_items g.T.Kind.kind) (items_at l.depth l.initial.reader) ≡ behind g.T.Kind.kind l.depth l.values.items l.reader

abbrev pub decreases-items : goal.decreases-items
decreases-items g l = length l.reader
