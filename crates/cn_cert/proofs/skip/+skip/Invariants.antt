use Rattle.std.proofs.Common.{◌≡◌, ◌+◌, ◌*◌, length}
use Rattle.serde_json.specs.Data.{no_members, Members}
use Rattle.cn_cert.specs.Tokens.{items_at, members_at, with_value, nothing}
use Rattle.cn_cert.proofs.skip.+skip.Given as goal

abbrev pub decreases-rest_of : goal.decreases-rest_of
decreases-rest_of l = 2 * l.depth

abbrev pub decreases-rest_of_items : goal.decreases-rest_of_items
decreases-rest_of_items l = 2 * l.depth + 1

abbrev pub decreases-rest_of_members : goal.decreases-rest_of_members
decreases-rest_of_members l = 2 * l.depth + 1

abbrev pub invariant-rest_of_items-items : goal.invariant-rest_of_items-items
invariant-rest_of_items-items l = with_value nothing (items_at l.depth l.initial.reader) ≡ with_value nothing (items_at l.depth l.reader)

abbrev pub decreases-rest_of_items-items : goal.decreases-rest_of_items-items
decreases-rest_of_items-items l = length l.reader

abbrev pub invariant-rest_of_members-members : goal.invariant-rest_of_members-members
invariant-rest_of_members-members l = (found : Members) × (with_value nothing (members_at l.depth no_members l.initial.reader) ≡ with_value nothing (members_at l.depth found l.reader))

abbrev pub decreases-rest_of_members-members : goal.decreases-rest_of_members-members
decreases-rest_of_members-members l = length l.reader
