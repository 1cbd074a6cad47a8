use Rattle.std.proofs.Common.{◌≡◌, length}
use Rattle.serde_json.specs.Data.{Members, no_members, object}
use Rattle.serde_json.specs.View.{members_view}
use Rattle.cn_cert.specs.Draft.{draft_of}
use Rattle.cn_cert.specs.Tokens.{members_at, with_value, slots_of, keys_of}
use Rattle.cn_cert.proofs.object.draft_members.Given as goal

abbrev pub invariant-members : goal.invariant-members
invariant-members l =
    (found : Members) × (with_value (λ ms. draft_of (object ms)) (members_at l.depth no_members l.initial.reader) ≡ with_value (λ ms. draft_of (object ms)) (members_at l.depth found l.reader))
    × (slots_of found ≡ l.slots) × (members_view l.keys.entries ≡ keys_of found)

abbrev pub decreases-members : goal.decreases-members
decreases-members l = length l.reader
