-- The draft of a certificate: what a JSON value of the right shape says, whatever its numbers and
-- its name.
use Rattle.std.specs.Prelude.{codes, ◌==◌, List, Option, Some, None, option_and_then, if◌then◌else◌}
use Rattle.serde_json.specs.Data.{Data, Members}
use Rattle.serde_json.specs.Find.{as_str, as_object}
use Rattle.cn_table.specs.Draft.{◌>>=◌}
use Rattle.cn_choice.specs.Canonical.{Choice}
use Rattle.cn_choice.specs.Collisions.{Collision}
use Rattle.cn_cert.specs.Certificate.{Certificate}
use Rattle.cn_cert.specs.Document.{members_len}
use Rattle.cn_cert.specs.Values.{natural_of, each_of, items_of_len, natural_at, naturals_at}
use Rattle.cn_cert.specs.Values.{nullable, at_key}

-- a choice: an array `[state, a, b]`
unfoldable pub choice_from : List Data → Option Choice
choice_from items = do
  state ← natural_at 0 items
  a ← naturals_at 1 items
  b ← naturals_at 2 items
  Some (record { state = state; a = a; b = b })

abbrev pub choice_of : Data → Option Choice
choice_of d = option_and_then choice_from (items_of_len 3 d)

-- a collision: an array `[state, a, b, process, alpha, beta]`
unfoldable pub collision_from : List Data → Option Collision
collision_from items = do
  choice ← choice_from items
  process ← natural_at 3 items
  alpha ← naturals_at 4 items
  beta ← naturals_at 5 items
  Some (record { choice = choice; process = process; alpha = alpha; beta = beta })

abbrev pub collision_of : Data → Option Collision
collision_of d = option_and_then collision_from (items_of_len 6 d)

abbrev pub collisions_of : Data → Option (List Collision)
collisions_of d = each_of collision_of d

-- a value of its kind at each of the six keys
unfoldable pub draft_from : Members → Option Certificate
draft_from ms = do
  collisions ← at_key (codes "collisions") collisions_of ms
  limit ← at_key (codes "limit") natural_of ms
  number ← at_key (codes "number") (nullable natural_of) ms
  type_name ← at_key (codes "type") as_str ms
  version ← at_key (codes "version") natural_of ms
  witness ← at_key (codes "witness") (nullable choice_of) ms
  Some (record {
    version = version;
    type_name = type_name;
    limit = limit;
    number = number;
    witness = witness;
    collisions = collisions;
  })

-- an object with these six keys and no other
abbrev pub draft_of : Data → Option Certificate
draft_of d =
    option_and_then (λ ms. if members_len ms == 6 then draft_from ms else None) (as_object d)
