-- The places of a plan.
use Rattle.std.specs.Prelude.{ℕ, length}
use Rattle.cn_proto.specs.Plan.{Plan, protocol_of}
use Rattle.cn_proto.specs.Protocol.{place_of}
use Rattle.cn_proto.specs.declared.place.Place.{Place}

-- the number of places on the path of a process
abbrev pub places_of : Plan → ℕ → ℕ
places_of plan p = length ((protocol_of plan).path p)

-- place i of the path of process p
abbrev pub place_at : Plan → ℕ → ℕ → Place
place_at plan p i = place_of (protocol_of plan) p i
