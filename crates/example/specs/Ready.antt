-- Seats that threads can take turns with.
use Rattle.std.specs.Prelude.{◌<◌, length}
use Rattle.cn_hall.specs.Seats.{HallId, IsSeatOf, SeatState}

-- the seat is of this hall, and its object has an operation 0
abbrev pub IsReady : HallId → SeatState → Type 0
IsReady hall seat = IsSeatOf hall seat × (0 < length seat.core.opening.object.operations)
