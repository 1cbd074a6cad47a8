-- Steps in sequence: each ends with a value or with a fault.
use Rattle.std.specs.Prelude.{◌≡◌, ◌⊎◌, Result, Ok, Err}
use Rattle.cn_io.specs.declared.fault.AppFault.{AppFault}

-- the first step ends with a fault, and so does the whole; or it ends with a value, and the next
-- step makes this result from it
abbrev pub Then : {X Y : Type 0} → (Result X AppFault → Type 0) → (X → Result Y AppFault → Type 0)
    → Result Y AppFault → Type 0
Then {X} first next r =
    ((e : AppFault) × first (Err e) × (r ≡ Err e)) ⊎ ((x : X) × first (Ok x) × next x r)
