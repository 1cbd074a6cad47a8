-- The bounds that a certificate tells.
use Rattle.std.specs.Prelude.{ℕ, ◌==◌, Option, Some, None, if◌then◌else◌}
use Rattle.cn_unread_number.specs.declared.bounds.NumberBounds.{NumberBounds}
use Rattle.cn_unread_number.specs.declared.bounds.NumberBounds.TheVariants.{AtLeast, Between, Exactly}
use Rattle.cn_unread_number.specs.declared.bounds.NumberBounds.TheVariants.{Infinite}

-- from a lower bound, which is none for every number, and from an upper one, if there is one
abbrev pub bounds_of : Option ℕ → Option ℕ → NumberBounds
bounds_of None at_most = Infinite
bounds_of (Some n) None = AtLeast n
bounds_of (Some n) (Some m) = if n == m then Exactly n else Between n m
