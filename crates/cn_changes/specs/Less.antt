-- Which of two numbers is less, by what is known of them.
use Rattle.std.specs.Prelude.{ℕ, ◌==◌, ◌&&◌, Bool, true, false, nat_lt, Option, Some, None}
use Rattle.cn_unread_number.specs.declared.bounds.NumberBounds.{NumberBounds}
use Rattle.cn_unread_number.specs.declared.bounds.NumberBounds.TheVariants.{AtLeast, Between, Exactly}
use Rattle.cn_unread_number.specs.declared.bounds.NumberBounds.TheVariants.{Infinite}

-- the greatest number that the bounds leave, if there is one
abbrev pub most_of : NumberBounds → Option ℕ
most_of (Exactly n) = Some n
most_of Infinite = None
most_of (Between least most) = Some most
most_of (AtLeast least) = None

-- the least number that they leave, if it is finite
abbrev pub least_of : NumberBounds → Option ℕ
least_of (Exactly n) = Some n
least_of Infinite = None
least_of (Between least most) = Some least
least_of (AtLeast least) = Some least

-- a greatest number, if there is one, is less than a least one, or than an infinite one
abbrev pub is_below : Option ℕ → Option ℕ → Bool
is_below None least = false
is_below (Some most) None = true
is_below (Some most) (Some least) = nat_lt most least

-- each number that the first bounds leave is less than each that the second leave
abbrev pub is_less : NumberBounds → NumberBounds → Bool
is_less a b = is_below (most_of a) (least_of b)

-- the same is known
abbrev pub same_bounds : NumberBounds → NumberBounds → Bool
same_bounds (Exactly m) (Exactly n) = m == n
same_bounds Infinite Infinite = true
same_bounds (Between l m) (Between p q) = (l == p) && (m == q)
same_bounds (AtLeast m) (AtLeast n) = m == n
same_bounds a b = false
