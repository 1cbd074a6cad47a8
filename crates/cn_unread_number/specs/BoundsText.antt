-- The text of a number without reads.
use Rattle.std.specs.Prelude.{ℕ, List, ◌++◌, codes}
use Rattle.std.specs.Fmt.{decimal}
use Rattle.cn_unread_number.specs.declared.bounds.NumberBounds.{NumberBounds}
use Rattle.cn_unread_number.specs.declared.bounds.NumberBounds.TheVariants.{AtLeast, Between, Exactly}
use Rattle.cn_unread_number.specs.declared.bounds.NumberBounds.TheVariants.{Infinite}

-- a number, infinite, or what is known of it
abbrev pub bounds_text : NumberBounds → List ℕ
bounds_text (Exactly n) = decimal n
bounds_text Infinite = codes "infinite"
bounds_text (Between least most) = codes "at least " ++ decimal least ++ codes ", at most "
    ++ decimal most ++ codes ", not decided"
bounds_text (AtLeast least) =
    codes "at least " ++ decimal least ++ codes ", no upper bound found"
