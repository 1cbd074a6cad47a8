-- The numbers of a type as JSON values.
use Rattle.std.specs.Prelude.{ℕ, Option, Some, None, codes, nat_lt, if◌then◌else◌}
use Rattle.serde_json.specs.Data.{Data, Members, object, member, no_members}
use Rattle.cn_search.specs.declared.exact.ConsensusNumber.{ConsensusNumber}
use Rattle.cn_search.specs.declared.exact.ConsensusNumber.TheVariants.{Finite, Infinite}
use Rattle.cn_json.specs.Values.{number_data, text_data}
use Rattle.cn_reasons.specs.declared.numbers.TypeNumber.{TypeNumber}
use Rattle.cn_reasons.specs.declared.numbers.TypeNumber.TheVariants.{Exact, UpTo}
use Rattle.cn_unread_number.specs.declared.bounds.NumberBounds.{NumberBounds}
use Rattle.cn_unread_number.specs.declared.bounds.NumberBounds.TheVariants as bounds
use Rattle.cn_json.specs.declared.numbers.Classification.{Classification}

abbrev pub at_least_data : ℕ → Data
at_least_data n = object (member (codes "at_least") (number_data n) no_members)

-- a number with no limit
abbrev pub exact_data : ConsensusNumber → Data
exact_data (Finite n) = number_data n
exact_data Infinite = text_data (codes "infinite")

-- a number up to a limit: 1 where there is none, and at least the limit where it is the limit
abbrev pub limited_data : ℕ → Option ℕ → Data
limited_data limit None = number_data 1
limited_data limit (Some n) = if nat_lt n limit then number_data n else at_least_data n

abbrev pub type_number_data : TypeNumber → Data
type_number_data (Exact number) = exact_data number
type_number_data (UpTo limit number) = limited_data limit number

-- what is known of a number without reads
abbrev pub bounds_data : NumberBounds → Data
bounds_data (bounds.Exactly n) = number_data n
bounds_data bounds.Infinite = text_data (codes "infinite")
bounds_data (bounds.Between least most) =
    object (member (codes "at_least") (number_data least)
    (member (codes "at_most") (number_data most) no_members))
bounds_data (bounds.AtLeast least) = at_least_data least

-- the number without reads, if it is told
abbrev pub without_read_members : Option NumberBounds → Members
without_read_members None = no_members
without_read_members (Some known) = member (codes "without_read") (bounds_data known) no_members

-- the recoverable number, if it is told, and the members behind it
abbrev pub recoverable_members : Option TypeNumber → Members → Members
recoverable_members None others = others
recoverable_members (Some n) others = member (codes "recoverable") (type_number_data n) others

unfoldable pub classification_data : Classification → Data
classification_data c =
    object (member (codes "name") (text_data c.name.now)
    (member (codes "number") (type_number_data c.number)
    (recoverable_members c.recoverable (without_read_members c.without_read))))
