-- The ranges of a certificate's numbers, and the name of its type.
use Rattle.std.specs.Prelude.{ℕ, ◌-◌, List, length, Bool, true, ◌&&◌, nat_le, Option, Some, None}
use Rattle.std.specs.Prelude.{map, if◌then◌else◌}
use Rattle.std.specs.Option.{option_map_or}
use Rattle.std.specs.List.{list_all}
use Rattle.cn_table.specs.Draft.{all_some}
use Rattle.cn_table.specs.Names.{is_name}
use Rattle.cn_table.specs.declared.limits.TheConstants.{MOST_STATES}
use Rattle.cn_choice.specs.Canonical.{Choice}
use Rattle.cn_choice.specs.Collisions.{Collision}
use Rattle.cn_cert.specs.Certificate.{Certificate}
use Rattle.cn_choice.specs.declared.limits.TheConstants.{MOST_PROCESSES}

-- the range of limits and numbers
abbrev pub is_byte : ℕ → Bool
is_byte n = nat_le n 255

abbrev pub is_number_in_range : Option ℕ → Bool
is_number_in_range n = option_map_or is_byte n true

-- the range of lists of operations and of processes: at most MOST_PROCESSES items, each below
-- MOST_PROCESSES
abbrev pub is_short : List ℕ → Bool
is_short ns = nat_le (length ns) MOST_PROCESSES && list_all (λ n. nat_le n (MOST_PROCESSES - 1)) ns

abbrev pub is_choice_in_range : Choice → Bool
is_choice_in_range c = nat_le c.state (MOST_STATES - 1) && (is_short c.a && is_short c.b)

abbrev pub is_witness_in_range : Option Choice → Bool
is_witness_in_range w = option_map_or is_choice_in_range w true

abbrev pub is_collision_in_range : Collision → Bool
is_collision_in_range x = is_choice_in_range x.choice
    && (nat_le x.process (MOST_PROCESSES - 1) && (is_short x.alpha && is_short x.beta))

-- every number and list is within its range, and the name of the type is a name
abbrev pub is_in_range : Certificate → Bool
is_in_range c =
    is_byte c.limit && (is_number_in_range c.number && (is_witness_in_range c.witness
    && (list_all is_collision_in_range c.collisions && is_name c.type_name)))

-- the same without the collisions
abbrev pub is_head_in_range : Certificate → Bool
is_head_in_range c =
    is_byte c.limit
    && (is_number_in_range c.number && (is_witness_in_range c.witness && is_name c.type_name))

-- the thing, if it passes the test
abbrev pub within : {X : Type 0} → (X → Bool) → X → Option X
within test x = if test x then Some x else None

unfoldable pub collision_within : Collision → Option Collision
collision_within x = within is_collision_in_range x

abbrev pub collisions_within : List Collision → Option (List Collision)
collisions_within xs = all_some (map collision_within xs)

abbrev pub certificate_within : Certificate → Option Certificate
certificate_within c = within is_in_range c
