-- The JSON value of a certificate, and its one text.
use Rattle.std.specs.Prelude.{ℕ, ◌++◌, List, Option, Some, None, map, codes}
use Rattle.serde_json.specs.Data.{Data, null, number, unsigned, string, array, object, item}
use Rattle.serde_json.specs.Data.{no_items, Members, member, no_members}
use Rattle.serde_json.specs.View.{items_of}
use Rattle.serde_json.specs.Written.{compact_text}
use Rattle.cn_choice.specs.Canonical.{Choice}
use Rattle.cn_choice.specs.Collisions.{Collision}
use Rattle.cn_cert.specs.Certificate.{Certificate}

-- an unsigned integer
abbrev pub number_data : ℕ → Data
number_data n = number (unsigned n)

-- an array of unsigned integers
abbrev pub numbers_data : List ℕ → Data
numbers_data ns = array (items_of (map number_data ns))

-- an unsigned integer, or null
abbrev pub number_or_null : Option ℕ → Data
number_or_null None = null
number_or_null (Some n) = number_data n

-- a choice: `[state, a, b]`
abbrev pub choice_data : Choice → Data
choice_data c =
    array (item (number_data c.state) (item (numbers_data c.a) (item (numbers_data c.b) no_items)))

abbrev pub witness_data : Option Choice → Data
witness_data None = null
witness_data (Some c) = choice_data c

-- a collision: `[state, a, b, process, alpha, beta]`
abbrev pub collision_data : Collision → Data
collision_data x =
    array (item (number_data x.choice.state)
    (item (numbers_data x.choice.a) (item (numbers_data x.choice.b)
    (item (number_data x.process)
    (item (numbers_data x.alpha) (item (numbers_data x.beta) no_items))))))

abbrev pub collisions_data : List Collision → Data
collisions_data xs = array (items_of (map collision_data xs))

-- the object, with its keys in the order of their bytes
abbrev pub certificate_data : Certificate → Data
certificate_data c =
    object (member (codes "collisions") (collisions_data c.collisions)
    (member (codes "limit") (number_data c.limit)
    (member (codes "number") (number_or_null c.number)
    (member (codes "type") (string c.type_name)
    (member (codes "version") (number_data c.version)
    (member (codes "witness") (witness_data c.witness) no_members))))))

-- the one text: compact, with integers in decimal
abbrev pub certificate_text : Certificate → List ℕ
certificate_text c = compact_text (certificate_data c)

-- the text of a number and two lists inside an array: a state with its teams, or a process with its
-- orders
abbrev pub triple_text : ℕ → List ℕ → List ℕ → List ℕ
triple_text n a b = compact_text (number_data n) ++ codes "," ++ compact_text (numbers_data a)
    ++ codes "," ++ compact_text (numbers_data b)

-- the members behind the collisions
abbrev pub other_members : Certificate → Members
other_members c =
    member (codes "limit") (number_data c.limit)
    (member (codes "number") (number_or_null c.number)
    (member (codes "type") (string c.type_name)
    (member (codes "version") (number_data c.version)
    (member (codes "witness") (witness_data c.witness) no_members))))
