-- The kinds of JSON values in a certificate of a number without reads, whose numbers and lists are
-- within limits.
use Rattle.std.specs.Prelude.{ℕ, ◌-◌, ◌^◌, ◌==◌, List, [], ◌∷◌, length, Bool, true, false, ◌&&◌, ◌||◌, nat_le, bytes_eq}
use Rattle.std.specs.Prelude.{codes, is_some}
use Rattle.std.specs.Option.{option_map_or}
use Rattle.std.specs.List.{list_all}
use Rattle.serde_json.specs.Data.{Data}
use Rattle.serde_json.specs.Find.{as_null, as_object, as_str, get}
use Rattle.cn_table.specs.Names.{is_name}
use Rattle.cn_choice.specs.declared.limits.TheConstants.{MOST_PROCESSES}
use Rattle.cn_cert.specs.Document.{members_len}
use Rattle.cn_cert.specs.Values.{items_of, natural_of}
use Rattle.cn_unread_cert.specs.UnreadText.{unread_version}
use Rattle.cn_unread_cert.specs.declared.limits.Limits.{Limits}

-- the limits of what a text is read as, and those of a certificate
abbrev pub any_limits : Limits
any_limits = record { number = 2 ^ 64 - 1; list = 2 ^ 64 - 1 }

abbrev pub byte_limits : Limits
byte_limits = record { number = 255; list = MOST_PROCESSES }

-- an unsigned integer up to the limit
abbrev pub is_number : Limits → Data → Bool
is_number limits d = option_map_or (λ n. nat_le n limits.number) (natural_of d) false

-- this number
abbrev pub is_this : ℕ → Data → Bool
is_this n d = option_map_or (λ m. m == n) (natural_of d) false

-- an array of values of a kind
abbrev pub is_array : (Data → Bool) → Data → Bool
is_array kind d = option_map_or (list_all kind) (items_of d) false

-- one that is not longer than the limit
abbrev pub is_list : (Data → Bool) → Limits → Data → Bool
is_list kind limits d =
    option_map_or (λ ds. nat_le (length ds) limits.list && list_all kind ds) (items_of d) false

abbrev pub is_number_list : Limits → Data → Bool
is_number_list limits d = is_list (is_number limits) limits d

-- an array whose items pass the test together
abbrev pub is_row : (List Data → Bool) → Data → Bool
is_row test d = option_map_or test (items_of d) false

-- a choice: `[state, a, b]`
abbrev pub are_choice_parts : Limits → List Data → Bool
are_choice_parts limits (state ∷ a ∷ b ∷ []) =
    is_number limits state && (is_number_list limits a && is_number_list limits b)
are_choice_parts limits _ = false

-- a follow-up: `[operation, response, further]`
abbrev pub are_follow_up_parts : Limits → List Data → Bool
are_follow_up_parts limits (o ∷ r ∷ f ∷ []) =
    is_number limits o && (is_number limits r && is_number limits f)
are_follow_up_parts limits _ = false

abbrev pub is_follow_up : Limits → Data → Bool
is_follow_up limits d = is_row (are_follow_up_parts limits) d

-- a choice with follow-ups: `[state, a, b, follow-ups]`
abbrev pub are_further_parts : Limits → List Data → Bool
are_further_parts limits (state ∷ a ∷ b ∷ follow_ups ∷ []) =
    is_number limits state && (is_number_list limits a
    && (is_number_list limits b && is_array (is_follow_up limits) follow_ups))
are_further_parts limits _ = false

-- the name of a team
abbrev pub is_side : Data → Bool
is_side d = option_map_or (λ s. bytes_eq s (codes "A") || bytes_eq s (codes "B")) (as_str d) false

-- signs: `[state, single, many, further, side]`
abbrev pub are_sign_parts : Limits → List Data → Bool
are_sign_parts limits (state ∷ single ∷ many ∷ further ∷ side ∷ []) =
    is_number limits state && (is_number limits single && (is_number limits many
    && (is_number_list limits further && is_side side)))
are_sign_parts limits _ = false

-- the number of a run
abbrev pub is_run : Data → Bool
is_run d = is_this 1 d || is_this 2 d

-- a standing: `[]`, `[operation]` or `[operation, response, run]`
abbrev pub are_standing_parts : Limits → List Data → Bool
are_standing_parts limits [] = true
are_standing_parts limits (o ∷ []) = is_number limits o
are_standing_parts limits (o ∷ r ∷ run ∷ []) =
    is_number limits o && (is_number limits r && is_run run)
are_standing_parts limits _ = false

abbrev pub is_standing : Limits → Data → Bool
is_standing limits d = is_row (are_standing_parts limits) d

-- a turn: `[first, second, standings, process, run]`
abbrev pub are_turn_parts : Limits → List Data → Bool
are_turn_parts limits (first ∷ second ∷ standings ∷ process ∷ run ∷ []) =
    is_number limits first && (is_number limits second
    && (is_list (is_standing limits) limits standings && (is_number limits process && is_run run)))
are_turn_parts limits _ = false

abbrev pub is_turn : Limits → Data → Bool
is_turn limits d = is_row (are_turn_parts limits) d

-- null, or a value of a kind
abbrev pub is_null_or : (Data → Bool) → Data → Bool
is_null_or kind d = is_some (as_null d) || kind d

-- an object with so many keys
abbrev pub has_keys : ℕ → Data → Bool
has_keys count d = option_map_or (λ ms. members_len ms == count) (as_object d) false

-- a value of a kind, at a key
abbrev pub has_at : List ℕ → (Data → Bool) → Data → Bool
has_at key kind d = option_map_or kind (get key d) false

-- an object with one key, for evidence
abbrev pub is_evidence : Limits → Data → Bool
is_evidence limits d = has_keys 1 d && (has_at (codes "visible") (is_row (are_choice_parts limits)) d
    || (has_at (codes "further") (is_row (are_further_parts limits)) d
    || has_at (codes "signs") (is_row (are_sign_parts limits)) d))

abbrev pub is_least : Limits → Data → Bool
is_least limits d = is_null_or (is_evidence limits) d

abbrev pub is_most : Limits → Data → Bool
is_most limits d = is_null_or (is_array (is_turn limits)) d

-- a text that passes the test
abbrev pub is_text : (List ℕ → Bool) → Data → Bool
is_text test d = option_map_or test (as_str d) false

-- an object with the six keys and no other, each with a value of its kind
abbrev pub is_certificate : Limits → (List ℕ → Bool) → Data → Bool
is_certificate limits is_known d = has_keys 6 d
    && (has_at (codes "at_least") (is_null_or (is_number limits)) d
    && (has_at (codes "at_most") (is_null_or (is_number limits)) d
    && (has_at (codes "least") (is_least limits) d
    && (has_at (codes "most") (is_most limits) d
    && (has_at (codes "type") (is_text is_known) d
    && has_at (codes "version") (is_number any_limits) d)))))

-- the value has the shape of a certificate
abbrev pub has_shape : Data → Bool
has_shape d = is_certificate any_limits (λ text. true) d

-- its version is that of certificates of numbers without reads
abbrev pub has_version : Data → Bool
has_version d = has_at (codes "version") (is_this unread_version) d

-- its numbers, its lists and its name are those of a certificate
abbrev pub is_in_range : Data → Bool
is_in_range d = is_certificate byte_limits is_name d
