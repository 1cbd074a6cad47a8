-- The JSON value of a certificate of a number without reads, and its one text.
use Rattle.std.specs.Prelude.{ℕ, List, [], ◌∷◌, Option, Some, None, map, codes}
use Rattle.serde_json.specs.Data.{Data, null, string, array, object, member, no_members}
use Rattle.serde_json.specs.View.{items_of}
use Rattle.serde_json.specs.Written.{compact_text}
use Rattle.cn_choice.specs.TeamNames.{team_name}
use Rattle.cn_cert.specs.CertificateText.{choice_data, number_data, number_or_null, numbers_data}
use Rattle.cn_further.specs.declared.follow_up.FollowUp.{FollowUp}
use Rattle.cn_further.specs.declared.further.Further.{Further}
use Rattle.cn_game.specs.declared.board.Run.{Run}
use Rattle.cn_game.specs.declared.board.Run.TheVariants.{First, Second}
use Rattle.cn_game.specs.declared.board.Standing.{Standing}
use Rattle.cn_game.specs.declared.board.Standing.TheVariants as standing
use Rattle.cn_game.specs.declared.trap.Trap.{Trap}
use Rattle.cn_game.specs.declared.trap.Turn.{Turn}
use Rattle.cn_signs.specs.declared.sign_choice.SignChoice.{SignChoice}
use Rattle.cn_unread_cert.specs.Certificate.{UnreadCertificate}
use Rattle.cn_unread_cert.specs.declared.certificate.LeastClaim.{LeastClaim}
use Rattle.cn_unread_cert.specs.declared.certificate.LeastClaim.TheVariants as least

-- an array of these values
abbrev pub list_data : List Data → Data
list_data ds = array (items_of ds)

-- an array with the value of each thing
abbrev pub each_data : {X : Type 0} → (X → Data) → List X → Data
each_data json xs = list_data (map json xs)

-- a follow-up: `[operation, response, further]`
abbrev pub follow_up_data : FollowUp → Data
follow_up_data f = numbers_data (f.operation.0 ∷ f.response.0 ∷ f.further.0 ∷ [])

-- a choice with its follow-ups: `[state, a, b, follow-ups]`
abbrev pub further_data : Further → Data
further_data f = list_data (number_data f.choice.state ∷ numbers_data f.choice.a
    ∷ numbers_data f.choice.b ∷ each_data follow_up_data f.follow_ups.items ∷ [])

-- signs: `[state, single, many, further, side]`
abbrev pub signs_data : SignChoice → Data
signs_data s = list_data (number_data s.state.0 ∷ number_data s.single.0 ∷ number_data s.many.0
    ∷ numbers_data s.further.items ∷ string (team_name s.side) ∷ [])

-- an object with one key
abbrev pub at_one_key : List ℕ → Data → Data
at_one_key key d = object (member key d no_members)

abbrev pub least_data : LeastClaim → Data
least_data least.Alone = null
least_data (least.Visible c) = at_one_key (codes "visible") (choice_data c)
least_data (least.Further f) = at_one_key (codes "further") (further_data f)
least_data (least.Signs s) = at_one_key (codes "signs") (signs_data s)

-- the standing of a process: `[]` if it is lost, `[operation]` if it is poised, and
-- `[operation, response, run]` if it is ahead in a run
abbrev pub standing_data : Standing → Data
standing_data standing.Lost = numbers_data []
standing_data (standing.Poised o) = numbers_data (o.0 ∷ [])
standing_data (standing.AheadInFirst o r) = numbers_data (o.0 ∷ r.0 ∷ 1 ∷ [])
standing_data (standing.AheadInSecond o r) = numbers_data (o.0 ∷ r.0 ∷ 2 ∷ [])

abbrev pub run_number : Run → ℕ
run_number First = 1
run_number Second = 2

-- a turn: `[first, second, standings, process, run]`
abbrev pub turn_data : Turn → Data
turn_data turn = list_data (number_data turn.board.first.0 ∷ number_data turn.board.second.0
    ∷ each_data standing_data turn.board.standings.items
    ∷ number_data turn.process ∷ number_data (run_number turn.run) ∷ [])

-- an array of turns, or null
abbrev pub most_data : Option Trap → Data
most_data None = null
most_data (Some trap) = each_data turn_data trap.turns.items

-- the object for the version, with its keys in the order of their bytes
abbrev pub data_in_version : ℕ → UnreadCertificate → Data
data_in_version version c =
    object (member (codes "at_least") (number_or_null c.at_least)
    (member (codes "at_most") (number_or_null c.at_most)
    (member (codes "least") (least_data c.least)
    (member (codes "most") (most_data c.most)
    (member (codes "type") (string c.type_name)
    (member (codes "version") (number_data version) no_members))))))

-- the version of certificates of numbers without reads
abbrev pub unread_version : ℕ
unread_version = 4

abbrev pub unread_data : UnreadCertificate → Data
unread_data c = data_in_version unread_version c

-- the one text: compact, with integers in decimal
abbrev pub unread_text : UnreadCertificate → List ℕ
unread_text c = compact_text (unread_data c)
