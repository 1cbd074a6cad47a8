-- No number of a certificate is a float.
use Rattle.std.proofs.Common.{◌≡◌, ℕ, List, [], ◌∷◌, Bool, false, ◌||◌, Option, Some, None, map, refl}
use Rattle.serde_json.specs.Data.{Data}
use Rattle.serde_json.specs.View.{items_of}
use Rattle.serde_json.specs.Written.{has_float, items_have_float}
use Rattle.cn_cert.specs.CertificateText.{number_data, number_or_null, numbers_data}
use Rattle.cn_game.specs.declared.board.Standing.{Standing}
use Rattle.cn_game.specs.declared.board.Standing.TheVariants as standing
use Rattle.cn_game.specs.declared.trap.Trap.{Trap}
use Rattle.cn_game.specs.declared.trap.Turn.{Turn}
use Rattle.cn_unread_cert.specs.Certificate.{UnreadCertificate}
use Rattle.cn_unread_cert.specs.UnreadText.{least_data, most_data, standing_data}
use Rattle.cn_unread_cert.specs.UnreadText.{follow_up_data, turn_data, unread_data}
use Rattle.cn_unread_cert.specs.declared.certificate.LeastClaim.{LeastClaim}
use Rattle.cn_unread_cert.specs.declared.certificate.LeastClaim.TheVariants as least

either : {x y : Bool} → x ≡ false → y ≡ false → x || y ≡ false
either p q = rw (p, q)

each_plain : {X : Type 0} (json : X → Data) → ((x : X) → has_float (json x) ≡ false) → (xs : List X)
    → items_have_float (items_of (map json xs)) ≡ false
each_plain json plain [] = refl
each_plain json plain (x ∷ xs) = either (plain x) (each_plain json plain xs)

numbers_plain : (ns : List ℕ) → has_float (numbers_data ns) ≡ false
numbers_plain ns = each_plain number_data (λ n. refl) ns

or_null_plain : (n : Option ℕ) → has_float (number_or_null n) ≡ false
or_null_plain None = refl
or_null_plain (Some n) = refl

standing_plain : (s : Standing) → has_float (standing_data s) ≡ false
standing_plain standing.Lost = refl
standing_plain (standing.Poised o) = refl
standing_plain (standing.AheadInFirst o r) = refl
standing_plain (standing.AheadInSecond o r) = refl

turn_plain : (turn : Turn) → has_float (turn_data turn) ≡ false
turn_plain turn = either (each_plain standing_data standing_plain turn.board.standings.items) refl

most_plain : (most : Option Trap) → has_float (most_data most) ≡ false
most_plain None = refl
most_plain (Some trap) = each_plain turn_data turn_plain trap.turns.items

least_plain : (claim : LeastClaim) → has_float (least_data claim) ≡ false
least_plain least.Alone = refl
least_plain (least.Visible c) = either (either (numbers_plain c.a) (either (numbers_plain c.b) refl)) refl
least_plain (least.Further f) = either (either (numbers_plain f.choice.a) (either (numbers_plain f.choice.b)
    (either (each_plain follow_up_data (λ x. refl) f.follow_ups.items) refl))) refl
least_plain (least.Signs s) = either (either (numbers_plain s.further.items) refl) refl

pub certificate_plain : (c : UnreadCertificate) → has_float (unread_data c) ≡ false
certificate_plain c = either (or_null_plain c.at_least) (either (or_null_plain c.at_most)
    (either (least_plain c.least) (either (most_plain c.most) refl)))
