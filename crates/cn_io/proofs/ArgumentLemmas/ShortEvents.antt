-- Events in their short form: each number is one digit.
use Rattle.std.proofs.Common.{◌≡◌, ◌≢◌, ◌<◌, ◌≤◌, ◌+◌, ◌-◌, ◌==◌, ◌∙◌, ℕ, List, [], ◌∷◌, ◌++◌, All, Bool, true, false, None, Some, arith, refl, sym, ap, subst, length, map, le-leb}
use Rattle.std.specs.List.{slice_split}
use Rattle.std.specs.Prelude.{codes, nat_le, if◌then◌else◌}
use Rattle.std.specs.Char.{digit_value, is_ascii_digit}
use Rattle.std.specs.Str.{bytes_eq}
use Rattle.std.specs.Str.Parse.{digits_value}
use Rattle.std.proofs.lemmas.Bool.{ne_eqb}
use Rattle.std.proofs.lemmas.List.{map-append}
use Rattle.std.proofs.lemmas.List.Splits.{slice_split_at, slice_split_none}
use Rattle.std.proofs.lemmas.Slice.Eq.{bytes_eq-Decides}
use Rattle.std.proofs.lemmas.Str.{digit_value_digit}
use Rattle.cn_table.specs.Draft.{all_some}
use Rattle.cn_table.proofs.Lists.{with_front, front_next}
use Rattle.cn_table.specs.Texts.{code_of}
use Rattle.cn_log.specs.declared.event.Event.{Event}
use Rattle.cn_io.specs.Arguments.Events.{event_of, word_of}
use Rattle.cn_io.specs.Arguments.Lists.{items_of, list_up_to, number_up_to}
use Rattle.cn_io.specs.declared.arguments.events.EventWord.{EventWord}
use Rattle.cn_io.proofs.ArgumentLemmas.Numbers.{small_is_some}

-- a digit spells its number
pub one_digit : (byte : ℕ) → 48 ≤ byte → byte < 58 → number_up_to 255 (byte ∷ []) ≡ Some (byte - 48)
one_digit byte low high =
    let value : digit_value byte + 48 ≡ byte = digit_value_digit byte (low, omega arith) in
    let is : digits_value 10 (byte ∷ []) ≡ byte - 48 = omega (arith, value) in
    let digits : (is_ascii_digit byte) ≡ true = grind arith in
    small_is_some 255 (byte ∷ []) (rw digits refl) (omega arith) (omega arith) (omega (arith, is)) ∙ ap Some is

abbrev pub is_comma : ℕ → Bool
is_comma byte = byte == code_of (codes ",")

abbrev pub pieces : List ℕ → List (List ℕ)
pieces list = slice_split (λ byte. byte == code_of (codes ",")) list

-- an event that ends at a comma is the next of a list
pub next_event : (front : List EventWord) (list text rest : List ℕ) (e : EventWord) → list ≡ text ++ 44 ∷ rest → event_of text ≡ Some e → All (λ byte. byte ≢ 44) text
    → with_front front (all_some (map event_of (pieces list))) ≡ with_front (front ++ e ∷ []) (all_some (map event_of (pieces rest)))
next_event front list text rest e is spelled one =
    let split : pieces (text ++ 44 ∷ rest) ≡ text ∷ pieces rest = slice_split_at is_comma text 44 rest (λ k d less. ne_eqb _ 44 (one k d less)) refl in
    ap (λ l. with_front front (all_some (map event_of (pieces l)))) is ∙ ap (λ l. with_front front (all_some (map event_of l))) split
    ∙ front_next event_of front (text ∷ pieces rest) 0 [] e (omega arith) spelled

pub one_piece_more : (list text rest : List ℕ) → list ≡ text ++ 44 ∷ rest → All (λ byte. byte ≢ 44) text → length (pieces list) ≡ length (pieces rest) + 1
one_piece_more list text rest is one =
    let split : pieces (text ++ 44 ∷ rest) ≡ text ∷ pieces rest = slice_split_at is_comma text 44 rest (λ k d less. ne_eqb _ 44 (one k d less)) refl in
    ap (λ l. length (pieces l)) is ∙ ap length split ∙ omega arith

-- an event with no comma behind it is the last
pub last_piece : (text : List ℕ) → All (λ byte. byte ≢ 44) text → pieces text ≡ text ∷ []
last_piece text one = slice_split_none is_comma text (λ k d less. ne_eqb _ 44 (one k d less))

pub last_event : (front : List EventWord) (text : List ℕ) (e : EventWord) → event_of text ≡ Some e → All (λ byte. byte ≢ 44) text
    → with_front front (all_some (map event_of (pieces text))) ≡ Some (front ++ e ∷ [])
last_event front text e spelled one = ap (λ l. with_front front (all_some (map event_of l))) (last_piece text one) ∙ rw spelled refl

-- the word for the empty list spells no event, under every limit
no_event_of_none : (few : Bool) (events : List EventWord) → (if few then all_some (map event_of (pieces (codes "none"))) else None) ≡ Some events → ⊥
no_event_of_none true events e = cc e
no_event_of_none false events e = cc e

-- pieces that are not too many spell the events of the list: the word for the empty list spells no event
by_word : (most : ℕ) (word : Bool) (list : List ℕ) (events : List EventWord) → bytes_eq list (codes "none") ≡ word → items_of most event_of (pieces list) ≡ Some events
    → list_up_to most event_of list ≡ Some events
by_word most true list events is spelled =
    let none : list ≡ codes "none" = (bytes_eq-Decides list (codes "none")).0 is in
    absurd (no_event_of_none (nat_le (length (pieces (codes "none"))) most) events (subst (λ l. items_of most event_of (pieces l) ≡ Some events) none spelled))
by_word most false list events is spelled = rw is spelled

pub events_spelled : (most : ℕ) (list : List ℕ) (events : List EventWord) → length (pieces list) ≤ most → all_some (map event_of (pieces list)) ≡ Some events
    → list_up_to most event_of list ≡ Some events
events_spelled most list events few spelled = by_word most _ list events refl (rw (le-leb (length (pieces list)) most few) spelled)

pub all_spelled : (most : ℕ) (list rest : List ℕ) (events : List EventWord) (e : EventWord) → with_front events (all_some (map event_of (pieces rest))) ≡ all_some (map event_of (pieces list))
    → length events + length (pieces rest) ≡ length (pieces list) → length events < most → event_of rest ≡ Some e → All (λ byte. byte ≢ 44) rest
    → list_up_to most event_of list ≡ Some (events ++ e ∷ [])
all_spelled most list rest events e so_far many few spelled one =
    let one_more = ap length (last_piece rest one) in
    events_spelled most list (events ++ e ∷ []) (omega (arith, many, one_more, few)) (sym so_far ∙ last_event events rest e spelled one)

-- the words of events that were read before, and of one more
pub words_more : (events more : List Event) (e : Event) → more ≡ events ++ e ∷ [] → map word_of more ≡ map word_of events ++ word_of e ∷ []
words_more events more e is = ap (map word_of) is ∙ map-append word_of events (e ∷ [])
