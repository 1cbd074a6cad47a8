-- Texts that spell no event, and events by numbers.
use Rattle.std.proofs.Common.{◌≡◌, ◌≢◌, ℕ, List, [], ◌∷◌, None, map, refl, ap}
use Rattle.std.proofs.lemmas.Bool.{ne_eqb}
use Rattle.cn_table.specs.TypeTable.{TypeTable}
use Rattle.cn_log.specs.declared.event.Event.{Event}
use Rattle.cn_log.specs.declared.event.Event.TheVariants.{Invoke, Step}
use Rattle.cn_io.specs.Arguments.Events.{event_of, events_in, word_of}

pub no_event : (text : List ℕ) → ((rest : List ℕ) → text ≢ 115 ∷ rest) → ((rest : List ℕ) → text ≢ 105 ∷ rest) → event_of text ≡ None
no_event [] no_step no_invoke = refl
no_event (letter ∷ rest) no_step no_invoke =
    rw (ne_eqb letter 115 (λ e. no_step rest (ap (λ l. l ∷ rest) e)), ne_eqb letter 105 (λ e. no_invoke rest (ap (λ l. l ∷ rest) e))) refl

-- events that are given by numbers are the same in every object
pub numbers_in : (object : TypeTable) (events : List Event) → events_in object (map word_of events) ≡ events
numbers_in object [] = refl
numbers_in object (Invoke p o ∷ events) = ap (λ (es : List Event). Invoke p o ∷ es) (numbers_in object events)
numbers_in object (Step p ∷ events) = ap (λ (es : List Event). Step p ∷ es) (numbers_in object events)
