-- Texts that spell no event of a schedule of steps and crashes.
use Rattle.std.proofs.Common.{◌≡◌, ◌≢◌, ℕ, List, [], ◌∷◌, Option, None, refl, ap}
use Rattle.std.specs.Prelude.{option_map}
use Rattle.std.proofs.lemmas.Bool.{ne_eqb}
use Rattle.cn_lives.specs.declared.schedule.Event.TheVariants.{Step}
use Rattle.cn_io.specs.Arguments.Lists.{number_up_to}
use Rattle.cn_io.specs.Arguments.Lives.{life_event_of}

pub no_life_event : (text : List ℕ) → ((rest : List ℕ) → text ≢ 99 ∷ rest) → number_up_to 255 text ≡ None → life_event_of text ≡ None
no_life_event [] no_crash no_step = refl
no_life_event (letter ∷ rest) no_crash no_step =
    rw (ne_eqb letter 99 (λ e. no_crash rest (ap (λ l. l ∷ rest) e))) (ap (λ (o : Option ℕ). option_map Step o) no_step)
