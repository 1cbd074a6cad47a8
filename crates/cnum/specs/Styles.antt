-- How a plan is written, by the words for it.
use Rattle.std.specs.Prelude.{◌≡◌, Result, Ok, Err}
use Rattle.cn_words.specs.declared.plan_words.StyleWords.{StyleWords}
use Rattle.cn_words.specs.declared.plan_words.StyleWords.TheVariants as words
use Rattle.cn_app.specs.PlanStyles.{GivesPrefix, plain_style}
use Rattle.cn_app.specs.declared.plan_style.PlanStyle.{PlanStyle}
use Rattle.cn_app.specs.declared.plan_style.PlanStyle.TheVariants as style
use Rattle.cn_io.specs.Steps.{Then}
use Rattle.cn_io.specs.declared.fault.AppFault.{AppFault}

-- the style of a form, or one with the prefix that a word spells, unless it is refused
abbrev pub GivesStyle : StyleWords → Result PlanStyle AppFault → Type 0
GivesStyle (words.Plain form) r = r ≡ Ok (plain_style form)
GivesStyle (words.ExternalC word) r =
    Then (GivesPrefix word.now) (λ prefix made. made ≡ Ok (style.ExternalC prefix)) r
GivesStyle (words.Header word) r =
    Then (GivesPrefix word.now) (λ prefix made. made ≡ Ok (style.Header prefix)) r
