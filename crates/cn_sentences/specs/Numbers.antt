-- Numbers in words.
use Rattle.std.specs.Prelude.{ℕ, List, ◌++◌, codes, nat_lt, if◌then◌else◌, Option, Some, None}
use Rattle.std.specs.Fmt.{decimal}
use Rattle.cn_search.specs.NumberText.{number_text}
use Rattle.cn_reasons.specs.declared.numbers.TypeNumber.{TypeNumber}
use Rattle.cn_reasons.specs.declared.numbers.TypeNumber.TheVariants.{Exact, UpTo}

-- a number up to a limit: 1 where there is none, and at least the limit, with words for this, where it
-- is the limit
abbrev pub limited_words : List ℕ → ℕ → Option ℕ → List ℕ
limited_words is_limit limit None = codes "1"
limited_words is_limit limit (Some n) =
    if nat_lt n limit then decimal n else codes "at least " ++ (decimal n ++ is_limit)

abbrev pub number_words : List ℕ → TypeNumber → List ℕ
number_words is_limit (Exact number) = number_text number
number_words is_limit (UpTo limit number) = limited_words is_limit limit number
