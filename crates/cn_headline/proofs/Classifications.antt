-- The line of the numbers that are told of a type.
use Rattle.std.proofs.Common.{◌∙◌, ℕ, List, Option, Some, None, false, true, ap, ap₂, refl}
use Rattle.std.specs.Prelude.{option_map}
use Rattle.cn_table.specs.TypeTable.{TypeTable}
use Rattle.cn_search.specs.declared.exact.ConsensusNumber.{ConsensusNumber}
use Rattle.cn_unread_number.specs.BoundsText.{bounds_text}
use Rattle.cn_unread_number.specs.declared.bounds.NumberBounds.{NumberBounds}
use Rattle.cn_json.specs.declared.numbers.Classification.{Classification}
use Rattle.cn_reasons.specs.declared.numbers.TypeNumber.{TypeNumber}
use Rattle.cn_reasons.specs.declared.numbers.TypeNumber.TheVariants.{Exact, UpTo}
use Rattle.cn_app.specs.Commands.Classify.{AreWordsFor, IsAskedNumber, IsClassificationOf, IsClassified, IsNumberFor, IsRecoverablyClassified, classification_line, line_of, line_with, line_with_both, number_words, words_of}

-- the words of a number that is told are those of the number
words_for : (IsNumber : ConsensusNumber → Type 0) (IsUpTo : ℕ → Option ℕ → Type 0) (limit : Option ℕ) (number : TypeNumber)
    → IsNumberFor IsNumber IsUpTo limit number → AreWordsFor IsNumber IsUpTo limit (words_of number)
words_for IsNumber IsUpTo None (Exact number) is = (number, is, refl)
words_for IsNumber IsUpTo None (UpTo up_to number) is = absurd is
words_for IsNumber IsUpTo (Some limit) (Exact number) is = absurd is
words_for IsNumber IsUpTo (Some limit) (UpTo up_to number) is = (number, is.1, ap (λ (n : ℕ). number_words n number) is.0)

pub number_line : (t : TypeTable) (limit : Option ℕ) (c : Classification) → IsClassificationOf t limit false false c → IsClassified t limit (classification_line c)
number_line t limit c is = record {
  in_range = is.in_range;
  words = words_of c.number;
  number = words_for _ _ limit c.number is.number;
  written = ap₂ (λ (r : Option TypeNumber) (b : Option NumberBounds). line_of c.name.now (words_of c.number) (option_map words_of r) (option_map bounds_text b))
      is.recoverable is.without_read
      ∙ ap (λ (name : List ℕ). line_with name (words_of c.number)) is.name;
}

pub both_line : (t : TypeTable) (limit : Option ℕ) (c : Classification) → IsClassificationOf t limit true false c → IsRecoverablyClassified t limit (classification_line c)
both_line t limit c is = of_number c.recoverable is.recoverable
  where
    of_number : (r : Option TypeNumber) → IsAskedNumber t limit true r
        → IsRecoverablyClassified t limit (line_of c.name.now (words_of c.number) (option_map words_of r) (option_map bounds_text c.without_read))
    of_number None none = absurd none
    of_number (Some r) told = record {
      in_range = is.in_range;
      words = words_of c.number;
      number = words_for _ _ limit c.number is.number;
      recoverable_words = words_of r;
      recoverable = words_for _ _ limit r told;
      written = ap (λ (b : Option NumberBounds). line_of c.name.now (words_of c.number) (Some (words_of r)) (option_map bounds_text b)) is.without_read
          ∙ ap (λ (name : List ℕ). line_with_both name (words_of c.number) (words_of r)) is.name;
    }
