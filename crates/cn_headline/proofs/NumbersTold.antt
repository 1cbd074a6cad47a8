-- What the numbers that commands tell say of all protocols.
use Rattle.std.proofs.Common.{◌≡◌, ℕ, ◌<◌, ◌≤◌, ◌^◌, ◌⊎◌, List, Option, Some, None, Result, Ok, Err}
use Rattle.std.proofs.Common.{Bool, true, false, ◌&&◌, refl, sym, subst, arith, inl, inr}
use Rattle.std.specs.Prelude.{nat_le, if◌then◌else◌}
use Rattle.std.specs.Result.{result_map_both}
use Rattle.std.proofs.lemmas.Bool.{leb-true}
use Rattle.cn_table.specs.Faults.{reading}
use Rattle.cn_table.specs.TypeTable.{TypeTable}
use Rattle.cn_table.specs.declared.fault.TableFault.{TableFault}
use Rattle.cn_search.specs.Faults.{number_fault}
use Rattle.cn_search.specs.NumberText.{number_text}
use Rattle.cn_search.specs.Numbers.{IsNumberOf}
use Rattle.cn_search.specs.declared.exact.ConsensusNumber.{ConsensusNumber}
use Rattle.cn_search.specs.declared.exact.ConsensusNumber.TheVariants.{Finite, Infinite}
use Rattle.cn_search.specs.declared.fault.FindFault.TheVariants.{BadLimit}
use Rattle.cn_app.specs.Commands.Classify.{AreWordsFor, given_limit_fault, number_words}
use Rattle.cn_headline.specs.ConsensusNumber.{IsBelow, IsNumberText, TellsNumber, TextAtLeast}
use Rattle.cn_headline.specs.ConsensusNumber.{TextExactly, TextInfinite, WordsTell, told}
use Rattle.cn_io.specs.FaultText.{plain_of}
use Rattle.cn_io.specs.Texts.Contents.{table_in}
use Rattle.cn_io.specs.declared.fault.AppFault.{AppFault}
use Rattle.cn_io.specs.declared.fault.AppFault.TheVariants.{Table}
use Rattle.cn_headline.proofs.NumberWords.{IsSmall, told_small, words_up_to}
use Rattle.cn_headline.proofs.NumberWords.{at_least_not_infinite, exactly_not_at_least}
use Rattle.cn_headline.proofs.NumberWords.{exactly_not_infinite, same_at_least, same_exactly}

-- ---- limits and tables

-- a limit without a fault is from 2 to 8
limit_range : (limit : ℕ) → number_fault limit ≡ None → (2 ≤ limit) × (limit ≤ 8)
limit_range limit e = by_test (nat_le 2 limit) (nat_le limit 8) refl refl e
  where
    by_test : (a b : Bool) → nat_le 2 limit ≡ a → nat_le limit 8 ≡ b
        → (if a && b then None else Some BadLimit) ≡ None → (2 ≤ limit) × (limit ≤ 8)
    by_test true true p q f = (leb-true 2 limit p, leb-true limit 8 q)
    by_test true false p q f = absurd (cc f)
    by_test false b p q f = absurd (cc f)

-- a table that a text spells is read from the bytes of the text
pub read_whole : (bytes : List ℕ) (t : TypeTable) → table_in bytes ≡ Ok t → reading bytes ≡ Ok t
read_whole bytes t e = by_test _ _ e
  where
    by_reading : (r : Result TypeTable TableFault)
        → result_map_both (λ x. x) (λ f. plain_of (Table f)) r ≡ Ok t → r ≡ Ok t
    by_reading (Ok x) f = cc f
    by_reading (Err x) f = absurd (cc f)

    by_test : (b : Bool) (fault : AppFault)
        → (if b then Err fault else result_map_both (λ x. x) (λ f. plain_of (Table f)) (reading bytes)) ≡ Ok t
        → reading bytes ≡ Ok t
    by_test true fault f = absurd (cc f)
    by_test false fault f = by_reading (reading bytes) f

-- ---- a task

-- a property of numbers of processes, for a type of so many states; up to which limit a number is
-- the greatest with it; and what a number is and solves
module _ (D : ℕ → Type 0) (states : ℕ) (UpTo : ℕ → Option ℕ → Type 0) (Is Solves : ℕ → Type 0)
    (small : (limit : ℕ) (number : Option ℕ) → limit ≤ 8 → UpTo limit number → IsSmall number)
    (below : (limit : ℕ) (number : Option ℕ) → 2 ≤ limit → UpTo limit number → IsBelow limit number
    → Is (told number))
    (solved : (limit : ℕ) (number : Option ℕ) → 2 ≤ limit → UpTo limit number → Solves (told number))
    (greatest : (n : ℕ) → 1 ≤ n → (2 ≤ n → D n) → ((m : ℕ) → n < m → ¬ D m) → Is n)
    (enough : (n : ℕ) → 2 ≤ n → D n → Solves n) (few : states < 2 ^ 64) where
  -- what a number with no limit tells
  pub tells : (number : ConsensusNumber) → IsNumberOf D states number → TellsNumber Is Solves number
  tells (Finite n) is = greatest n is.0 is.2 is.3
  tells Infinite is = λ n two. enough n two (is n two)

  finite_small : (n : ℕ) → (n ≤ 2) ⊎ (n ≤ states) → n < 2 ^ 64
  finite_small n (inl l) = omega (arith, l)
  finite_small n (inr l) = omega (arith, l, few)

  -- the words of a number with no limit
  exact_words_tell : (number : ConsensusNumber) → IsNumberOf D states number
      → WordsTell Is Solves (number_text number)
  exact_words_tell (Finite n) is =
      let s = finite_small n is.1 in
      let t = tells (Finite n) is in
      record {
        exact = λ m l e. subst Is (same_exactly n m s l e) t;
        at_least = λ m l e. absurd (exactly_not_at_least n m s e);
        infinite = λ e. absurd (exactly_not_infinite n s e);
      }
  exact_words_tell Infinite is = record {
    exact = λ m l e. absurd (exactly_not_infinite m l (sym e));
    at_least = λ m l e. absurd (at_least_not_infinite m l (sym e));
    infinite = λ e. tells Infinite is;
  }

  -- the words of a number up to a limit
  limited_words_tell : (limit : ℕ) (number : Option ℕ) → 2 ≤ limit → limit ≤ 8 → UpTo limit number
      → WordsTell Is Solves (number_words limit number)
  limited_words_tell limit number two eight up =
      let s = told_small number (small limit number eight up) in
      elim (words_up_to limit number) [
        | inl w ↦ subst (WordsTell Is Solves) (sym w.1) (record {
          exact = λ m l e. subst Is (same_exactly (told number) m s l e) (below limit number two up w.0);
          at_least = λ m l e. absurd (exactly_not_at_least (told number) m s e);
          infinite = λ e. absurd (exactly_not_infinite (told number) s e);
        })
        | inr w ↦ subst (WordsTell Is Solves) (sym w) (record {
          exact = λ m l e. absurd (exactly_not_at_least m (told number) l (sym e));
          at_least = λ m l e. subst Solves (same_at_least (told number) m s l e) (solved limit number two up);
          infinite = λ e. absurd (at_least_not_infinite (told number) s e);
        })
      ]

  pub words_tell : (limit : Option ℕ) (words : List ℕ) → given_limit_fault limit ≡ None
      → AreWordsFor (IsNumberOf D states) UpTo limit words → WordsTell Is Solves words
  words_tell None words range (number, is, e) =
      subst (WordsTell Is Solves) (sym e) (exact_words_tell number is)
  words_tell (Some limit) words range (number, up, e) =
      let within = limit_range limit range in
      subst (WordsTell Is Solves) (sym e) (limited_words_tell limit number within.0 within.1 up)

  -- ---- the words of a number are those of a number

  exact_words_text : (number : ConsensusNumber) → IsNumberOf D states number
      → IsNumberText (number_text number)
  exact_words_text (Finite n) is = TextExactly (finite_small n is.1)
  exact_words_text Infinite is = TextInfinite

  limited_words_text : (limit : ℕ) (number : Option ℕ) → limit ≤ 8 → UpTo limit number
      → IsNumberText (number_words limit number)
  limited_words_text limit number eight up =
      let s = told_small number (small limit number eight up) in
      elim (words_up_to limit number) [
        | inl w ↦ subst IsNumberText (sym w.1) (TextExactly s)
        | inr w ↦ subst IsNumberText (sym w) (TextAtLeast s)
      ]

  pub words_text : (limit : Option ℕ) (words : List ℕ) → given_limit_fault limit ≡ None
      → AreWordsFor (IsNumberOf D states) UpTo limit words → IsNumberText words
  words_text None words range (number, is, e) = subst IsNumberText (sym e) (exact_words_text number is)
  words_text (Some limit) words range (number, up, e) =
      subst IsNumberText (sym e) (limited_words_text limit number (limit_range limit range).1 up)
