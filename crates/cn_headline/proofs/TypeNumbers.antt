-- What the numbers of a type say of all protocols.
use Rattle.std.proofs.Common.{◌≡◌, ℕ, ◌+◌, ◌<◌, ◌≤◌, List, length, Option, Some, None}
use Rattle.std.proofs.Common.{arith, inl, inr, sym, ◌∙◌, subst}
use Rattle.std.proofs.Math.Nat.{eq-or-lt_of_le}
use Rattle.cn_table.specs.TypeTable.{IsClosed, IsTypeTable, TypeTable}
use Rattle.cn_choice.specs.Discerning.{IsDiscerning, IsNumberUpTo}
use Rattle.cn_crashes.specs.RecoverableConsensusNumber.{IsRecoverableConsensusNumber}
use Rattle.cn_crashes.specs.RecoverableConsensusNumber.{SolvesRecoverableConsensus}
use Rattle.cn_recover.specs.Recording.{HasRecoverableNumber, IsRecording, IsRecoverableNumberUpTo}
use Rattle.cn_search.specs.Numbers.{HasNumber}
use Rattle.cn_search.specs.declared.exact.ConsensusNumber.{ConsensusNumber}
use Rattle.cn_solvable.specs.Solving.{IsConsensusNumber, SolvesConsensus}
use Rattle.cn_app.specs.Commands.Classify.{AreNumberWords, AreRecoverableWords, IsClassified}
use Rattle.cn_app.specs.Commands.Classify.{IsRecoverablyClassified, given_limit_fault}
use Rattle.cn_app.specs.Commands.Classify.{line_with, line_with_both}
use Rattle.cn_headline.specs.ConsensusNumber.{IsNumberText, TellsConsensus, TellsNumber}
use Rattle.cn_headline.specs.ConsensusNumber.{TellsRecoverable, WordsTell}
use Rattle.cn_headline.proofs.NumbersTold as told_numbers
use Rattle.cn_headline.proofs.NumberWords.{IsSmall, text_no_comma, words_of_both, words_of_line}

module _ {L V : Type 0} (closed : (t : TypeTable) → IsTypeTable t → IsClosed t)
    (found : (t : TypeTable) (limit n : ℕ) → IsClosed t → IsNumberUpTo t limit (Some n)
    → n < limit → IsConsensusNumber L V t n)
    (none : (t : TypeTable) (limit : ℕ) → IsClosed t → 0 < length t.states → 2 ≤ limit
    → IsNumberUpTo t limit None → IsConsensusNumber L V t 1)
    (limited : (t : TypeTable) (limit n : ℕ) → IsNumberUpTo t limit (Some n) → SolvesConsensus t n)
    (enough : (t : TypeTable) (n : ℕ) → 2 ≤ n → IsDiscerning t n → SolvesConsensus t n) where
  pub tells_up_to : (t : TypeTable) (limit : ℕ) (number : Option ℕ) → IsTypeTable t → 2 ≤ limit
      → IsNumberUpTo t limit number → TellsConsensus L V t limit number
  tells_up_to t limit None table two up =
      let is = none t limit (closed t table) (omega (arith, table.states.some)) two up in
      record { solved = is.solves; exact = λ below. is }
  tells_up_to t limit (Some n) table two up = record {
    solved = limited t limit n up;
    exact = λ below. found t limit n (closed t table) up below;
  }

  small : (t : TypeTable) (limit : ℕ) (number : Option ℕ) → limit ≤ 8 → IsNumberUpTo t limit number
      → IsSmall number
  small t limit None few up = tt
  small t limit (Some n) few up = omega (arith, up.1, few)

  greatest : (t : TypeTable) → IsTypeTable t → (n : ℕ) → 1 ≤ n → (2 ≤ n → IsDiscerning t n)
      → ((m : ℕ) → n < m → ¬ IsDiscerning t m) → IsConsensusNumber L V t n
  greatest t table n one is above = elim (eq-or-lt_of_le one) [
    | inl e ↦ subst (IsConsensusNumber L V t) e
        (none t 2 (closed t table) (omega (arith, table.states.some)) (omega arith) (λ m two le. above m (omega (arith, e, two))))
    | inr l ↦ found t (n + 1) n (closed t table)
        (omega (arith, l), omega arith, is (omega (arith, l)), λ m more le. above m more) (omega arith)
  ]

  pub tells : (t : TypeTable) (number : ConsensusNumber) → IsTypeTable t → HasNumber t number
      → TellsNumber (IsConsensusNumber L V t) (SolvesConsensus t) number
  tells t number table is =
      told_numbers.tells (IsDiscerning t) (length t.states) (IsNumberUpTo t) (IsConsensusNumber L V t)
      (SolvesConsensus t) (small t)
      (λ limit number two up b. (tells_up_to t limit number table two up).exact b)
      (λ limit number two up. (tells_up_to t limit number table two up).solved) (greatest t table)
      (enough t) (omega (arith, table.states.few)) number is

  pub words_tell : (t : TypeTable) (limit : Option ℕ) (words : List ℕ) → IsTypeTable t
      → given_limit_fault limit ≡ None → AreNumberWords t limit words
      → WordsTell (IsConsensusNumber L V t) (SolvesConsensus t) words
  words_tell t limit words table range is =
      told_numbers.words_tell (IsDiscerning t) (length t.states) (IsNumberUpTo t) (IsConsensusNumber L V t)
      (SolvesConsensus t) (small t)
      (λ limit number two up b. (tells_up_to t limit number table two up).exact b)
      (λ limit number two up. (tells_up_to t limit number table two up).solved) (greatest t table)
      (enough t) (omega (arith, table.states.few)) limit words range is

  pub words_text : (t : TypeTable) (limit : Option ℕ) (words : List ℕ) → IsTypeTable t
      → given_limit_fault limit ≡ None → AreNumberWords t limit words → IsNumberText words
  words_text t limit words table range is =
      told_numbers.words_text (IsDiscerning t) (length t.states) (IsNumberUpTo t) (IsConsensusNumber L V t)
      (SolvesConsensus t) (small t)
      (λ limit number two up b. (tells_up_to t limit number table two up).exact b)
      (λ limit number two up. (tells_up_to t limit number table two up).solved) (greatest t table)
      (enough t) (omega (arith, table.states.few)) limit words range is

module _ {L V : Type 0} (closed : (t : TypeTable) → IsTypeTable t → IsClosed t)
    (found : (t : TypeTable) (limit n : ℕ) → IsClosed t → IsRecoverableNumberUpTo t limit (Some n)
    → n < limit → IsRecoverableConsensusNumber L V t n)
    (none : (t : TypeTable) (limit : ℕ) → IsClosed t → 0 < length t.states → 2 ≤ limit
    → IsRecoverableNumberUpTo t limit None → IsRecoverableConsensusNumber L V t 1)
    (limited : (t : TypeTable) (limit n : ℕ) → IsRecoverableNumberUpTo t limit (Some n)
    → SolvesRecoverableConsensus t n)
    (enough : (t : TypeTable) (n : ℕ) → 2 ≤ n → IsRecording t n → SolvesRecoverableConsensus t n) where
  pub tells_recoverable_up_to : (t : TypeTable) (limit : ℕ) (number : Option ℕ) → IsTypeTable t
      → 2 ≤ limit → IsRecoverableNumberUpTo t limit number → TellsRecoverable L V t limit number
  tells_recoverable_up_to t limit None table two up =
      let is = none t limit (closed t table) (omega (arith, table.states.some)) two up in
      record { solved = is.solves; exact = λ below. is }
  tells_recoverable_up_to t limit (Some n) table two up = record {
    solved = limited t limit n up;
    exact = λ below. found t limit n (closed t table) up below;
  }

  small_recoverable : (t : TypeTable) (limit : ℕ) (number : Option ℕ) → limit ≤ 8
      → IsRecoverableNumberUpTo t limit number → IsSmall number
  small_recoverable t limit None few up = tt
  small_recoverable t limit (Some n) few up = omega (arith, up.1, few)

  greatest_recoverable : (t : TypeTable) → IsTypeTable t → (n : ℕ) → 1 ≤ n
      → (2 ≤ n → IsRecording t n) → ((m : ℕ) → n < m → ¬ IsRecording t m)
      → IsRecoverableConsensusNumber L V t n
  greatest_recoverable t table n one is above = elim (eq-or-lt_of_le one) [
    | inl e ↦ subst (IsRecoverableConsensusNumber L V t) e
        (none t 2 (closed t table) (omega (arith, table.states.some)) (omega arith) (λ m two le. above m (omega (arith, e, two))))
    | inr l ↦ found t (n + 1) n (closed t table)
        (omega (arith, l), omega arith, is (omega (arith, l)), λ m more le. above m more) (omega arith)
  ]

  pub tells_recoverable : (t : TypeTable) (number : ConsensusNumber) → IsTypeTable t
      → HasRecoverableNumber t number
      → TellsNumber (IsRecoverableConsensusNumber L V t) (SolvesRecoverableConsensus t) number
  tells_recoverable t number table is =
      told_numbers.tells (IsRecording t) (length t.states) (IsRecoverableNumberUpTo t)
      (IsRecoverableConsensusNumber L V t) (SolvesRecoverableConsensus t)
      (small_recoverable t)
      (λ limit number two up b. (tells_recoverable_up_to t limit number table two up).exact b)
      (λ limit number two up. (tells_recoverable_up_to t limit number table two up).solved)
      (greatest_recoverable t table) (enough t) (omega (arith, table.states.few)) number is

  pub recoverable_words_tell : (t : TypeTable) (limit : Option ℕ) (words : List ℕ) → IsTypeTable t
      → given_limit_fault limit ≡ None → AreRecoverableWords t limit words
      → WordsTell (IsRecoverableConsensusNumber L V t) (SolvesRecoverableConsensus t) words
  recoverable_words_tell t limit words table range is =
      told_numbers.words_tell (IsRecording t) (length t.states) (IsRecoverableNumberUpTo t)
      (IsRecoverableConsensusNumber L V t) (SolvesRecoverableConsensus t)
      (small_recoverable t)
      (λ limit number two up b. (tells_recoverable_up_to t limit number table two up).exact b)
      (λ limit number two up. (tells_recoverable_up_to t limit number table two up).solved)
      (greatest_recoverable t table) (enough t) (omega (arith, table.states.few)) limit words range is

-- ---- lines

-- a line with a number in words has the words of the type's number
pub line_has : (t : TypeTable) (limit : Option ℕ) (line words : List ℕ) → IsClassified t limit line
    → line ≡ line_with t.name words → AreNumberWords t limit words
line_has t limit line words is e =
    subst (AreNumberWords t limit) (words_of_line t.name is.words words (sym is.written ∙ e)) is.number

-- a line with both numbers in words has those of the type's numbers
pub line_has_both : (t : TypeTable) (limit : Option ℕ) (line words recoverable : List ℕ)
    → ((written : List ℕ) → AreNumberWords t limit written → IsNumberText written)
    → IsRecoverablyClassified t limit line → IsNumberText words
    → line ≡ line_with_both t.name words recoverable
    → AreNumberWords t limit words × AreRecoverableWords t limit recoverable
line_has_both t limit line words recoverable text is own e =
    let parts = words_of_both t.name is.words is.recoverable_words words recoverable
    (text_no_comma is.words (text is.words is.number)) (text_no_comma words own) (sym is.written ∙ e) in (
      subst (AreNumberWords t limit) parts.0 is.number,
      subst (AreRecoverableWords t limit) parts.1 is.recoverable,
    )
