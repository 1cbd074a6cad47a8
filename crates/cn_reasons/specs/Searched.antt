-- What the search for a reason goes by: a choice with the words of its table, and sets of states.
-- A set is a number whose bit q says whether state q is in it.
use Rattle.std.specs.Prelude.{◌≡◌, ℕ, ◌<◌, ◌≤◌, length, IsBitSet}
use Rattle.cn_choice.specs.Canonical.{raw_choice_of}
use Rattle.cn_choice.specs.RawChoices.{IsRawChoice}
use Rattle.cn_choice.specs.declared.limits.TheConstants.{MOST_PROCESSES}
use Rattle.cn_reasons.specs.Onward.{AreOnward}
use Rattle.cn_reasons.specs.declared.search.Subject.{Subject}

-- the raw choice is that of the choice, which is one of the table; and the words are those of the
-- table
pub record IsSubject (s : Subject) : Type 0 where
  pub fits : IsRawChoice s.table.now (length s.raw.now.operations) s.raw.now
  pub few : length s.raw.now.operations ≤ MOST_PROCESSES
  pub same : s.raw.now ≡ raw_choice_of s.choice.now
  pub onward : AreOnward s.table.now s.onward.now

-- the least number in both sets
pub record IsLeastIn (from_a from_b least : ℕ) : Type 0 where
  pub in_a : IsBitSet from_a least
  pub in_b : IsBitSet from_b least
  pub below : (q : ℕ) → q < least → IsBitSet from_a q → ¬ IsBitSet from_b q
