-- The number of a type up to a limit and its first witness.
use Rattle.std.specs.Prelude.{◌≡◌, ℕ, None, MatchOption, IsSomeAnd}
use Rattle.cn_table.specs.TypeTable.{TypeTable}
use Rattle.cn_choice.specs.Discerning.{IsNumberUpTo}
use Rattle.cn_choice.specs.Live.{live_choices}
use Rattle.cn_finding.specs.Evidence.{IsFirstWitness}
use Rattle.cn_search.specs.declared.outline.Outline.{Outline}

-- the number up to the limit, and the first live canonical witness at it; none if there is no number
pub record IsOutlineFor (t : TypeTable) (limit : ℕ) (o : Outline) : Type 0 where
  pub same_limit : o.limit ≡ limit
  pub number : IsNumberUpTo t limit o.number
  pub witness : MatchOption o.number (o.witness ≡ None)
      (λ n. IsSomeAnd o.witness (IsFirstWitness t (live_choices t n)))
