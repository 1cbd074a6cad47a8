-- What an explanation tells, as one value.
use Rattle.std.specs.Prelude.{◌≡◌, Bool, Option, None, All, IfSome, IsSomeAnd, MatchOption}
use Rattle.cn_table.specs.TypeTable.{TypeTable}
use Rattle.cn_interference.specs.Pairs.{ArePairsApart}
use Rattle.cn_interference.specs.Rules.{IsRuleOf}
use Rattle.cn_stocks.specs.declared.lasting.search.Lasting.{Lasting}
use Rattle.cn_cert.specs.Certificate.{Certificate}
use Rattle.cn_check.specs.Verdict.{IsAccepted}
use Rattle.cn_reasons.specs.Known.{IsKnownLasting, IsKnownPair, IsKnownRefutation, IsKnownWay}
use Rattle.cn_reasons.specs.Known.{IsKnownWitness}
use Rattle.cn_reasons.specs.Lasting.{IsLastingWitnessOf}
use Rattle.cn_reasons.specs.Refutations.{refuted_processes, IsRefutationOf}
use Rattle.cn_reasons.specs.Ways.{IsWayOf}
use Rattle.cn_reasons.specs.Witnesses.{IsWitnessOf}
use Rattle.cn_reasons.specs.declared.explanation.Explanation.{Explanation}
use Rattle.cn_reasons.specs.declared.numbers.TypeNumber.{TypeNumber}

-- each part is of the table
pub record IsExplanation (e : Explanation) : Type 0 where
  pub witness : IfSome e.witness (IsKnownWitness e.table)
  pub refutation : IfSome e.refutation (IsKnownRefutation (IsKnownWay e.table))
  pub lasting : IfSome e.lasting (IsKnownLasting e.table)
  pub apart : All (IsKnownPair e.table) e.apart.items

-- the evidence is that of the certificate: its witness, and what it refutes
pub record ShowsCertificate (t : TypeTable) (c : Certificate) (all : Bool) (e : Explanation)
    : Type 0 where
  pub accepted : IsAccepted t c
  pub limit : e.limit ≡ c.limit
  pub version : e.version ≡ c.version
  pub witness : MatchOption c.witness (e.witness ≡ None)
      (λ w. IsSomeAnd e.witness (IsWitnessOf t w))
  pub refutation : MatchOption (refuted_processes c.limit c.number) (e.refutation ≡ None)
      (λ n. IsSomeAnd e.refutation (IsRefutationOf (IsWayOf t) n all c.collisions))

-- the explanation is of this number of the type, with the evidence of this certificate, these
-- operations that last, and the rule and the pairs of the table
pub record Explains (t : TypeTable) (c : Certificate) (number : TypeNumber)
    (lasting : Option Lasting) (all : Bool) (e : Explanation)
    : Type 0 where
  pub known : IsExplanation e
  pub is_table : e.table ≡ t
  pub is_number : e.number ≡ number
  pub is_all : e.all ≡ all
  pub shows : ShowsCertificate t c all e
  pub lasts : MatchOption lasting (e.lasting ≡ None)
      (λ l. IsSomeAnd e.lasting (IsLastingWitnessOf t l))
  pub rule : IsRuleOf t e.rule
  pub apart : ArePairsApart t e.apart.items
