use Rattle.std.specs.Prelude.{◌≡◌, MatchOption, None}
use Rattle.cn_choice.specs.Discerning.{IsDiscerning}
use Rattle.cn_search.specs.Search.{IsKnownAt}
use Rattle.cn_search.proofs.NumberLemmas.{HasTried}
use Rattle.cn_search.proofs.numbers.greatest_number.Given as goal

abbrev pub invariant-loop-n : goal.invariant-loop-n
invariant-loop-n g l = record {
  tried : HasTried (IsDiscerning l.table) l.n l.number;
  known : MatchOption l.number (l.witness ≡ None) (λ m. IsKnownAt l.table m l.witness);
}
