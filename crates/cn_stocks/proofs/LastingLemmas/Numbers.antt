-- A finite number is at most the number of states.
use Rattle.std.proofs.Common.{ℕ, ◌<◌, ◌≤◌, length, arith}
use Rattle.cn_table.specs.TypeTable.{IsClosed, TypeTable}
use Rattle.cn_choice.specs.Discerning.{IsDiscerning}
use Rattle.cn_stocks.specs.Lasting.{NoneLast}
use Rattle.cn_stocks.proofs.Witnesses.{to_splits}
use Rattle.cn_stocks.proofs.LastingLemmas.Growth.{too_long}

-- of a type that is not n-discerning for every n there is no greater number than that of its states
pub never_above : (t : TypeTable) → IsClosed t → NoneLast t → (n : ℕ) → 3 ≤ n → length t.states < n → ¬ IsDiscerning t n
never_above t closed all n some enough d =
    let s = to_splits t n some d in
    too_long t closed s.0 s.1 s.2.0 s.2.1 s.2.3 (omega (arith, some, s.2.2)) (omega (arith, enough, s.2.2)) all
