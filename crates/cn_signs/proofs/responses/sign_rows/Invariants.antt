use Rattle.std.proofs.Common.{◌≡◌, ◌<◌, ◌↔◌, ℕ, length}
use Rattle.std.specs.Prelude.{IsBitSet, slice_index}
use Rattle.cn_choice.specs.Renumbering.{other}
use Rattle.cn_signs.specs.SignChecks.{Answers}
use Rattle.cn_signs.specs.StateSets.{InTeam}
use Rattle.cn_signs.proofs.responses.sign_rows.Given as goal

-- the rows of the operations so far
abbrev pub invariant-loop-operation : goal.invariant-loop-operation
invariant-loop-operation l = record {
  rows : (o : ℕ) → o < l.operation → (r : ℕ)
      → IsBitSet (slice_index l.rows o) r ↔ (Answers l.table o (InTeam l.states l.fn.side) r × ¬ Answers l.table o (InTeam l.states (other l.fn.side)) r);
  long : length l.rows ≡ 8;
}
