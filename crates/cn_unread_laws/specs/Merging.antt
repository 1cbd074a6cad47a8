-- A protocol over merged types. New here.
use Rattle.std.specs.Prelude.{ℕ}
use Rattle.cn_consensus.specs.Protocol.{Protocol}

-- the same protocol over the merged types: object i starts in the state to which h i maps its own
abbrev pub merged : {L V : Type 0} → (ℕ → ℕ → ℕ) → Protocol L V → Protocol L V
merged h P = record {
  start = P.start;
  action = P.action;
  registers = P.registers;
  objects = λ i. h i (P.objects i);
}
