-- The worlds that a round can reach.
use Rattle.std.specs.Prelude.{ℕ, ◌≡◌, ◌≢◌, ◌<◌, List, [], ◌∷◌, ◌++◌, replicate, None}
use Rattle.cn_proto.specs.Protocol.{ProtocolOfRounds}
use Rattle.cn_agree.specs.declared.local.Local.TheVariants.{NotBegun}
use Rattle.cn_agree.specs.World.{World, fresh_node, local_at}
use Rattle.cn_agree.specs.Steps.{after_begin, after_step}

-- the first world of n processes: nothing has happened
abbrev pub first_world : {V : Type 0} → ProtocolOfRounds → ℕ → ℕ → World V
first_world P n nodes = record {
  nodes = replicate nodes (fresh_node P.start);
  locals = replicate n NotBegun;
  inputs = replicate n None;
  first = None;
}

abbrev pub HasBegun : {V : Type 0} → World V → ℕ → Type 0
HasBegun w p = local_at w p ≢ NotBegun

-- beginnings and the steps of this schedule lead from the first world here; a process begins once,
-- before the schedule names it
pub data IsReached {V : Type 0} (P : ProtocolOfRounds) (n : ℕ) (nodes : ℕ) : List ℕ
    → World V → Type 0 where
  Opens : IsReached P n nodes [] (first_world P n nodes)
  Begins : {schedule : List ℕ} {w : World V} (p : ℕ) (x : V) → p < n → local_at w p ≡ NotBegun
      → IsReached P n nodes schedule w → IsReached P n nodes schedule (after_begin p x w)
  Steps : {schedule : List ℕ} {w : World V} (p : ℕ) → p < n → HasBegun w p
      → IsReached P n nodes schedule w
      → IsReached P n nodes (schedule ++ p ∷ []) (after_step P p w)
