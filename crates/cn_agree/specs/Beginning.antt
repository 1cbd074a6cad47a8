-- A round while its processes begin.
use Rattle.std.specs.Prelude.{ℕ, ◌≡◌, ◌<◌, List, [], ◌++◌, map, take, drop, replicate, Some, None}
use Rattle.cn_proto.specs.Plan.{Plan, protocol_of, processes_of, nodes_of}
use Rattle.cn_proto.specs.Protocol.{ProtocolOfRounds}
use Rattle.cn_agree.specs.declared.local.Stage.TheVariants.{Write}
use Rattle.cn_agree.specs.declared.local.Local.TheVariants.{NotBegun, Active}
use Rattle.cn_agree.specs.World.{World, fresh_node}
use Rattle.cn_agree.specs.Reached.{HasBegun}
use Rattle.cn_agree.specs.Rounds.{IsRoundOf}

-- a list of n elements: f of each of the first i of xs, then only d
abbrev pub front : {A B : Type 0} → (A → B) → B → ℕ → List A → ℕ → List B
front f d n xs i = map f (take i xs) ++ drop i (replicate n d)

-- the first i of n processes have begun with their inputs, and nothing else has happened
abbrev pub some_begun : {V : Type 0} → ProtocolOfRounds → ℕ → ℕ → List V → ℕ → World V
some_begun P n nodes inputs i = record {
  nodes = replicate nodes (fresh_node P.start);
  locals = front (λ x. Active 0 x Write) NotBegun n inputs i;
  inputs = front (λ x. Some x) None n inputs i;
  first = None;
}

-- a round of the plan whose first i processes have begun with their inputs, and no more
pub record HaveBegun {V : Type 0} (plan : Plan) (inputs : List V) (i : ℕ)
    (w : World V) : Type 0 where
  pub is : w ≡ some_begun (protocol_of plan) (processes_of plan) (nodes_of plan) inputs i
  pub round : IsRoundOf plan [] w

-- each of n processes has begun
abbrev pub AllHaveBegun : {V : Type 0} → ℕ → World V → Type 0
AllHaveBegun n w = (p : ℕ) → p < n → HasBegun w p
