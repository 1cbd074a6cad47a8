-- What a certificate of a plan tree says.
use Rattle.std.specs.Prelude.{ℕ, List}
use Rattle.cn_table.specs.declared.elements.Operation.{Operation}
use Rattle.cn_meetings.specs.declared.sight.Sight.{Sight}

-- the start state of a node, what its processes see of the state, the operation of each process that
-- comes to it, and the sizes of its teams
pub record TreeNode : Type 0 where
  pub start : ℕ
  pub sight : Sight
  pub operations : List Operation
  pub teams : List ℕ

-- the nodes in the order of their numbers, the number of processes, the greatest number of own steps
-- of one, and the bytes of the type's name
pub record TreeCertificate : Type 0 where
  pub nodes : List TreeNode
  pub processes : ℕ
  pub steps : ℕ
  pub type_name : List ℕ
