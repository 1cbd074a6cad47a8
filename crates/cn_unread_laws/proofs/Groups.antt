-- Groups of processes that agree, and a node at which two groups become one.
use Rattle.std.specs.Prelude.{◌≡◌, ℕ, zero, suc, ◌<◌, List, Bool, Option, None, Some}
use Rattle.cn_table.specs.TypeTable.{TypeTable}
use Rattle.cn_choice.specs.declared.team.Team.{Team}
use Rattle.cn_choice.specs.declared.team.Team.TheVariants.{A, B}
use Rattle.cn_consensus.specs.Consensus.{HasDecided, IsBoundedWaitFree, IsSchedule}
use Rattle.cn_consensus.specs.Protocol.{Action, Protocol}
use Rattle.cn_consensus.specs.Protocol.Action.{Decide, ReadRegister, WriteRegister, ApplyOperation}
use Rattle.cn_consensus.specs.Protocol.Action.{ReadObject}
use Rattle.cn_unread.specs.Nodes.{Move, Node}
use Rattle.cn_unread.specs.Nodes.Move.{Apply, Finish}

-- the local states: a process has its input; it is in a state of the protocol below; it is at the
-- node; it has read the register of the team that was first
pub data Loc : Type 0 where
  Input : Bool → Loc
  Lower : Loc → Loc
  Inside : ℕ × ℕ → Loc
  Result : Option Bool → Loc

-- the register of a team at the node
abbrev pub register_of : Team → ℕ
register_of A = 0
register_of B = 1

-- a process that has decided below goes to the node, if it has a seat there, and writes what it has
-- decided to the register of its team
abbrev pub leave : Node → (ℕ → Team) → Option ℕ → Bool → Action Loc (Option Bool)
leave node team None x = Decide x
leave node team (Some j) x = WriteRegister (register_of (team j)) (Some x) (Inside (node.start j))

-- the action of the protocol below, with two registers and an object before its own
abbrev pub raised : Node → (ℕ → Team) → Option ℕ → Action Loc (Option Bool)
    → Action Loc (Option Bool)
raised node team seat (Decide x) = leave node team seat x
raised node team seat (ReadRegister i k) = ReadRegister (suc (suc i)) (λ v. Lower (k v))
raised node team seat (WriteRegister i v l) = WriteRegister (suc (suc i)) v (Lower l)
raised node team seat (ApplyOperation i o k) = ApplyOperation (suc i) o (λ r. Lower (k r))
raised node team seat (ReadObject i k) = ReadObject (suc i) (λ q. Lower (k q))

-- a move at the node; who has finished reads the register of the team that was first
abbrev pub inside : Move → Action Loc (Option Bool)
inside (Apply o k) = ApplyOperation 0 o (λ r. Inside (k r))
inside (Finish side) = ReadRegister (register_of side) (λ v. Result v)

-- the action of a process at the node. One without a seat is never there.
abbrev pub at_node : Node → Option ℕ → ℕ × ℕ → Action Loc (Option Bool)
at_node node None x = ReadRegister 0 (λ v. Result None)
at_node node (Some j) x = inside (node.move j x)

-- the action by the local state
abbrev pub action_with_node : Node → (ℕ → Team) → (ℕ → Option ℕ) → Protocol Loc (Option Bool) → ℕ → Loc
    → Action Loc (Option Bool)
action_with_node node team seat P p (Input x) = Decide x
action_with_node node team seat P p (Lower l) = raised node team (seat p) (P.action p l)
action_with_node node team seat P p (Inside x) = at_node node (seat p) x
action_with_node node team seat P p (Result None) = ReadRegister 0 (λ v. Result None)
action_with_node node team seat P p (Result (Some x)) = Decide x

-- two registers, which hold nothing, before those of f
abbrev pub two_before : (ℕ → Option Bool) → ℕ → Option Bool
two_before f zero = None
two_before f (suc zero) = None
two_before f (suc (suc i)) = f i

-- an object in the state q before those of f
abbrev pub one_before : ℕ → (ℕ → ℕ) → ℕ → ℕ
one_before q f zero = q
one_before q f (suc i) = f i

-- the protocol P, and then the node for the processes that have a seat
abbrev pub with_node : Node → (ℕ → Team) → (ℕ → Option ℕ) → Protocol Loc (Option Bool)
    → Protocol Loc (Option Bool)
with_node node team seat P = record {
  start = λ p x. Lower (P.start p x);
  action = λ p l. action_with_node node team seat P p l;
  registers = λ i. two_before P.registers i;
  objects = λ i. one_before node.state P.objects i;
}

-- consensus within each group, where g gives the group of each process
pub record IsGroupConsensus {L V : Type 0} (t : ℕ → TypeTable) (n : ℕ) (g : ℕ → ℕ)
    (P : Protocol L V) : Type 0 where
  pub agreement : (inputs : ℕ → Bool) (s : List ℕ) → IsSchedule n s → (p q : ℕ) (x y : Bool)
      → p < n → q < n → g p ≡ g q → HasDecided t P inputs s p x → HasDecided t P inputs s q y
      → x ≡ y
  pub validity : (inputs : ℕ → Bool) (s : List ℕ) → IsSchedule n s → (p : ℕ) (x : Bool) → p < n
      → HasDecided t P inputs s p x → (q : ℕ) × (q < n) × (g q ≡ g p) × (inputs q ≡ x)
  pub wait_freedom : IsBoundedWaitFree t n P

-- seats at a node: two groups have seats, one in each team, and become one
pub record IsSeating (roles : ℕ) (team : ℕ → Team) (g h : ℕ → ℕ) (seat : ℕ → Option ℕ) : Type 0
  where
    pub below : (p j : ℕ) → seat p ≡ Some j → j < roles
    pub alone : (p q j : ℕ) → seat p ≡ Some j → seat q ≡ Some j → p ≡ q
    pub teams : (p q i j : ℕ) → seat p ≡ Some i → seat q ≡ Some j → team i ≡ team j → g p ≡ g q
    pub joined : (p q i j : ℕ) → seat p ≡ Some i → seat q ≡ Some j → h p ≡ h q
    pub apart : (p q : ℕ) → seat p ≡ None → seat q ≡ None → h p ≡ h q → g p ≡ g q
    pub mixed : (p q j : ℕ) → seat p ≡ None → seat q ≡ Some j → h p ≡ h q → ⊥
    pub kept : (p q : ℕ) → g p ≡ g q → h p ≡ h q
