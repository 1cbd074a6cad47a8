-- Protocols that read no object.
use Rattle.std.specs.Prelude.{◌≢◌, ℕ, ◌<◌}
use Rattle.cn_consensus.specs.Protocol.{Action, Protocol}
use Rattle.cn_consensus.specs.Protocol.Action.{Decide, ReadRegister, WriteRegister, ApplyOperation}
use Rattle.cn_consensus.specs.Protocol.Action.{ReadObject}

-- the action does not read an object
abbrev pub ReadsNoObject : {L V : Type 0} → Action L V → Type 0
ReadsNoObject (Decide x) = Unit {0}
ReadsNoObject (ReadRegister i k) = Unit {0}
ReadsNoObject (WriteRegister i v l) = Unit {0}
ReadsNoObject (ApplyOperation i operation k) = Unit {0}
ReadsNoObject (ReadObject i k) = ⊥

-- a protocol of n processes without reads: whatever its local state is, none of them reads an
-- object next. It gets to know of objects by responses alone.
abbrev pub IsWithoutReads : {L V : Type 0} → ℕ → Protocol L V → Type 0
IsWithoutReads {L = L} n P = (p : ℕ) (l : L) → p < n → ReadsNoObject (P.action p l)

-- the action does not read object i
abbrev pub LeavesUnread : {L V : Type 0} → ℕ → Action L V → Type 0
LeavesUnread i (Decide x) = Unit {0}
LeavesUnread i (ReadRegister j k) = Unit {0}
LeavesUnread i (WriteRegister j v l) = Unit {0}
LeavesUnread i (ApplyOperation j operation k) = Unit {0}
LeavesUnread i (ReadObject j k) = j ≢ i

-- a protocol of n processes that never reads object i
abbrev pub NeverReads : {L V : Type 0} → ℕ → Protocol L V → ℕ → Type 0
NeverReads {L = L} n P i = (p : ℕ) (l : L) → p < n → LeavesUnread i (P.action p l)
