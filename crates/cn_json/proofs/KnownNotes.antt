-- The notes of a table are of its operations and of its states.
use Rattle.std.proofs.Common.{ℕ, ◌<◌, List, length, get_or, map, All}
use Rattle.std.proofs.lemmas.List.Elements.{Contains-get_or}
use Rattle.cn_table.specs.Reach.{Leads}
use Rattle.cn_table.specs.TypeTable.{TypeTable}
use Rattle.cn_table.specs.declared.elements.State.{State}
use Rattle.cn_flaws.specs.Notes.{AreIdle, AreThose, AreUnreached, IsIdle}
use Rattle.cn_flaws.specs.declared.notes.IdleOperation.{IdleOperation}
use Rattle.cn_json.proofs.KnownSets.{of_images}

all_have : (Has : ℕ → Type 0) (numbers : List ℕ) → AreThose Has numbers → All Has numbers
all_have Has numbers those = λ k d l. (those.each (get_or numbers k d)).0 (Contains-get_or numbers k d l)

pub known_idle : (t : TypeTable) (list : List IdleOperation) → AreIdle t list → All (λ i. i.operation.0 < length t.operations) list
known_idle t list idle = λ k d l.
    (of_images (λ o. (o < length t.operations) × IsIdle t o) (λ (i : IdleOperation). i.operation.0) list (all_have _ _ idle.operations) k d l).0

pub known_unreached : (t : TypeTable) (list : List State) → AreUnreached t list → All (λ q. q.0 < length t.states) list
known_unreached t list unreached = λ k d l.
    (of_images (λ q. (q < length t.states) × ¬ Leads t 0 q) (λ (q : State). q.0) list (all_have _ _ unreached) k d l).0
