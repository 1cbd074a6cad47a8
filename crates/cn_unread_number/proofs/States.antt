-- Where some silent operations tell the states, all of them do.
use Rattle.std.proofs.Common.{ℕ, ◌↔◌, List}
use Rattle.cn_table.specs.TypeTable.{TypeTable}
use Rattle.cn_unread.specs.Telling.{LooksTellStates}
use Rattle.cn_views.specs.SilentOperations.{AreSilentOperations}
use Rattle.cn_views.proofs.Telling.{all_look, some_alike}
use Rattle.cn_unread_number.specs.Evidence.{SomeLooksTellStates}

pub all_tell_states : (t : TypeTable) (all : List ℕ) → AreSilentOperations t all
    → LooksTellStates t all ↔ SomeLooksTellStates t
all_tell_states t all are = (
  λ tell. (all, all_look t all are, tell),
  λ some p q l m alike. some.2 p q l m (some_alike t all are some.0 some.1 p q alike),
)
