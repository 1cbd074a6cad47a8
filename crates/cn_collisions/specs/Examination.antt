-- The answer of the examination of a choice.
use Rattle.std.specs.Prelude.{◌≡◌}
use Rattle.cn_collisions.specs.declared.examination.Examined.{Examined}
use Rattle.cn_collisions.specs.declared.examination.Examined.TheVariants.{Splits, Meets}
use Rattle.cn_collisions.specs.declared.examination.RecordedOrders.{RecordedOrders}
use Rattle.cn_table.specs.TypeTable.{TypeTable}
use Rattle.cn_choice.specs.Canonical.{Choice, raw_choice_of}
use Rattle.cn_choice.specs.Collisions.{Collision, IsRecordedCollision}
use Rattle.cn_choice.specs.Discerning.{IsWitness}

-- `Splits` for a witness, and the recorded collision for any other choice
abbrev pub IsExamined : TypeTable → Choice → Examined → Type 0
IsExamined t c Splits = IsWitness t (raw_choice_of c)
IsExamined t c (Meets e) =
    (e.choice ≡ c) × IsRecordedCollision t (raw_choice_of c) e.process e.alpha e.beta

-- the process and the orders, with this choice
abbrev pub collision_with : Choice → RecordedOrders → Collision
collision_with c o =
    record { choice = c; process = o.process; alpha = o.alpha.items; beta = o.beta.items }

-- the process and the orders of the recorded collision of the choice
abbrev pub AreRecordedOrders : TypeTable → Choice → RecordedOrders → Type 0
AreRecordedOrders t c o =
    IsRecordedCollision t (raw_choice_of c) o.process o.alpha.items o.beta.items
