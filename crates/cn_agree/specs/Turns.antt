-- The next action of a process at its place.
use Rattle.cn_agree.specs.declared.local.Stage.{Stage}
use Rattle.cn_agree.specs.declared.local.Local.{Local}
use Rattle.cn_agree.specs.declared.local.Local.TheVariants.{NotBegun, Active, Decided}

-- the same local state with this next action
abbrev pub with_next : {V : Type 0} → Stage → Local V → Local V
with_next next NotBegun = NotBegun
with_next next (Active i x stage) = Active i x next
with_next next (Decided y) = Decided y
