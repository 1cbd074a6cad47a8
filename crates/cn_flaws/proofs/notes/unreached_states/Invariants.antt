use Rattle.std.proofs.Common.{map}
use Rattle.cn_table.specs.Reach.{Leads}
use Rattle.cn_flaws.proofs.NoteLemmas.{AreThoseBelow}
use Rattle.cn_flaws.proofs.notes.unreached_states.Given as goal

-- the states so far to which no operations lead
abbrev pub invariant-loop-number : goal.invariant-loop-number
invariant-loop-number l = AreThoseBelow (λ q. ¬ Leads l.table 0 q) l.number (map (λ q. q.0) l.unreached.items)
