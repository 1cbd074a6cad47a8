use Rattle.std.specs.Prelude.{IsBitSet}
use Rattle.cn_outcomes.specs.Subsets.{LeavesState}
use Rattle.cn_outcomes.proofs.Unions.{Gathers, packed_part}
use Rattle.cn_outcomes.proofs.state_sets.states_of_rows.Given as goal

-- the states that the packed subsets so far leave
abbrev pub invariant-loop-number : goal.invariant-loop-number
invariant-loop-number l = Gathers (packed_part l.setting.links (LeavesState l.setting.table.now l.setting.choice.now l.setting.team)) l.number (IsBitSet l.all)
