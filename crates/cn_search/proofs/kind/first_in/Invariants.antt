use Rattle.std.proofs.Common.{◌≡◌, ◌++◌, List, length}
use Rattle.cn_choice.specs.Canonical.{Choice}
use Rattle.cn_choice.specs.Live.{live_in}
use Rattle.cn_finding.specs.Evidence.{NoneIs}
use Rattle.cn_search.proofs.kind.first_in.Given as goal

-- the choices so far and those that are left are all, and none so far is a witness of the kind
abbrev pub invariant-loop-choice : goal.invariant-loop-choice
invariant-loop-choice g l = (passed : List Choice) × (passed ++ l.choices ≡ live_in l.table l.block) × NoneIs (g.K.Kind.holds l.table) passed

abbrev pub decreases-loop-choice : goal.decreases-loop-choice
decreases-loop-choice g l = length l.choices
