use Rattle.std.proofs.Common.{◌≡◌, ◌++◌, List, length}
use Rattle.cn_choice.specs.Canonical.{Choice}
use Rattle.cn_choice.specs.Live.{live_in}
use Rattle.cn_search.specs.Kept.{KeepsFor}
use Rattle.cn_search.proofs.search.add_block.Given as goal

-- the choices so far and those that are left are all, and the collision of each so far is kept behind those that were kept before
abbrev pub invariant-loop-choice : goal.invariant-loop-choice
invariant-loop-choice g l =
    (passed : List Choice) × (passed ++ l.choices ≡ live_in l.table l.block)
    × ((before : List Choice) → KeepsFor g.E.Evidence.keeps l.table before l.fn.evidence → KeepsFor g.E.Evidence.keeps l.table (before ++ passed) l.evidence)

abbrev pub decreases-loop-choice : goal.decreases-loop-choice
decreases-loop-choice g l = length l.choices
