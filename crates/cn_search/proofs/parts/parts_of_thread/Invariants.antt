use Rattle.std.proofs.Common.{All}
use Rattle.cn_search.specs.Parts.{IsPartOf}
use Rattle.cn_search.proofs.parts.parts_of_thread.Given as goal

-- each part so far is that of its block
abbrev pub invariant-loop-turn : goal.invariant-loop-turn
invariant-loop-turn g l = All (IsPartOf g.E.Evidence.keeps l.table l.blocks) l.parts.items
