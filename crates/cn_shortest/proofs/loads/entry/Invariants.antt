use Rattle.std.proofs.Common.{◌+◌, length}
use Rattle.cn_shortest.specs.Loads.{table_of}
use Rattle.cn_shortest.proofs.Entries.{EntryTo}
use Rattle.cn_shortest.proofs.loads.entry.Given as goal

-- the least load by the sights so far
abbrev pub invariant-loop-which : goal.invariant-loop-which
invariant-loop-which l = EntryTo (table_of l.rows) (length l.rows + 1) l.fn.budget l.fn.roots l.which l.load
