use Rattle.std.specs.Prelude.{take}
use Rattle.cnum.specs.NamedTables.{AreNamed, bytes_of}
use Rattle.cnum.specs.Texts.{left_in, left_of}
use Rattle.cnum.proofs.runs.named_tables.Given as goal

abbrev pub invariant-loop-source : goal.invariant-loop-source
invariant-loop-source g l = AreNamed (left_of g.S.Read.remaining (left_in g.D.Disk.contents g.D.Reader.Read.remaining))
    (bytes_of (g.S.Read.remaining l.stdin) (g.D.Disk.contents l.disk)) (take l.source-index l.sources) l.tables.items
