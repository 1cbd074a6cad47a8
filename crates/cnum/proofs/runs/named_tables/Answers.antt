use Rattle.cn_words.specs.declared.commands.TextSource.TheVariants.{StandardInput}
use Rattle.cnum.specs.NamedTables.{bytes_of}
use Rattle.cnum.specs.Texts.{left_in, left_of}
use Rattle.cnum.proofs.NamedTableLemmas.{one_more}
use Rattle.cnum.proofs.runs.named_tables.Goals as goal

pub loop-source-preserved : goal.loop-source-preserved
loop-source-preserved g c =
    rw c.in_ok-push.ensures.items
    (one_more (left_of g.S.Read.remaining (left_in g.D.Disk.contents g.D.Reader.Read.remaining)) (bytes_of (g.S.Read.remaining c.args.stdin) (g.D.Disk.contents c.args.disk.now)) c.args.sources.now
    c.loop-source.tables.items c.loop-source.source-index StandardInput c.named_table.result c.loop-source-test.true c.loop-source.invariant c.named_table.ensures.name c.named_table.ensures.text)
