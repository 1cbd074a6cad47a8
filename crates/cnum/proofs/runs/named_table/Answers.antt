use Rattle.cnum.specs.Texts.{left_in}
use Rattle.cnum.proofs.NamedTableLemmas.{text_of_source}
use Rattle.cnum.proofs.runs.named_table.Goals as goal

pub returns-clause-text : goal.returns-clause-text
returns-clause-text g c =
    text_of_source g.S.Read.remaining (left_in g.D.Disk.contents g.D.Reader.Read.remaining) (g.D.Disk.contents c.args.disk.now) c.args.stdin c.args.source
    c.text_of.result c.text_of.ensures
