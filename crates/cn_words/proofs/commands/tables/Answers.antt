use Rattle.clap.specs.Matches.{found_of}
use Rattle.cn_words.proofs.GivenLemmas.{no_tables, tables_read}
use Rattle.cn_words.proofs.commands.tables.Goals as goal

pub returns-in_ok-sources-in-Some : goal.returns-in_ok-sources-in-Some
returns-in_ok-sources-in-Some c =
    tables_read (found_of c.args.words.now) c.in-Some.files.now c.in_ok-sources-in-Some.field-0.items c.in-Some.ensures c.in_ok-sources-in-Some.ensures

pub returns-in-None : goal.returns-in-None
returns-in-None c = λ tables given. no_tables (found_of c.args.words.now) tables.items c.in-None.ensures given
