use Rattle.cn_table.specs.Faults as table
use Rattle.cn_cert.specs.Reading as certificate
use Rattle.cn_io.specs.declared.fault.AppFault.TheVariants as fault
use Rattle.cn_io.specs.declared.fault.Source.TheVariants as source
use Rattle.cn_io.proofs.StreamLemmas.KnownBytes.{reads_known_bytes}
use Rattle.cn_headline.proofs.laws.known_bytes.Goals as goal

pub returns-clause-table : goal.returns-clause-table
returns-clause-table g c = reads_known_bytes source.Table fault.Table table.reading g.R.Read.remaining

pub returns-clause-certificate : goal.returns-clause-certificate
returns-clause-certificate g c = reads_known_bytes source.Certificate fault.Certificate certificate.reading g.R.Read.remaining

pub returns-clause-object : goal.returns-clause-object
returns-clause-object g c = reads_known_bytes source.Object fault.Object table.reading g.R.Read.remaining
