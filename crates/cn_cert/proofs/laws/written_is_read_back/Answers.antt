use Rattle.cn_cert.proofs.WrittenCertificates as written
use Rattle.cn_cert.proofs.laws.written_is_read_back.Goals as goal

pub returns : goal.returns
returns c = written.written_is_read_back
