use Rattle.std.proofs.Common.{[], ◌∷◌, ◌++◌}
use Rattle.cn_tree_cert.proofs.WrittenBack.{document_back, line_back, no_fault, one_certificate, read_again}
use Rattle.cn_tree_cert.specs.TreeText.{tree_certificate_text}
use Rattle.cn_tree_cert.proofs.laws.written_is_read_back.Goals as goal

pub returns-clause-read : goal.returns-clause-read
returns-clause-read c = λ certificate fits.
    let back = document_back certificate fits in
    (no_fault (tree_certificate_text certificate) certificate fits back, read_again (tree_certificate_text certificate) certificate back)

pub returns-clause-line : goal.returns-clause-line
returns-clause-line c = λ certificate fits.
    let back = line_back certificate fits in
    (no_fault (tree_certificate_text certificate ++ 10 ∷ []) certificate fits back, read_again (tree_certificate_text certificate ++ 10 ∷ []) certificate back)

pub returns-clause-one : goal.returns-clause-one
returns-clause-one c = λ bytes certificate other of again. one_certificate bytes certificate other of again
