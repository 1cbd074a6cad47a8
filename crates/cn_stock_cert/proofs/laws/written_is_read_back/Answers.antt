use Rattle.std.proofs.Common.{[], ◌∷◌, ◌++◌}
use Rattle.cn_stock_cert.proofs.WrittenBack.{document_back, line_back, no_fault, one_certificate, read_again}
use Rattle.cn_stock_cert.specs.StockText.{stock_text}
use Rattle.cn_stock_cert.proofs.laws.written_is_read_back.Goals as goal

pub returns-clause-read : goal.returns-clause-read
returns-clause-read c = λ certificate fits.
    let back = document_back certificate fits in
    (no_fault (stock_text certificate) certificate fits back, read_again (stock_text certificate) certificate back)

pub returns-clause-line : goal.returns-clause-line
returns-clause-line c = λ certificate fits.
    let back = line_back certificate fits in
    (no_fault (stock_text certificate ++ 10 ∷ []) certificate fits back, read_again (stock_text certificate ++ 10 ∷ []) certificate back)

pub returns-clause-one : goal.returns-clause-one
returns-clause-one c = λ certificate other fits of. one_certificate certificate other fits of
