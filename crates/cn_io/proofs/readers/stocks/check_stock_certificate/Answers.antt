use Rattle.std.proofs.lemmas.Result.{err_from_is_err_and}
use Rattle.cn_io.proofs.readers.stocks.check_stock_certificate.Goals as goal

pub returns-in_err-read_right_stock_certificate-clause-checked : goal.returns-in_err-read_right_stock_certificate-clause-checked
returns-in_err-read_right_stock_certificate-clause-checked g c =
    let p = err_from_is_err_and c.from_residual.result c.from_residual.ensures.1 in
    rw (p.1, p.2) c.in_err-read_right_stock_certificate.ensures.right
