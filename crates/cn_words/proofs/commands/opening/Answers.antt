use Rattle.cn_words.proofs.commands.opening.Goals as goal

pub returns-in_err-certificate : goal.returns-in_err-certificate
returns-in_err-certificate c = rw c.from_residual.ensures (λ opening is. c.in_err-certificate.ensures opening.certificate is.0)
