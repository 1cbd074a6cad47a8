use Rattle.cn_cert.proofs.guess.guessed_certificate.Given as goal

abbrev pub ghosts-is_text_of : goal.ghosts-is_text_of
ghosts-is_text_of a = record { bytes = a.bytes.now }
