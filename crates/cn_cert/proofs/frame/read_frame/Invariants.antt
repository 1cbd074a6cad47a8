use Rattle.cn_cert.proofs.frame.read_frame.Given as goal

abbrev pub ghosts-is_rest_of : goal.ghosts-is_rest_of
ghosts-is_rest_of a = record { bytes = a.bytes.now }
