-- Entries of a certificate in its written text.
use Rattle.std.specs.Prelude.{ℕ, List, [], ◌∷◌, ◌++◌, codes}
use Rattle.serde_json.specs.Written.{compact_text}
use Rattle.cn_choice.specs.Collisions.{Collision}
use Rattle.cn_cert.specs.CertificateText.{collision_data}

-- the text of an entry, with a comma behind it
abbrev pub entry_text : Collision → List ℕ
entry_text x = compact_text (collision_data x) ++ codes ","

-- the texts of the entries, each with a comma behind it
abbrev pub listed_text : List Collision → List ℕ
listed_text [] = []
listed_text (x ∷ xs) = entry_text x ++ listed_text xs

-- the bytes with a comma behind them, if there are any
abbrev pub with_comma : List ℕ → List ℕ
with_comma [] = []
with_comma (b ∷ bs) = (b ∷ bs) ++ codes ","
