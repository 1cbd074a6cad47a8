-- Certificates whose entries are still text.
use Rattle.std.specs.Prelude.{◌≡◌, ℕ, ◌++◌, List, Ok, codes, true}
use Rattle.std.specs.List.{list_all}
use Rattle.serde_json.specs.Written.{compact_text}
use Rattle.cn_choice.specs.Collisions.{Collision}
use Rattle.cn_cert.specs.Certificate.{Certificate}
use Rattle.cn_cert.specs.CertificateText.{collisions_data}
use Rattle.cn_cert.specs.Ranges.{is_collision_in_range}
use Rattle.cn_cert.specs.Reading.{reading}

-- between brackets, the bytes are the text of the array of these entries
abbrev pub AreEntries : List ℕ → List Collision → Type 0
AreEntries bytes entries =
    codes "[" ++ (bytes ++ codes "]") ≡ compact_text (collisions_data entries)

-- whatever entries the second bytes are the text of, the first ones are read as the certificate
-- with these entries in place of its own
abbrev pub IsReadWith : List ℕ → Certificate → List ℕ → Type 0
IsReadWith bytes c entries_text =
    (entries : List Collision) → AreEntries entries_text entries
    → list_all is_collision_in_range entries ≡ true
    → reading bytes ≡ Ok (record c { collisions = entries })
