-- What a certificate says.
use Rattle.std.specs.Prelude.{ℕ, List, Option, Bool, ◌==◌, ◌||◌}
use Rattle.cn_choice.specs.Canonical.{Choice}
use Rattle.cn_choice.specs.Collisions.{Collision}
use Rattle.cn_finding.specs.Finding.{Finding}

-- the version of the format, the bytes of the type's name, and the parts of a finding
pub record Certificate : Type 0 where
  pub version : ℕ
  pub type_name : List ℕ
  pub limit : ℕ
  pub number : Option ℕ
  pub witness : Option Choice
  pub collisions : List Collision

-- the versions of the format: for one process more than its number, a certificate of version 1
-- refutes every canonical choice, one of version 2 the live ones
abbrev pub is_version : ℕ → Bool
is_version version = version == 1 || version == 2

-- the certificate of a finding, for the type of this name
abbrev pub certificate_of : List ℕ → Finding → Certificate
certificate_of name f = record {
  version = 2;
  type_name = name;
  limit = f.limit;
  number = f.number;
  witness = f.witness;
  collisions = f.collisions;
}
