-- Whether a certificate is accepted for a table.
use Rattle.std.specs.Prelude.{◌≡◌, ℕ, List, IfSome, true}
use Rattle.std.specs.List.{AllZip, list_all}
use Rattle.cn_table.specs.TypeTable.{TypeTable}
use Rattle.cn_choice.specs.Canonical.{raw_choice_of}
use Rattle.cn_choice.specs.Collisions.{Collision}
use Rattle.cn_choice.specs.Discerning.{IsWitness}
use Rattle.cn_cert.specs.Certificate.{Certificate}
use Rattle.cn_cert.specs.Frames.{AreEntries}
use Rattle.cn_cert.specs.Ranges.{is_collision_in_range}
use Rattle.cn_check.specs.Conditions.{IsInRange, HasWitnessFor, Refutes}
use Rattle.cn_check.specs.Versions.{choices_to_refute_in}

-- the certificate is of this type; its version, its limit and its number are in range; it has a
-- witness for its number, if it has one; and its entries refute the choices that it must refute,
-- one for each, in the order of the choices
pub record IsAccepted (t : TypeTable) (c : Certificate) : Type 0 where
  pub type_name : c.type_name ≡ t.name
  pub in_range : IsInRange c.version c.limit c.number
  pub witness_fits : HasWitnessFor t c.number c.witness
  pub witness : IfSome c.witness (λ w. IsWitness t (raw_choice_of w))
  pub refuted : AllZip (Refutes t) (choices_to_refute_in c.version t c.limit c.number) c.collisions

-- the bytes are the text of entries with which, in place of its own, the certificate is accepted
abbrev pub IsAcceptedWith : TypeTable → Certificate → List ℕ → Type 0
IsAcceptedWith t c bytes =
    (entries : List Collision) × AreEntries bytes entries × (list_all is_collision_in_range entries
    ≡ true) × IsAccepted t (record c { collisions = entries })
