-- The entries of a certificate in its written text.
use Rattle.std.specs.Prelude.{◌≡◌, ℕ, ◌<◌, ◌≤◌, List, ◌++◌, All, IfSome, true, codes, decimal, length, nat_le, take, ◌-◌, Option}
use Rattle.std.specs.List.{AllZip, list_all}
use Rattle.serde_json.specs.Written.{compact_text}
use Rattle.cn_table.specs.TypeTable.{TypeTable}
use Rattle.cn_choice.specs.Canonical.{Choice}
use Rattle.cn_choice.specs.Collisions.{Collision}
use Rattle.cn_choice.specs.declared.limits.TheConstants.{MOST_PROCESSES}
use Rattle.cn_cert.specs.CertificateText.{numbers_data, triple_text}
use Rattle.cn_cert.specs.Entries.{listed_text, with_comma}
use Rattle.cn_cert.specs.Ranges.{is_collision_in_range, is_short}
use Rattle.cn_check.specs.Conditions.{HoldsCollision, Refutes}

-- the text of an entry before the list of team B: the state and the list of team A
abbrev pub head_text : ℕ → List ℕ → List ℕ
head_text state a =
    codes "[" ++ (decimal state ++ (codes "," ++ (compact_text (numbers_data a) ++ codes ",")))

-- the text of an entry behind its choice: the process, the two orders and the closing bracket
abbrev pub evidence_text : Collision → List ℕ
evidence_text x = triple_text x.process x.alpha x.beta ++ codes "]"

-- before the rest, the bytes are the texts of entries that refute the choices, one for each; a
-- comma stands between two entries
abbrev pub AreSpelled : TypeTable → List Choice → List ℕ → List ℕ → Type 0
AreSpelled t choices bytes rest =
    (xs : List Collision) × AllZip (Refutes t) choices xs × (list_all is_collision_in_range xs
    ≡ true) × (with_comma bytes ≡ listed_text xs ++ with_comma rest)

-- the text is that of the evidence in an entry of the choice; no process above this one moves in
-- its orders
pub record IsShown (t : TypeTable) (c : Choice) (text : List ℕ) (greatest : ℕ) : Type 0 where
  pub entry : Collision
  pub of_choice : entry.choice ≡ c
  pub collides : HoldsCollision t entry
  pub process_small : nat_le entry.process (MOST_PROCESSES - 1) ≡ true
  pub alpha_short : is_short entry.alpha ≡ true
  pub beta_short : is_short entry.beta ≡ true
  pub spelled : text ≡ evidence_text entry
  pub alpha_up_to : All (λ p. p ≤ greatest) entry.alpha
  pub beta_up_to : All (λ p. p ≤ greatest) entry.beta

-- the line is the text of a right entry of the choice; no process above this one moves in its orders
abbrev pub IsLine : TypeTable → Choice → List ℕ → ℕ → Type 0
IsLine t c line greatest = (text : List ℕ) × IsShown t c text greatest
    × (line ≡ head_text c.state c.a ++ (compact_text (numbers_data c.b) ++ (codes "," ++ text)))

-- if there is a greatest process, the line is such a text
abbrev pub IsKnown : TypeTable → Choice → List ℕ → Option ℕ → Type 0
IsKnown t c line greatest = IfSome greatest (λ g. IsLine t c line g)

-- the bytes begin with the text of a right entry of the choice
abbrev pub BeginsWithEntry : TypeTable → Choice → List ℕ → List ℕ → Type 0
BeginsWithEntry t c bytes rest = (line : List ℕ) × (greatest : ℕ) × IsLine t c line greatest
    × (bytes ≡ line ++ rest)

-- where the text of another list of small numbers stood behind so many bytes, that of this list
-- stands now; the lists have the same length, and are the same before the place
abbrev pub IsRespelled : ℕ → List ℕ → ℕ → List ℕ → List ℕ → Type 0
IsRespelled first list place old new =
    (front before behind : List ℕ) → length front ≡ first → length before ≡ length list
    → All (λ n. n < MOST_PROCESSES) before → take place before ≡ take place list
    → old ≡ front ++ (compact_text (numbers_data before) ++ behind)
    → new ≡ front ++ (compact_text (numbers_data list) ++ behind)

-- if the choices that are left are spelled from here on, then all of them are spelled from the
-- start on
abbrev pub HavePassed : TypeTable → List Choice → List ℕ → List Choice → List ℕ → Type 0
HavePassed t all start left here = (rest : List ℕ) → AreSpelled t left here rest
    → AreSpelled t all start rest
