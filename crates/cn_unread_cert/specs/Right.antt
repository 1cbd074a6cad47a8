-- Certificates that are right: their bounds are in range, and their evidence shows them. New here.
use Rattle.std.specs.Prelude.{◌≡◌, ℕ, ◌+◌, ◌≤◌, ◌<◌, List, Option, Some, None}
use Rattle.cn_table.specs.TypeTable.{IsTypeTable, TypeTable}
use Rattle.cn_choice.specs.Canonical.{raw_choice_of}
use Rattle.cn_choice.specs.RawChoices.{IsRawChoice}
use Rattle.cn_choice.specs.declared.limits.TheConstants.{MOST_PROCESSES}
use Rattle.cn_further.specs.FurtherNodes.{TellsFirst}
use Rattle.cn_game.specs.TrapLists.{IsTrapList}
use Rattle.cn_game.specs.declared.trap.Trap.{Trap}
use Rattle.cn_merging.specs.Merged.{IsWhollyMerged}
use Rattle.cn_signs.specs.SignChoices.{HasSigns}
use Rattle.cn_views.specs.VisibleChoices.{SomeLooksTell}
use Rattle.cn_unread_cert.specs.Certificate.{UnreadCertificate}
use Rattle.cn_unread_cert.specs.declared.certificate.LeastClaim.{LeastClaim}
use Rattle.cn_unread_cert.specs.declared.certificate.LeastClaim.TheVariants.{Alone, Further, Signs, Visible}

-- every number and no upper bound; or a least number from 1 to 8, and a greatest one from it to 7 or
-- none
abbrev pub AreInRange : Option ℕ → Option ℕ → Type 0
AreInRange None None = Unit {0}
AreInRange None (Some m) = ⊥
AreInRange (Some n) None = (1 ≤ n) × (n ≤ MOST_PROCESSES)
AreInRange (Some n) (Some m) = (1 ≤ n) × (n ≤ m) × (m < MOST_PROCESSES)

-- n processes can agree: one can alone; or n see who was first in this choice, or by these further
-- operations
abbrev pub ShowsFor : TypeTable → LeastClaim → ℕ → Type 0
ShowsFor t Alone n = n ≡ 1
ShowsFor t (Visible c) n = IsRawChoice t n (raw_choice_of c) × SomeLooksTell t (raw_choice_of c)
ShowsFor t (Further further) n = TellsFirst t n further.choice further.follow_ups.items
ShowsFor t (Signs signs) n = ⊥

-- any number of processes can agree: these are signs
abbrev pub ShowsForAll : TypeTable → LeastClaim → Type 0
ShowsForAll t Alone = ⊥
ShowsForAll t (Visible c) = ⊥
ShowsForAll t (Further further) = ⊥
ShowsForAll t (Signs signs) = HasSigns t signs

-- the evidence for the lower bound shows it
abbrev pub ShowsAtLeast : TypeTable → LeastClaim → Option ℕ → Type 0
ShowsAtLeast t least None = ShowsForAll t least
ShowsAtLeast t least (Some n) = ShowsFor t least n

-- no more than so many processes can agree: there is a trap for one more; without a bound there is
-- none
abbrev pub ShowsAtMost : TypeTable → Option Trap → Option ℕ → Type 0
ShowsAtMost t None None = Unit {0}
ShowsAtMost t None (Some m) = ⊥
ShowsAtMost t (Some trap) None = ⊥
ShowsAtMost t (Some trap) (Some m) = IsTrapList t (m + 1) trap.turns.items

-- the certificate is right for the type of this name, whose states merge to those of u
pub record IsRightFor (name : List ℕ) (u : TypeTable) (c : UnreadCertificate) : Type 0 where
  pub type_name : c.type_name ≡ name
  pub in_range : AreInRange c.at_least c.at_most
  pub least : ShowsAtLeast u c.least c.at_least
  pub most : ShowsAtMost u c.most c.at_most

-- u is the type with all its states merged that no operations tell apart
abbrev pub IsMerging : TypeTable → TypeTable → Type 0
IsMerging t u = IsTypeTable u × ((class_of : List ℕ) × IsWhollyMerged t u class_of)

-- the certificate is right: its evidence, which speaks of the type with its states merged, shows its
-- bounds
abbrev pub IsRight : TypeTable → UnreadCertificate → Type 0
IsRight t c = (u : TypeTable) × IsMerging t u × IsRightFor t.name u c
