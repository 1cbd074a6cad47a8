-- What a right certificate claims is of the type.
use Rattle.std.proofs.Common.{ℕ, ◌+◌, ◌≤◌, ◌↔◌, List, length, All, Option, Some, None, Bool, true, false, arith, subst, sym}
use Rattle.std.specs.Prelude.{IfSome, option_map}
use Rattle.std.proofs.lemmas.List.Elements.{All-take}
use Rattle.cn_table.specs.TypeTable.{TypeTable}
use Rattle.cn_table.specs.declared.limits.TheConstants.{MOST_STATES}
use Rattle.cn_choice.specs.Canonical.{Choice, FitsTable, IsChoiceFor, raw_choice_of}
use Rattle.cn_choice.specs.RawChoices.{IsRawChoice}
use Rattle.cn_choice.specs.declared.limits.TheConstants.{MOST_PROCESSES}
use Rattle.cn_joins.specs.Joins.{IsJoin, Join}
use Rattle.cn_stock_cert.specs.Right.{AreInRange, ShowsAtLeast, ShowsAtMost}
use Rattle.cn_stock_cert.specs.declared.certificate.StockClaim.{StockClaim}
use Rattle.cn_stock_cert.specs.declared.certificate.StockClaim.TheVariants.{Alone, Lasting, Witness}
use Rattle.cn_stock_text.specs.Known.{IsKnownChoice, IsKnownClaim}
use Rattle.cn_stock_text.specs.Most.{told}
use Rattle.cn_stock_text.specs.declared.limits.TheConstants.{MOST_TOLD}

-- a choice by its teams
abbrev pub ByTeams : Type 0
ByTeams = (t : TypeTable) (n : ℕ) (c : Choice) → IsRawChoice t n (raw_choice_of c) ↔ IsChoiceFor t n c

least_few : (n : ℕ) (at_most : Option ℕ) → AreInRange (Some n) at_most → n ≤ MOST_STATES
least_few n None range = range.1
least_few n (Some m) range = omega (arith, range.1, range.2)

choice_known : ByTeams → (t : TypeTable) (n : ℕ) (c : Choice) → IsRawChoice t n (raw_choice_of c) → n ≤ MOST_STATES → IsKnownChoice t c
choice_known teams t n c raw few =
    let is : IsChoiceFor t n c = (teams t n c).0 raw in record {
      choice = subst (λ (m : ℕ). IsChoiceFor t m c) (sym is.all) is;
      few = omega (arith, is.all, few);
    }

pub claim_known : ByTeams → (t : TypeTable) (claim : StockClaim) (at_least at_most : Option ℕ) → AreInRange at_least at_most → ShowsAtLeast t claim at_least → IsKnownClaim t claim
claim_known teams t Alone at_least at_most range shows = tt
claim_known teams t (Witness c) None at_most range shows = absurd shows
claim_known teams t (Witness c) (Some n) at_most range shows = choice_known teams t n c shows.0 (least_few n at_most range)
claim_known teams t (Lasting s) None at_most range shows = shows
claim_known teams t (Lasting s) (Some n) at_most range shows = absurd shows

-- few processes fit the table
pub fits_table : ByTeams → (t : TypeTable) (c : Choice) → IsKnownChoice t c → length c.a + length c.b ≤ MOST_PROCESSES → FitsTable t c
fits_table teams t c known few = record {
  fits = (teams t (length c.a + length c.b) c).1 known.choice;
  some = omega (arith, known.choice.someone_in_a, known.choice.someone_in_b);
  few = few;
}

pub joins_known : (t : TypeTable) (most : Option (List Join)) (bound : Option ℕ) → ShowsAtMost t most bound → IfSome most (All (IsJoin t))
joins_known t None bound shows = tt
joins_known t (Some joins) None shows = absurd shows
joins_known t (Some joins) (Some m) shows = shows.are_joins

pub bound_few : (at_least at_most : Option ℕ) → AreInRange at_least at_most → IfSome at_most (λ m. m ≤ MOST_STATES)
bound_few at_least None range = tt
bound_few None (Some m) range = absurd range
bound_few (Some n) (Some m) range = range.2

-- what holds of what an option has, by another view of it
pub some_viewed : {X Y : Type 0} (f : X → Y) (P : Y → Type 0) (o : Option X) → IfSome (option_map f o) P → IfSome o (λ x. P (f x))
some_viewed f P None h = tt
some_viewed f P (Some x) h = h

-- so are the joins that are told
pub told_known : (t : TypeTable) (all : Bool) (joins : List Join) → All (IsJoin t) joins → All (IsJoin t) (told all joins)
told_known t true joins known = known
told_known t false joins known = All-take (IsJoin t) MOST_TOLD joins known
