-- What becomes of several tables, classified one after the other.
use Rattle.std.specs.Prelude.{◌≡◌, ◌⊎◌, Bool, ℕ, List, [], ◌∷◌, ◌++◌, filter, map, true, false}
use Rattle.std.specs.Prelude.{Option, Some, None, IsSomeAnd, Result, Ok, Err, MatchResult, All}
use Rattle.std.specs.Prelude.{string_bytes}
use Rattle.std.specs.Option.{option_map_or}
use Rattle.std.specs.Str.{bytes_eq}
use Rattle.cn_form.specs.declared.answer_form.DocumentForm.{DocumentForm}
use Rattle.cn_form.specs.declared.answer_form.DocumentForm.TheVariants as form
use Rattle.cn_app.specs.Commands.Classify.{HasClassReport, IsHeadReport, given_limit_fault}
use Rattle.cn_io.specs.FaultText.{is_of_every_table}
use Rattle.cn_io.specs.Streams.Reading.{HasRead, IsUnread}
use Rattle.cn_io.specs.Streams.Writing.{HandsOver, Reports}
use Rattle.cn_app.specs.declared.commands.of_several_tables.NamedTable.{NamedTable}
use Rattle.cn_io.specs.declared.fault.AppFault.{AppFault}
use Rattle.cn_io.specs.declared.fault.Source.TheVariants.{Table}
use Rattle.cn_io.specs.declared.report.Outcome.{Outcome}
use Rattle.cn_io.specs.declared.report.Report.{Report}
use Rattle.cn_app.specs.declared.reports.classify.AskedNumbers.{AskedNumbers}
use Rattle.cn_io.specs.declared.streams.output.Output.{Output}

-- none of the tables was read
abbrev pub AreUnread : {R : Type 0} → List (NamedTable R) → Type 0
AreUnread tables = All (λ table. IsUnread table.text) tables

-- whether this is the line of a table
abbrev pub has_line : {R : Type 0} → List ℕ → NamedTable R → Bool
has_line line table = option_map_or (λ own. bytes_eq (string_bytes own) line) table.line false

-- the names of those of these tables that have this line, in order
abbrev pub names_with : {R : Type 0} → List ℕ → List (NamedTable R) → List (List ℕ)
names_with line tables = map (λ table. table.name.now) (filter (has_line line) tables)

-- the first of these names, if there is one
abbrev pub IsFirst : List (List ℕ) → Option (List ℕ) → Type 0
IsFirst names None = names ≡ []
IsFirst names (Some first) = (others : List (List ℕ)) × (names ≡ first ∷ others)

-- the first of these names was noted for the table of this name; where there is none, nothing was
abbrev pub Notes : {D : Type 0} → (D → List ℕ → List ℕ → D → Type 0) → List (List ℕ)
    → List ℕ → D → D → Type 0
Notes notes [] name d e = e ≡ d
Notes notes (first ∷ others) name d e = notes d name first e

-- a report was made and written, or making or writing it has a fault
abbrev pub Writes : {W : Type 0} → (W → Option (List ℕ)) → (Result Report AppFault → Type 0)
    → Output W → Output W → Result Report AppFault → Type 0
Writes contents work u v (Ok report) =
    work (Ok report) × HandsOver contents report u v (Ok report.outcome)
Writes contents work u v (Err e) = Reports contents work u v (Err e)

-- a table was read and classified, with this result, and keeps its name; it has the line that was
-- written, if one was
pub record HasClassified {R W : Type 0} (remaining : R → Option (List ℕ))
    (contents : W → Option (List ℕ)) (asked : AskedNumbers)
    (old new : NamedTable R) (result : Result Outcome AppFault) (u v : Output W) : Type 0 where
  pub name : new.name ≡ old.name
  pub read : HasRead Table remaining old.text new.text
  pub order : (new.text ≡ old.text) ⊎ (given_limit_fault asked.limit ≡ None)
  pub classified : Reports contents (HasClassReport new.text asked) u v result
  pub line : MatchResult result (λ _. IsSomeAnd new.line
      (λ line. v.bytes.items ≡ u.bytes.items ++ string_bytes line)) (λ _. new.line ≡ None)

-- a table that was classified behind these has a line, and the first of these with the same line
-- was noted
abbrev pub IsNoted : {R D : Type 0} → (D → List ℕ → List ℕ → D → Type 0) → List (NamedTable R)
    → NamedTable R → D → D → Type 0
IsNoted notes earlier table d e = IsSomeAnd table.line
    (λ line. Notes notes (names_with (string_bytes line) earlier) table.name.now d e)

-- behind the tables of the first list the others were classified in order, and came to be these:
-- each has its line, and it is noted which earlier one has the same; or its fault is told with its
-- name; a fault that would be that of every table is told with no name, and the tables behind it
-- are as they were; with the first fault, and what the output and the place for faults are then
pub data AreClassified {R W D : Type 0} (remaining : R → Option (List ℕ))
    (contents : W → Option (List ℕ))
    (tells : D → Option (List ℕ) → AppFault → D → Type 0) (notes : D → List ℕ → List ℕ → D
    → Type 0) (asked : AskedNumbers)
    : List (NamedTable R) → List (NamedTable R) → List (NamedTable R) → Output W → D
    → Option AppFault → Output W → D → Type 0 where
  NoneLeft : {earlier : List (NamedTable R)} {w : Output W} {d : D}
      → AreClassified remaining contents tells notes asked earlier [] [] w d None w d
  HasLine : {old new : NamedTable R} {earlier rest after : List (NamedTable R)} {u v w : Output
      W} {c d e : D} {first : Option AppFault} {outcome : Outcome}
      → HasClassified remaining contents asked old new (Ok outcome) u v
      → IsNoted notes earlier new c d
      → AreClassified remaining contents tells notes asked (earlier ++ new ∷ [])
      rest after v d first w e
      → AreClassified remaining contents tells notes asked earlier (old ∷ rest)
      (new ∷ after) u c first w e
  HasFault : {old new : NamedTable R} {earlier rest after : List (NamedTable R)} {u v w : Output
      W} {c d e : D} {first : Option AppFault} {fault : AppFault}
      → HasClassified remaining contents asked old new (Err fault) u v
      → is_of_every_table fault ≡ false
      → tells c (Some old.name.now) fault d → AreClassified remaining contents tells notes asked
      (earlier ++ new ∷ []) rest after v d first w e
      → AreClassified remaining contents tells notes asked earlier (old ∷ rest)
      (new ∷ after) u c (Some fault) w e
  EndsAll : {old new : NamedTable R} {earlier rest : List (NamedTable R)} {u v : Output W} {c
      d : D} {fault : AppFault}
      → HasClassified remaining contents asked old new (Err fault) u v
      → is_of_every_table fault ≡ true → tells c None fault d
      → AreClassified remaining contents tells notes asked earlier (old ∷ rest)
      (new ∷ rest) u c (Some fault) v d

-- the tables were classified, and their rows stand below one head: the head was written first, and
-- then the tables were classified; or it was not, its fault was told with no name, and nothing was
-- read
abbrev pub AreRows : {R W D : Type 0} → (R → Option (List ℕ)) → (W → Option (List ℕ))
    → (D → Option (List ℕ) → AppFault → D → Type 0) → (D → List ℕ → List ℕ → D → Type 0)
    → AskedNumbers → List (NamedTable R) → List (NamedTable R) → Output W → D
    → Option AppFault → Output W → D → Type 0
AreRows {R} {W} remaining contents tells notes asked tables after u d first v e =
    ((headed : Output W) × (outcome : Outcome)
    × Reports contents (IsHeadReport asked) u headed (Ok outcome)
    × AreClassified remaining contents tells notes asked [] tables after headed d first v e)
    ⊎ ((fault : AppFault) × Reports contents (IsHeadReport asked) u v (Err fault)
    × tells d None fault e × (first ≡ Some fault) × (after ≡ tables))

-- the tables were classified in this form: as lines, or as the rows of a Markdown table
abbrev pub AreClassifiedIn : {R W D : Type 0} → DocumentForm → (R → Option (List ℕ))
    → (W → Option (List ℕ)) → (D → Option (List ℕ) → AppFault → D → Type 0)
    → (D → List ℕ → List ℕ → D → Type 0) → AskedNumbers → List (NamedTable R)
    → List (NamedTable R) → Output W → D → Option AppFault → Output W → D → Type 0
AreClassifiedIn form.Text remaining contents tells notes asked tables after u d first v e =
    AreClassified remaining contents tells notes asked [] tables after u d first v e
AreClassifiedIn form.Json remaining contents tells notes asked tables after u d first v e =
    AreClassified remaining contents tells notes asked [] tables after u d first v e
AreClassifiedIn form.Markdown remaining contents tells notes asked tables after u d first v e =
    AreRows remaining contents tells notes asked tables after u d first v e
