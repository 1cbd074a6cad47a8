-- Several tables, one after the other.
use Rattle.std.proofs.Common.{◌≡◌, ◌<◌, ◌∙◌, ◌+◌, ℕ, List, [], ◌∷◌, ◌++◌, length, get_or, set, take, drop, true, false, inl, inr, Option, Some, None, IfSome, IsSomeAnd, MatchResult, Result, Ok, Err, Global, String, string_bytes, ap, arith, refl, sym, subst}
use Rattle.std.specs.Option.{option_or}
use Rattle.std.proofs.lemmas.List.{append-nil, append_assoc, drop-drop, drop-set, drop-set-lt, drop_more, get_or-set_same, get_or-take, length-drop, take-append-drop, take-set, take-take, take_more_set}
use Rattle.cn_app.specs.Commands.ClassifyEach.{AreClassified, AreUnread, EndsAll, HasClassified, HasFault, HasLine, IsNoted, NoneLeft, Notes, has_line, names_with}
use Rattle.cn_io.specs.FaultText.{is_of_every_table}
use Rattle.cn_io.specs.Streams.Reading.{IsUnread}
use Rattle.cn_io.specs.Streams.Writing.{IsWritable, Reports}
use Rattle.cn_app.specs.declared.commands.of_several_tables.NamedTable.{NamedTable}
use Rattle.cn_io.specs.declared.fault.AppFault.{AppFault}
use Rattle.cn_io.specs.declared.fault.AppFault.TheVariants.{Write}
use Rattle.cn_io.specs.declared.report.Outcome.{Outcome}
use Rattle.cn_io.specs.declared.report.Report.{Report}
use Rattle.cn_app.specs.declared.reports.classify.AskedNumbers.{AskedNumbers}
use Rattle.cn_io.specs.declared.streams.progress.Progress.TheVariants.{Done, Failed}
use Rattle.cn_io.specs.declared.streams.output.Output.{Output}

-- the first fault stays
first_stays : (so_far later : Option AppFault) (fault : AppFault) → option_or so_far (Some fault) ≡ option_or (option_or so_far (Some fault)) later
first_stays None later fault = refl
first_stays (Some e) later fault = refl

or_none : (so_far : Option AppFault) → option_or so_far None ≡ so_far
or_none None = refl
or_none (Some e) = refl

no_fault : (outcome : Outcome) (e : AppFault) (r : Result Outcome AppFault) → r ≡ Ok outcome → r ≡ Err e → ⊥
no_fault outcome e r line fault = cc

not_own : (e fault : AppFault) (r : Result Outcome AppFault) → r ≡ Err e → r ≡ Err fault → is_of_every_table fault ≡ false → e ≡ Write → ⊥
not_own e fault r this that own write = let w : fault ≡ Write = cc in let t : is_of_every_table Write ≡ false = sym (ap is_of_every_table w) ∙ own in cc

module _ {R W D : Type 0} (remaining : R → Option (List ℕ)) (contents : W → Option (List ℕ)) (tells : D → Option (List ℕ) → AppFault → D → Type 0)
    (notes : D → List ℕ → List ℕ → D → Type 0) (asked : AskedNumbers) (tables : List (NamedTable R)) (u : Output W) (c : D) where
  -- some tables came to be these: the rest then determines what becomes of all
  abbrev pub Leads : Option AppFault → List (NamedTable R) → List (NamedTable R) → Output W → D → Type 0
  Leads so_far before rest v d = (first : Option AppFault) (after : List (NamedTable R)) (w : Output W) (e : D)
      → AreClassified remaining contents tells notes asked before rest after v d first w e
      → AreClassified remaining contents tells notes asked [] tables (before ++ after) u c (option_or so_far first) w e

  -- one more table came to be this: the same for the tables behind it
  behind : (before after : List (NamedTable R)) (new : NamedTable R) (first : Option AppFault) (w : Output W) (e : D)
      → AreClassified remaining contents tells notes asked [] tables (before ++ new ∷ after) u c first w e
      → AreClassified remaining contents tells notes asked [] tables ((before ++ new ∷ []) ++ after) u c first w e
  behind before after new first w e h =
      subst (λ (l : List (NamedTable R)). AreClassified remaining contents tells notes asked [] tables l u c first w e) (sym (append_assoc before (new ∷ []) after)) h

  module _ (so_far : Option AppFault) (before rest more : List (NamedTable R)) (old new : NamedTable R) (v w : Output W) (d : D) (leads : Leads so_far before rest v d)
      (next : rest ≡ old ∷ more) where
    -- the next table has its line, and it is noted which of those before has the same
    pub leads_by_line : (f : D) (r : Result Outcome AppFault) (outcome : Outcome) → r ≡ Ok outcome → HasClassified remaining contents asked old new r v w
        → IsNoted notes before new d f → Leads so_far (before ++ new ∷ []) more w f
    leads_by_line f r outcome is step noted = λ first after x e h.
        behind before after new (option_or so_far first) x e (leads first (new ∷ after) x e
        (subst (λ (l : List (NamedTable R)). AreClassified remaining contents tells notes asked before l (new ∷ after) v d first x e) (sym next)
        (HasLine (subst (λ (q : Result Outcome AppFault). HasClassified remaining contents asked old new q v w) is step) noted h)))

    -- the fault of the next table is told
    pub leads_by_fault : (e : D) (r : Result Outcome AppFault) (fault : AppFault) (later : Option AppFault) → r ≡ Err fault → HasClassified remaining contents asked old new r v w
        → is_of_every_table fault ≡ false → tells d (Some old.name.now) fault e → later ≡ option_or so_far (Some fault) → Leads later (before ++ new ∷ []) more w e
    leads_by_fault e r fault later is step own told later_is = λ first after x f h.
        subst (λ (o : Option AppFault). AreClassified remaining contents tells notes asked [] tables ((before ++ new ∷ []) ++ after) u c o x f)
        (first_stays so_far first fault ∙ ap (λ (o : Option AppFault). option_or o first) (sym later_is))
        (behind before after new (option_or so_far (Some fault)) x f (leads (Some fault) (new ∷ after) x f
        (subst (λ (l : List (NamedTable R)). AreClassified remaining contents tells notes asked before l (new ∷ after) v d (Some fault) x f) (sym next)
        (HasFault (subst (λ (q : Result Outcome AppFault). HasClassified remaining contents asked old new q v w) is step) own told h))))

    -- the fault of the next table is one of every table
    pub ends_all : (e : D) (r : Result Outcome AppFault) (fault : AppFault) (later : Option AppFault) → r ≡ Err fault → HasClassified remaining contents asked old new r v w
        → is_of_every_table fault ≡ true → tells d None fault e → later ≡ option_or so_far (Some fault)
        → AreClassified remaining contents tells notes asked [] tables (before ++ new ∷ more) u c later w e
    ends_all e r fault later is step all told later_is =
        subst (λ (o : Option AppFault). AreClassified remaining contents tells notes asked [] tables (before ++ new ∷ more) u c o w e) (sym later_is)
        (leads (Some fault) (new ∷ more) w e (subst (λ (l : List (NamedTable R)). AreClassified remaining contents tells notes asked before l (new ∷ more) v d (Some fault) w e) (sym next)
        (EndsAll (subst (λ (q : Result Outcome AppFault). HasClassified remaining contents asked old new q v w) is step) all told)))

  -- the table at a place came to be this
  pub one_place_on : (so_far : Option AppFault) (now : List (NamedTable R)) (i : ℕ) (new : NamedTable R) (v : Output W) (d : D) → i < length now
      → Leads so_far (take i now ++ new ∷ []) (drop (i + 1) now) v d → Leads so_far (take (i + 1) (set now i new)) (drop (i + 1) (set now i new)) v d
  one_place_on so_far now i new v d less leads =
      subst (λ (l : List (NamedTable R)). Leads so_far l (drop (i + 1) (set now i new)) v d) (sym (take_more_set now i new less))
      (subst (λ (l : List (NamedTable R)). Leads so_far (take i now ++ new ∷ []) l v d) (sym (drop-set-lt (i + 1) now i new (omega arith))) leads)

  -- no table is left
  pub all_classified : (so_far : Option AppFault) (before rest : List (NamedTable R)) (v : Output W) (d : D) → Leads so_far before rest v d → rest ≡ []
      → AreClassified remaining contents tells notes asked [] tables before u c so_far v d
  all_classified so_far before rest v d leads none =
      subst (λ (l : List (NamedTable R)). AreClassified remaining contents tells notes asked [] tables l u c so_far v d) (append-nil before)
      (subst (λ (o : Option AppFault). AreClassified remaining contents tells notes asked [] tables (before ++ []) u c o v d) (or_none so_far)
      (leads None [] v d (subst (λ (l : List (NamedTable R)). AreClassified remaining contents tells notes asked before l [] v d None v d) (sym none) NoneLeft)))

-- the writer has not failed, unless the report says so
module _ {W : Type 0} (contents : W → Option (List ℕ)) (work : Result Report AppFault → Type 0) (u v : Output W) where
  pub writable_after_line : (r : Result Outcome AppFault) (outcome : Outcome) → r ≡ Ok outcome → Reports contents work u v r → IsWritable v
  writable_after_line (Ok o) outcome is (inl (e, _, not, _)) = absurd (no_fault o e (Ok o) refl not)
  writable_after_line (Ok o) outcome is (inr (report, _, (_, taken))) = λ failed. let e : Done ≡ Failed = sym taken.progress ∙ failed in cc
  writable_after_line (Err e) outcome is h = absurd (no_fault outcome e (Err e) is refl)

  pub writable_after_fault : (r : Result Outcome AppFault) (fault : AppFault) → r ≡ Err fault → is_of_every_table fault ≡ false → Reports contents work u v r → IsWritable u → IsWritable v
  writable_after_fault r fault is own (inl (_, _, _, silent)) before = λ failed. before (sym silent.progress ∙ failed)
  writable_after_fault (Ok o) fault is own (inr _) before = absurd (no_fault o fault (Ok o) refl is)
  writable_after_fault (Err e) fault is own (inr (_, _, inl (write, _))) before = absurd (not_own e fault (Err e) refl is own write)
  writable_after_fault (Err e) fault is own (inr (_, _, inr (_, silent))) before = λ failed. before (sym silent.progress ∙ failed)

-- the tables from place i on are as they were
module _ {R : Type 0} (now first : List (NamedTable R)) (i : ℕ) (d : NamedTable R) (less : i < length now) (same : drop i now ≡ drop i first) where
  there : i < length first
  there = omega (arith, less, ap length same, length-drop i now, length-drop i first)

  same_table : get_or now i d ≡ get_or first i d
  same_table = ap (λ (l : List (NamedTable R)). get_or l 0 d) (sym (drop_more now i d less) ∙ same ∙ drop_more first i d there)

  -- so the table at place i is unread, as all were
  pub still_unread : AreUnread first → IsUnread (get_or now i d).text
  still_unread unread =
      subst (λ (table : NamedTable R). IsUnread table.text) (sym same_table)
      (unread i d there)

  -- and the tables behind it are as they were
  pub still_behind : (new : NamedTable R) → drop (i + 1) (set now i new) ≡ drop (i + 1) first
  still_behind new =
      drop-set-lt (i + 1) now i new (omega arith) ∙ sym (drop-drop 1 i now) ∙ ap (drop 1) same ∙ drop-drop 1 i first

-- a value that is written at a place stands between the others
pub placed : {X : Type 0} (xs : List X) (i : ℕ) (y : X) → i < length xs → set xs i y ≡ take i xs ++ y ∷ drop (i + 1) xs
placed {X} xs i y less =
    sym (take-append-drop i (set xs i y)) ∙ ap (λ (l : List X). l ++ drop i (set xs i y)) (take-set xs i y) ∙ ap (λ (l : List X). take i xs ++ l) (drop-set xs i y less)

-- the names of the tables with a line, from a place on
module _ {R : Type 0} (line : List ℕ) (tables : List (NamedTable R)) (i : ℕ) (d : NamedTable R) (less : i < length tables) where
  -- the table there has another line
  pub names_behind : has_line line (get_or tables i d) ≡ false → names_with line (drop i tables) ≡ names_with line (drop (i + 1) tables)
  names_behind not = rw (drop_more tables i d less, not) refl

  -- it has this line
  pub names_here : has_line line (get_or tables i d) ≡ true
      → names_with line (drop i tables) ≡ (get_or tables i d).name.now ∷ names_with line (drop (i + 1) tables)
  names_here is = rw (drop_more tables i d less, is) refl

-- one case of a result that is a line
pub of_line : (A B : Type 0) (r : Result Outcome AppFault) (outcome : Outcome) → r ≡ Ok outcome → MatchResult r (λ _. A) (λ _. B) → A
of_line A B (Ok o) outcome is line = line
of_line A B (Err e) outcome is none = absurd (no_fault outcome e (Err e) is refl)

-- what holds if there is a value holds of the value that there is
of_some : {A : Type 0} (Q P : A → Type 0) (a : Option A) → IsSomeAnd a Q → IfSome a P → IsSomeAnd a P
of_some Q P None none if = none
of_some Q P (Some x) some if = if

-- the table at a place came to be this, and has a line: what is noted behind it, of the tables up to there, is noted of those before
pub noted_at : {R D : Type 0} (notes : D → List ℕ → List ℕ → D → Type 0) (Q : String Global → Type 0) (now : List (NamedTable R)) (i : ℕ) (new table : NamedTable R) (d e : D)
    → i < length now → table ≡ get_or (take (i + 1) (set now i new)) i table → IsSomeAnd new.line Q
    → IfSome table.line (λ line. Notes notes (names_with (string_bytes line) (take i (take (i + 1) (set now i new)))) table.name.now d e)
    → IsNoted notes (take i now) new d e
noted_at {R} notes Q now i new table d e less is some noted =
    let seen = take (i + 1) (set now i new) in
    let table_is : table ≡ new = is ∙ get_or-take (i + 1) (set now i new) i table (omega arith) ∙ get_or-set_same now i new table less in
    let earlier : take i seen ≡ take i now = take-take i (i + 1) (set now i new) (omega arith) ∙ take-set now i new in
    subst (λ (l : List (NamedTable R)). IsNoted notes l new d e) earlier
    (of_some Q (λ line. Notes notes (names_with (string_bytes line) (take i seen)) new.name.now d e) new.line some
    (subst (λ (t : NamedTable R). IfSome t.line (λ line. Notes notes (names_with (string_bytes line) (take i seen)) t.name.now d e)) table_is noted))
