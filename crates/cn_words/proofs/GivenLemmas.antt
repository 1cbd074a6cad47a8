-- The getters of clap, in the words of the command line.
use Rattle.std.proofs.Common.{ℕ, ◌≡◌, ◌⊎◌, ◌∙◌, ◌&&◌, ◌||◌, inl, inr, Bool, true, false, List, [], ◌∷◌, Option, Some, None, Result, Ok, Err, ap, ap₂, refl, subst, sym, codes, Vec, Global}
use Rattle.std.specs.Prelude.{MatchBool, is_some, not, option_and_then, option_map, slice_get, unwrap_or, map}
use Rattle.std.specs.List.{find}
use Rattle.std.specs.Str.{bytes_eq}
use Rattle.std.specs.Str.Parse.{ParsesUnsigned}
use Rattle.std.specs.Borrow.{Bor}
use Rattle.clap.specs.Matches.{ReadsOne, matched_of, one_text, raw_values}
use Rattle.clap.specs.Walk.{Row, Text, first_of, one_of, row_text, rows_of}
use Rattle.clap.specs.declared.parser.matches.Found.{Found}
use Rattle.clap.proofs.WalkLemmas.{one_text-rows, raw_values-rows}
use Rattle.cn_form.specs.declared.answer_form.DocumentForm.{DocumentForm}
use Rattle.cn_form.specs.declared.answer_form.DocumentForm.TheVariants as document
use Rattle.cn_form.specs.declared.answer_form.AnswerForm.{AnswerForm}
use Rattle.cn_form.specs.declared.answer_form.AnswerForm.TheVariants as answer
use Rattle.cn_words.specs.declared.commands.Command.{Command}
use Rattle.cn_words.specs.declared.commands.Command.TheVariants.{Find, FindUnread, FindShortest, FindStocks, Lint, Draw, Check, CheckUnread, CheckShortest, CheckStocks, Explain, ExplainStocks, Why, WhyRecoverable, WhyUnread, WhyStocks, Pairs, Changes, Show, Agree, Replay, Serve}
use Rattle.cn_words.specs.declared.commands.Invocation.{Invocation}
use Rattle.cn_words.specs.declared.commands.Invocation.TheVariants.{Classify, Lives, OfTable, RecoverablePlan, ShortestPlan, ShortestRun}
use Rattle.cn_words.specs.declared.commands.OpeningWords.{OpeningWords}
use Rattle.cn_words.specs.declared.commands.TextSource.{TextSource}
use Rattle.cn_words.specs.declared.plan_words.PlanWords.{PlanWords}
use Rattle.cn_words.specs.declared.without_certificate.RunWords.{RunWords}
use Rattle.cn_words.specs.GivenCommands.{Finds, HasAnswerForm, HasCertificate, HasDocumentForm, HasFlag, HasLimit, HasNumber, HasOpening, HasOptionalNumber, HasPlanTable, HasPlanWords, HasRun, HasRunTable, HasTables, HasWord, IsByte, IsInvocation, IsNamed, asks_for_shortest, excludes_certificate, is_flag_set, is_limit_excluded, is_number_twofold, is_of_plan, is_of_program, path_in, path_of}

-- two views of an optional value make their pair
pub pair_of : {A B C : Type 0} (f : A → B) (g : A → C) (o : Option A) (q : Option (B × C)) → option_map f o ≡ option_map (λ p. p.0) q
    → option_map g o ≡ option_map (λ p. p.1) q → option_map (λ a. (f a, g a)) o ≡ q
pair_of f g None None e h = refl
pair_of f g None (Some p) e h = cc
pair_of f g (Some a) None e h = cc
pair_of f g (Some a) (Some p) e h = ap₂ (λ b c. Some (b, c)) (ap (λ o. unwrap_or o (f a)) e) (ap (λ o. unwrap_or o (g a)) h)

pub first_of_pair : {A B C : Type 0} (f : A → B) (g : A → C) (o : Option A)
    → option_map f o ≡ option_map (λ (p : B × C). p.0) (option_map (λ a. (f a, g a)) o)
first_of_pair f g None = refl
first_of_pair f g (Some a) = refl

-- a number as `get_one` reads it
pub number_read : {E : Type 0} (gives : Text → Result ℕ E → Type 0) (o : Option Text) (r : Option ℕ)
    → ((u : Text) (x : Result ℕ E) → gives u x → ParsesUnsigned 8 10 u x)
    → (o ≡ None → r ≡ None) → ((t : Text) → o ≡ Some t → ReadsOne gives t r) → Finds (λ n. (t : Text) × (o ≡ Some t) × IsByte t n) r
number_read {E} gives o (Some n) only none some = go o refl
  where
    go : (p : Option Text) → o ≡ p → (t : Text) × (o ≡ Some t) × IsByte t n
    go None e = let bad = none e in cc
    go (Some t) e = (t, e, only t (Ok n) (some t e))
number_read gives o None only none some = λ n given. let read = some given.0 given.1 in only given.0 (Err read.0) read.1 given.2.0

-- without a value, there is no first value
no_first : (id : Text) (rows : List Row) → one_of id rows ≡ None → first_of id rows ≡ None
no_first id rows none = go (find (λ r. bytes_eq r.id id) rows) none
  where
    of_row : (f : Text → Text) (value : Option Text) → option_map f value ≡ None → value ≡ None
    of_row f None e = refl
    of_row f (Some t) e = cc

    go : (row : Option Row) → option_and_then row_text row ≡ None → option_and_then (λ (r : Row). slice_get r.values 0) row ≡ None
    go None e = refl
    go (Some r) e = of_row _ (slice_get r.values 0) e

-- the value of an option that is no number gives none
pub no_number : (id : Text) (rows : List Row) (word : Option (Bor Text)) (given : Option ℕ) (none : Bool) → option_map (λ w. w.now) word ≡ first_of id rows
    → is_some word ≡ not none → none ≡ false → ((n : ℕ) → HasNumber id rows n → ⊥) → HasOptionalNumber id rows given → ⊥
no_number id rows word (Some n) none found some isnt numbers is = numbers n is
no_number id rows None None none found some isnt numbers is = let bad : false ≡ true = some ∙ ap not isnt in cc
no_number id rows (Some w) None none found some isnt numbers is = let bad = found ∙ no_first id rows is in cc

-- a word that is not there
pub no_word : (word : Option (Bor Text)) (first : Option Text) (some : Bool) → option_map (λ w. w.now) word ≡ first → some ≡ is_some word → some ≡ false → first ≡ None
no_word None first some found is isnt = sym found
no_word (Some w) first some found is isnt = let bad : true ≡ false = sym is ∙ isnt in cc

-- a flag as `get_flag` reads it
pub flag_read : (f : Found) (id : Text) (is_set : Bool) → (one_text f id ≡ None → is_set ≡ false)
    → (one_text f id ≡ Some (codes "true") → is_set ≡ true) → (one_text f id ≡ Some (codes "false") → is_set ≡ false)
    → HasFlag id (rows_of f) is_set
flag_read f id is_set none set unset =
    let same = one_text-rows f id in
    (λ e. set (same ∙ e), λ e. unset (same ∙ e), λ e. none (same ∙ e))

-- the tables that the words name
pub tables_read : (f : Found) (words : List (Bor Text)) (tables : List TextSource)
    → Some (map (λ w. w.now) words) ≡ option_map raw_values (matched_of f (codes "FILE"))
    → map path_of tables ≡ map (λ (w : Bor Text). path_in w.now) words → HasTables (rows_of f) tables
tables_read f words tables found are =
    (map (λ w. w.now) words, sym (raw_values-rows f (codes "FILE")) ∙ sym found, are ∙ same words)
  where
    same : (ws : List (Bor Text)) → map (λ (w : Bor Text). path_in w.now) ws ≡ map path_in (map (λ w. w.now) ws)
    same [] = refl
    same (w ∷ ws) = ap (λ rest. path_in w.now ∷ rest) (same ws)

-- without such words, there are no tables
pub no_tables : (f : Found) (tables : List TextSource) → None ≡ option_map raw_values (matched_of f (codes "FILE")) → HasTables (rows_of f) tables → ⊥
no_tables f tables found given = let bad = found ∙ raw_values-rows f (codes "FILE") ∙ given.1 in cc

-- what `why` requires of the words for its limit
abbrev pub WantsLimit : List Row → Bool → Bool → Type 0
WantsLimit rows without_read recoverable =
    MatchBool without_read ((recoverable ≡ false) × (first_of (codes "limit") rows ≡ None))
    (MatchBool recoverable (first_of (codes "limit") rows ≡ None) ((n : Option ℕ) × HasLimit rows n))

-- the same by stocks, and what it requires of the words for its form: by stocks it has a text alone
abbrev pub WantsWhy : List Row → Bool → Bool → Bool → Type 0
WantsWhy rows stocks without_read recoverable =
    MatchBool stocks ((without_read ≡ false) × (recoverable ≡ false) × ((n : Option ℕ) × HasLimit rows n) × HasDocumentForm rows document.Text)
    (WantsLimit rows without_read recoverable × ((form : DocumentForm) × HasDocumentForm rows form))

-- what `explain` requires of the words for its form: by stocks it has a text alone
abbrev pub WantsExplain : List Row → Bool → Type 0
WantsExplain rows stocks = MatchBool stocks (HasAnswerForm rows answer.Text) ((form : AnswerForm) × HasAnswerForm rows form)

-- what `find` requires of the words for its limit
abbrev pub WantsFindLimit : List Row → Bool → Type 0
WantsFindLimit rows without_read = MatchBool without_read (first_of (codes "limit") rows ≡ None) ((n : Option ℕ) × HasLimit rows n)

-- what `find` requires of the words for its limit, and for its number of processes, where no stocks are asked for
abbrev pub WantsChoices : List Row → Bool → Bool → Type 0
WantsChoices rows shortest without_read =
    MatchBool shortest ((without_read ≡ false) × (first_of (codes "limit") rows ≡ None) × ((n : Option ℕ) × HasOptionalNumber (codes "processes") rows n))
    ((is_of_plan rows ≡ false) × WantsFindLimit rows without_read)

-- the same, and by stocks
abbrev pub WantsFind : List Row → Bool → Bool → Bool → Type 0
WantsFind rows stocks shortest without_read =
    MatchBool stocks ((without_read ≡ false) × (is_of_plan rows ≡ false) × ((n : Option ℕ) × HasLimit rows n))
    (WantsChoices rows shortest without_read)

-- a certificate is of one kind alone
abbrev pub is_check_twofold : List Row → Bool
is_check_twofold rows = (is_flag_set (codes "shortest") rows && is_flag_set (codes "without-read") rows)
    || (is_flag_set (codes "stocks") rows && (is_flag_set (codes "without-read") rows || is_flag_set (codes "shortest") rows))

-- what a command of this name requires of its words
abbrev pub Wants : Text → List Row → Type 0
Wants name rows =
    MatchBool (bytes_eq name (codes "find")) (WantsFind rows (is_flag_set (codes "stocks") rows) (is_flag_set (codes "shortest") rows) (is_flag_set (codes "without-read") rows))
    (MatchBool (bytes_eq name (codes "lint")) ((form : AnswerForm) × HasAnswerForm rows form)
    (MatchBool (bytes_eq name (codes "draw")) (Unit {0})
    (MatchBool (bytes_eq name (codes "check")) (((w : TextSource) × HasCertificate rows w) × ((form : AnswerForm) × HasAnswerForm rows form) × (is_check_twofold rows ≡ false))
    (MatchBool (bytes_eq name (codes "explain")) (((w : TextSource) × HasCertificate rows w) × WantsExplain rows (is_flag_set (codes "stocks") rows))
    (MatchBool (bytes_eq name (codes "why"))
    (WantsWhy rows (is_flag_set (codes "stocks") rows) (is_flag_set (codes "without-read") rows) (is_flag_set (codes "recoverable") rows))
    (MatchBool (bytes_eq name (codes "pairs")) ((form : DocumentForm) × HasDocumentForm rows form)
    (MatchBool (bytes_eq name (codes "changes")) (((form : DocumentForm) × HasDocumentForm rows form) × (is_number_twofold rows ≡ false))
    (MatchBool (bytes_eq name (codes "show")) (((w : TextSource) × HasCertificate rows w) × ((words : PlanWords) × HasPlanWords rows words) × (excludes_certificate rows ≡ false))
    (MatchBool (bytes_eq name (codes "agree"))
    (((w : TextSource) × HasCertificate rows w) × ((l : Bor Text) × HasWord (codes "INPUTS") rows l.now) × ((l : Bor Text) × HasWord (codes "SCHEDULE") rows l.now)
    × ((form : AnswerForm) × HasAnswerForm rows form) × (excludes_certificate rows ≡ false))
    (MatchBool (bytes_eq name (codes "replay")) (((o : OpeningWords) × HasOpening rows o) × ((l : Bor Text) × HasWord (codes "EVENTS") rows l.now) × ((form : AnswerForm) × HasAnswerForm rows form))
    (MatchBool (bytes_eq name (codes "serve")) (((o : OpeningWords) × HasOpening rows o) × ((l : Bor Text) × HasWord (codes "CALLS") rows l.now) × ((form : AnswerForm) × HasAnswerForm rows form))
    ⊥)))))))))))

-- the same for the same flags
pub limits : (rows : List Row) (w r d e : Bool) → w ≡ d → r ≡ e → WantsLimit rows d e → WantsLimit rows w r
limits rows w r d e is_w is_r h = subst (λ b. WantsLimit rows b r) (sym is_w) (subst (λ b. WantsLimit rows d b) (sym is_r) h)

explains : (rows : List Row) (k b : Bool) → k ≡ b → WantsExplain rows b → WantsExplain rows k
explains rows k b is h = subst (WantsExplain rows) (sym is) h

tells : (rows : List Row) (k w r d e : Bool) → k ≡ false → w ≡ d → r ≡ e
    → WantsLimit rows d e × ((form : DocumentForm) × HasDocumentForm rows form) → WantsWhy rows k w r
tells rows k w r d e is_k is_w is_r h = subst (λ b. WantsWhy rows b w r) (sym is_k) (limits rows w r d e is_w is_r h.0, h.1)

tells_stocks : (rows : List Row) (k w r : Bool) → k ≡ true
    → (w ≡ false) × (r ≡ false) × ((n : Option ℕ) × HasLimit rows n) × HasDocumentForm rows document.Text → WantsWhy rows k w r
tells_stocks rows k w r is_k h = subst (λ b. WantsWhy rows b w r) (sym is_k) h

finds : (rows : List Row) (k s w d e : Bool) → k ≡ false → s ≡ d → w ≡ e → WantsChoices rows d e → WantsFind rows k s w
finds rows k s w d e is_k is_s is_w h =
    subst (λ b. WantsFind rows b s w) (sym is_k) (subst (λ b. WantsChoices rows b w) (sym is_s) (subst (λ b. WantsChoices rows d b) (sym is_w) h))

finds_stocks : (rows : List Row) (k s w : Bool) → k ≡ true → (w ≡ false) × (is_of_plan rows ≡ false) × ((n : Option ℕ) × HasLimit rows n) → WantsFind rows k s w
finds_stocks rows k s w is_k h = subst (λ b. WantsFind rows b s w) (sym is_k) h

first_unset : (a b : Bool) → (a || b) ≡ false → a ≡ false
first_unset false b e = refl
first_unset true b e = cc

-- of three flags two are not set
one_alone : (s w k : Bool) → ((k ≡ false) × ((s ≡ false) ⊎ (w ≡ false))) ⊎ ((w ≡ false) × (s ≡ false))
    → ((s && w) || (k && (w || s))) ≡ false
one_alone false false false h = refl
one_alone false true false h = refl
one_alone true false false h = refl
one_alone true true false (inl (e, inl f)) = cc
one_alone true true false (inl (e, inr f)) = cc
one_alone true true false (inr (e, f)) = cc
one_alone false false true h = refl
one_alone s true true (inl (e, f)) = cc
one_alone s true true (inr (e, f)) = cc
one_alone true false true (inl (e, f)) = cc
one_alone true false true (inr (e, f)) = cc

-- every command of this name has what it requires
pub wants : (name : Text) (rows : List Row) (c : Command) → IsNamed name rows c → Wants name rows
wants name rows (Find limit) h =
    subst (λ n. Wants n rows) (sym h.0) (finds rows _ _ _ false false h.1.3 (first_unset _ _ h.1.2) h.1.1 (h.1.2, (limit, h.1.0)))
wants name rows FindUnread h =
    subst (λ n. Wants n rows) (sym h.0) (finds rows _ _ _ false true h.1.3 (first_unset _ _ h.1.2) h.1.0 (h.1.2, h.1.1))
wants name rows (FindShortest processes) h =
    subst (λ n. Wants n rows) (sym h.0) (finds rows _ _ _ true false h.1.4 h.1.0 h.1.1 (refl, h.1.2, (processes, h.1.3)))
wants name rows (FindStocks limit) h =
    subst (λ n. Wants n rows) (sym h.0) (finds_stocks rows _ _ _ h.1.0 (h.1.1, h.1.2, (limit, h.1.3)))
wants name rows (Lint form) h = subst (λ n. Wants n rows) (sym h.0) (form, h.1)
wants name rows Draw h = subst (λ n. Wants n rows) (sym h.0) tt
wants name rows (Check certificate form) h =
    subst (λ n. Wants n rows) (sym h.0) ((certificate, h.1.0), (form, h.1.1), one_alone _ _ _ (inl (h.1.4, inl h.1.3)))
wants name rows (CheckUnread certificate form) h =
    subst (λ n. Wants n rows) (sym h.0) ((certificate, h.1.0), (form, h.1.1), one_alone _ _ _ (inl (h.1.4, inl h.1.3)))
wants name rows (CheckShortest certificate form) h =
    subst (λ n. Wants n rows) (sym h.0) ((certificate, h.1.0), (form, h.1.1), one_alone _ _ _ (inl (h.1.4, inr h.1.2)))
wants name rows (CheckStocks certificate form) h =
    subst (λ n. Wants n rows) (sym h.0) ((certificate, h.1.0), (form, h.1.1), one_alone _ _ _ (inr (h.1.2, h.1.3)))
wants name rows (Explain certificate all form) h =
    subst (λ n. Wants n rows) (sym h.0) ((certificate, h.1.0), explains rows _ false h.1.3 (form, h.1.2))
wants name rows (ExplainStocks certificate all) h =
    subst (λ n. Wants n rows) (sym h.0) ((certificate, h.1.0), explains rows _ true h.1.3 h.1.2)
wants name rows (Why limit all form) h =
    subst (λ n. Wants n rows) (sym h.0) (tells rows _ _ _ false false h.1.5 h.1.4 h.1.3 ((limit, h.1.0), (form, h.1.2)))
wants name rows (WhyRecoverable all form) h =
    subst (λ n. Wants n rows) (sym h.0) (tells rows _ _ _ false true h.1.5 h.1.1 h.1.0 (h.1.2, (form, h.1.4)))
wants name rows (WhyUnread all form) h =
    subst (λ n. Wants n rows) (sym h.0) (tells rows _ _ _ true false h.1.5 h.1.0 h.1.1 ((refl, h.1.2), (form, h.1.4)))
wants name rows (WhyStocks limit all) h =
    subst (λ n. Wants n rows) (sym h.0) (tells_stocks rows _ _ _ h.1.5 (h.1.4, h.1.3, (limit, h.1.0), h.1.2))
wants name rows (Pairs form) h = subst (λ n. Wants n rows) (sym h.0) (form, h.1)
wants name rows (Changes recoverable without_read pairs form) h = subst (λ n. Wants n rows) (sym h.0) ((form, h.1.3), h.1.4)
wants name rows (Show certificate words) h = subst (λ n. Wants n rows) (sym h.0) ((certificate, h.1.0), (words, h.1.1), h.1.2)
wants name rows (Agree certificate inputs schedule steps form) h =
    subst (λ n. Wants n rows) (sym h.0) ((certificate, h.1.0), (inputs, h.1.1), (schedule, h.1.2), (form, h.1.4), h.1.5)
wants name rows (Replay opening events form) h = subst (λ n. Wants n rows) (sym h.0) ((opening, h.1.0), (events, h.1.1), (form, h.1.2))
wants name rows (Serve opening calls form) h = subst (λ n. Wants n rows) (sym h.0) ((opening, h.1.0), (calls, h.1.1), (form, h.1.2))

-- what `classify` requires of its words
pub classify_wants : (rows : List Row) (i : Invocation) → IsInvocation (codes "classify") rows i
    → (is_limit_excluded rows ≡ false) × ((n : Option ℕ) × HasLimit rows n) × ((form : DocumentForm) × HasDocumentForm rows form)
    × ((ts : Vec TextSource Global) × HasTables rows ts.items)
classify_wants rows (Classify limit recoverable without_read form tables) h = (h.1, (limit, h.2), (form, h.5), (tables, h.6))
classify_wants rows (OfTable table command) h = absurd (wants (codes "classify") rows command h.arguments)
classify_wants rows (Lives table words) h = absurd (subst (λ n. MatchBool (bytes_eq n (codes "classify")) (Unit {0}) ⊥) h.0 tt)
classify_wants rows (ShortestRun table without_read words) h = absurd (subst (λ n. MatchBool (bytes_eq n (codes "classify")) (Unit {0}) ⊥) h.0 tt)
classify_wants rows (ShortestPlan table without_read processes words) h = absurd (subst (λ n. MatchBool (bytes_eq n (codes "classify")) (Unit {0}) ⊥) h.0 tt)
classify_wants rows (RecoverablePlan table processes form) h = absurd (subst (λ n. MatchBool (bytes_eq n (codes "classify")) (Unit {0}) ⊥) h.0 tt)

-- what `agree --recoverable` requires of its words
pub lives_wants : (rows : List Row) (i : Invocation) → is_flag_set (codes "recoverable") rows ≡ true → IsInvocation (codes "agree") rows i
    → (asks_for_shortest rows ≡ false) × ((t : TextSource) × HasRunTable rows t) × ((w : RunWords) × HasRun rows w)
lives_wants rows (Classify limit recoverable without_read form tables) flag h = absurd (subst (λ n. MatchBool (bytes_eq n (codes "agree")) (Unit {0}) ⊥) h.0 tt)
lives_wants rows (OfTable table command) flag h =
    absurd (go (is_flag_set (codes "recoverable") rows) _ flag (wants (codes "agree") rows command h.arguments).4)
  where
    go : (b d : Bool) → b ≡ true → (b || d) ≡ false → ⊥
    go true d e h = cc
    go false d e h = cc
lives_wants rows (Lives table words) flag h = (h.2, (table, h.3), (words, h.4))
lives_wants rows (ShortestRun table without_read words) flag h = let bad : true ≡ false = sym flag ∙ h.2 in cc
lives_wants rows (ShortestPlan table without_read processes words) flag h = absurd (subst (λ n. MatchBool (bytes_eq n (codes "agree")) (Unit {0}) ⊥) h.0 tt)
lives_wants rows (RecoverablePlan table processes form) flag h = absurd (subst (λ n. MatchBool (bytes_eq n (codes "agree")) (Unit {0}) ⊥) h.0 tt)

-- a flag that excludes a certificate is not there beside one
not_beside : (r s p : Bool) → s ≡ true → (r || (s || p)) ≡ false → ⊥
not_beside true s p e h = cc
not_beside false true p e h = cc
not_beside false false p e h = cc

-- what `agree` requires of the words for a shortest plan
pub run_wants : (rows : List Row) (i : Invocation) → asks_for_shortest rows ≡ true → IsInvocation (codes "agree") rows i
    → ((t : TextSource) × HasRunTable rows t) × ((w : RunWords) × HasRun rows w)
run_wants rows (Classify limit recoverable without_read form tables) flag h = absurd (subst (λ n. MatchBool (bytes_eq n (codes "agree")) (Unit {0}) ⊥) h.0 tt)
run_wants rows (OfTable table command) flag h =
    absurd (not_beside _ (asks_for_shortest rows) _ flag (wants (codes "agree") rows command h.arguments).4)
run_wants rows (Lives table words) flag h = let bad : true ≡ false = sym flag ∙ h.2 in cc
run_wants rows (ShortestRun table without_read words) flag h = ((table, h.4), (words, h.5))
run_wants rows (ShortestPlan table without_read processes words) flag h = absurd (subst (λ n. MatchBool (bytes_eq n (codes "agree")) (Unit {0}) ⊥) h.0 tt)
run_wants rows (RecoverablePlan table processes form) flag h = absurd (subst (λ n. MatchBool (bytes_eq n (codes "agree")) (Unit {0}) ⊥) h.0 tt)

-- what `show` requires of the words for a shortest plan
pub plan_wants : (rows : List Row) (i : Invocation) → asks_for_shortest rows ≡ true → IsInvocation (codes "show") rows i
    → ((t : TextSource) × HasPlanTable rows t) × ((n : Option ℕ) × HasOptionalNumber (codes "processes") rows n) × ((words : PlanWords) × HasPlanWords rows words)
plan_wants rows (Classify limit recoverable without_read form tables) flag h = absurd (subst (λ n. MatchBool (bytes_eq n (codes "show")) (Unit {0}) ⊥) h.0 tt)
plan_wants rows (OfTable table command) flag h =
    absurd (not_beside _ (asks_for_shortest rows) _ flag (wants (codes "show") rows command h.arguments).2)
plan_wants rows (Lives table words) flag h = absurd (subst (λ n. MatchBool (bytes_eq n (codes "show")) (Unit {0}) ⊥) h.0 tt)
plan_wants rows (ShortestRun table without_read words) flag h = absurd (subst (λ n. MatchBool (bytes_eq n (codes "show")) (Unit {0}) ⊥) h.0 tt)
plan_wants rows (ShortestPlan table without_read processes words) flag h = ((table, h.4), (processes, h.5), (words, h.6))
plan_wants rows (RecoverablePlan table processes form) flag h = let bad : true ≡ false = sym flag ∙ h.2 in cc

-- what `show --recoverable` requires of its words
pub recoverable_wants : (rows : List Row) (i : Invocation) → is_flag_set (codes "recoverable") rows ≡ true → IsInvocation (codes "show") rows i
    → (asks_for_shortest rows ≡ false) × (is_of_program rows ≡ false) × ((t : TextSource) × HasPlanTable rows t)
    × ((n : Option ℕ) × HasOptionalNumber (codes "processes") rows n) × ((form : AnswerForm) × HasAnswerForm rows form)
recoverable_wants rows (Classify limit recoverable without_read form tables) flag h = absurd (subst (λ n. MatchBool (bytes_eq n (codes "show")) (Unit {0}) ⊥) h.0 tt)
recoverable_wants rows (OfTable table command) flag h =
    absurd (go (is_flag_set (codes "recoverable") rows) _ flag (wants (codes "show") rows command h.arguments).2)
  where
    go : (b d : Bool) → b ≡ true → (b || d) ≡ false → ⊥
    go true d e h = cc
    go false d e h = cc
recoverable_wants rows (Lives table words) flag h = absurd (subst (λ n. MatchBool (bytes_eq n (codes "show")) (Unit {0}) ⊥) h.0 tt)
recoverable_wants rows (ShortestRun table without_read words) flag h = absurd (subst (λ n. MatchBool (bytes_eq n (codes "show")) (Unit {0}) ⊥) h.0 tt)
recoverable_wants rows (ShortestPlan table without_read processes words) flag h = let bad : true ≡ false = sym flag ∙ h.2 in cc
recoverable_wants rows (RecoverablePlan table processes form) flag h = (h.2, h.3, (table, h.4), (processes, h.5), (form, h.6))
