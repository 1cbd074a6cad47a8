-- What a walk along a list of processes shows.
use Rattle.std.proofs.Common.{◌≡◌, ◌≢◌, ◌↔◌, ℕ, ◌+◌, ◌<◌, List, [], ◌∷◌, length, drop, drop-cons, add-one, get_or, refl, sym, ap, ◌∙◌, subst, arith, Bool, true, false, cond, ◌==◌, Option, Some, None, option_map}
use Rattle.std.specs.Prelude.{slice_index}
use Rattle.std.proofs.lemmas.Bool.{eq-eqb, ne_eqb}
use Rattle.std.proofs.lemmas.List.{drop_all}
use Rattle.std.proofs.lemmas.Option.{none-some}
use Rattle.cn_table.specs.Run.{responses_along, state_after}
use Rattle.cn_table.specs.TypeTable.{TypeTable, transition}
use Rattle.cn_choice.specs.Orders.{IsOrder}
use Rattle.cn_choice.specs.OutcomeSets.{operations_of, pair_of, response_of}
use Rattle.cn_choice.specs.RawChoices.{RawChoice}
use Rattle.cn_check.specs.Runs.{AreMoves}
use Rattle.cn_check.proofs.RunLemmas.{no_moves, order_is_moves}
use Rattle.cn_check.proofs.WalkLemmas.{IsSeenAlong, IsWalked, first_none, first_some, walk_end}

-- a walk along a list that is moves where these processes have moved: it shows a pair exactly if the list is an order that shows the pair
pub walk_shows : IsSeenAlong → (t : TypeTable) (c : RawChoice) (m n used : ℕ) (order : List ℕ) (process i state : ℕ) (kept : Option ℕ) → n ≡ m → i ≡ length order
    → IsWalked t c order process i state kept → (AreMoves n used (drop i order) ↔ AreMoves n 0 order)
    → (pair : ℕ × ℕ) → (option_map (λ response. (response, state)) kept ≡ Some pair) ↔ (IsOrder m order × (pair_of t c order process ≡ Some pair))
walk_shows seen t c m n used order process i state kept same end walked moves pair =
    let shown = walk_end seen t c order process i state kept end walked in
    let none : drop i order ≡ [] = drop_all i order (omega (arith, end)) in
    let are : AreMoves n 0 order = moves.0 (subst (AreMoves n used) (sym none) (no_moves n used)) in (
      λ h.
          let someone : order ≢ [] = λ empty. none-some pair (sym (ap (λ (o : List ℕ). pair_of t c o process) empty ∙ seen t c [] process) ∙ (sym shown ∙ h)) in (
            subst (λ (k : ℕ). IsOrder k order) same ((order_is_moves n order).1 (someone, are)),
            sym shown ∙ h,
          ),
      λ k. shown ∙ k.1,
    )

-- ---- one move further

some_first : (kept : Option ℕ) (own : Bool) (response : ℕ) (later : Option ℕ) → first_some (first_some kept (cond own (Some response) None)) later ≡ first_some kept (cond own (Some response) later)
some_first (Some k) own response later = refl
some_first None true response later = refl
some_first None false response later = refl

pub walk_next : (t : TypeTable) (c : RawChoice) (order : List ℕ) (process i state : ℕ) (kept seen : Option ℕ) (response next : ℕ) → i < length order → IsWalked t c order process i state kept
    → (response, next) ≡ transition t (slice_index c.operations (get_or order i 0)) state → next < length t.states
    → seen ≡ first_some kept (cond (get_or order i 0 == process) (Some response) None) → IsWalked t c order process (i + 1) next seen
walk_next t c order process i state kept seen response next inside walked move known own =
    let p : ℕ = get_or order i 0 in
    let rest : List ℕ = drop (i + 1) order in
    let split : drop i order ≡ p ∷ rest = rw (add-one, drop-cons order i 0) refl in
    let o : ℕ = slice_index c.operations p in
    let later : ℕ → Option ℕ = λ q. response_of process rest (responses_along t q (operations_of c rest)) in
    record {
      known = known;
      after = ap (λ (x : ℕ × ℕ). state_after t x.1 (operations_of c rest)) move ∙ (ap (λ (ps : List ℕ). state_after t state (operations_of c ps)) (sym split) ∙ walked.after);
      response =
          ap (λ (k : Option ℕ). first_some k (later next)) own
          ∙ (some_first kept (p == process) response (later next)
          ∙ (ap (λ (x : ℕ × ℕ). first_some kept (cond (p == process) (Some x.0) (later x.1))) move
          ∙ (ap (λ (ps : List ℕ). first_some kept (response_of process ps (responses_along t state (operations_of c ps)))) (sym split) ∙ walked.response)));
    }

-- what is kept in each case
pub kept_new : (kept seen : Option ℕ) (p process response : ℕ) → p ≡ process → kept ≡ None → seen ≡ Some response → seen ≡ first_some kept (cond (p == process) (Some response) None)
kept_new kept seen p process response own none is = rw (none, eq-eqb p process own) is

pub kept_old : (kept seen : Option ℕ) (own : Bool) (response : ℕ) → kept ≢ None → seen ≡ kept → seen ≡ first_some kept (cond own (Some response) None)
kept_old None seen own response some is = absurd (some refl)
kept_old (Some old) seen own response some is = is

pub kept_other : (kept seen : Option ℕ) (p process response : ℕ) → p ≢ process → seen ≡ kept → seen ≡ first_some kept (cond (p == process) (Some response) None)
kept_other kept seen p process response other is = is ∙ rw (ne_eqb p process other) (sym (first_none kept))
