-- A walk along an order: the state so far, and the response that a process has got.
use Rattle.std.proofs.Common.{◌≡◌, ℕ, ◌<◌, List, length, drop, refl, sym, ◌∙◌, arith, Option, Some, None, option_map}
use Rattle.std.proofs.lemmas.List.{drop_all}
use Rattle.cn_table.specs.Run.{responses_along, state_after}
use Rattle.cn_table.specs.TypeTable.{TypeTable}
use Rattle.cn_choice.specs.RawChoices.{RawChoice}
use Rattle.cn_choice.specs.OutcomeSets.{operations_of, pair_of, response_of}

-- what the law of pairs says
abbrev pub IsSeenAlong : Type 0
IsSeenAlong = (t : TypeTable) (c : RawChoice) (order : List ℕ) (j : ℕ) → pair_of t c order j ≡ option_map (λ response. (response, state_after t c.state (operations_of c order)))
    (response_of j order (responses_along t c.state (operations_of c order)))

-- the first of two that is there
abbrev pub first_some : Option ℕ → Option ℕ → Option ℕ
first_some None y = y
first_some (Some x) y = Some x

-- the walk has come to place i of the order, and to this state; what it has kept and what is ahead are what the whole order gives
pub record IsWalked (t : TypeTable) (c : RawChoice) (order : List ℕ) (process i state : ℕ) (kept : Option ℕ) : Type 0 where
  pub known : state < length t.states
  pub after : state_after t state (operations_of c (drop i order)) ≡ state_after t c.state (operations_of c order)
  pub response : first_some kept (response_of process (drop i order) (responses_along t state (operations_of c (drop i order)))) ≡ response_of process order
      (responses_along t c.state (operations_of c order))

pub first_none : (kept : Option ℕ) → first_some kept None ≡ kept
first_none None = refl
first_none (Some x) = refl

-- at the end of the order the pair is there
pub walk_end : IsSeenAlong → (t : TypeTable) (c : RawChoice) (order : List ℕ) (process i state : ℕ) (kept : Option ℕ) → i ≡ length order → IsWalked t c order process i state kept
    → option_map (λ response. (response, state)) kept ≡ pair_of t c order process
walk_end seen t c order process i state kept e w =
    let none = drop_all i order (omega (arith, e)) in
    let after = rw none at w.after in
    let response = rw (none, first_none kept) at w.response in
    rw (response, after) refl ∙ sym (seen t c order process)
