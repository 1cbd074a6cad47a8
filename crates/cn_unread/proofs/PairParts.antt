-- What a process sees of an order: the response and the last state.
use Rattle.std.proofs.Common.{◌≡◌, ℕ, List, sym, ap, ◌∙◌, Option, Some, None}
use Rattle.std.specs.Option.{option_map}
use Rattle.cn_table.specs.Run.{responses_along, state_after}
use Rattle.cn_table.specs.TypeTable.{TypeTable}
use Rattle.cn_choice.specs.OutcomeSets.{operations_of, pair_of, response_of}
use Rattle.cn_choice.specs.RawChoices.{RawChoice}
use Rattle.cn_choice.proofs.OrderLemmas.Walks.{pair_of-response_of}

-- the parts of a pair
-- the same as the private pair_parts of cn_consensus
pub pair_parts : (t : TypeTable) (c : RawChoice) (order : List ℕ) (j : ℕ) (pair : ℕ × ℕ)
    → pair_of t c order j ≡ Some pair
    → (response_of j order (responses_along t c.state (operations_of c order)) ≡ Some pair.0) ×
    (state_after t c.state (operations_of c order) ≡ pair.1)
pair_parts t c order j pair e =
    by_response (response_of j order (responses_along t c.state (operations_of c order)))
    (state_after t c.state (operations_of c order)) (sym (pair_of-response_of t c order j) ∙ e)
  where
    by_response : (r : Option ℕ) (s : ℕ) → option_map (λ x. let p : ℕ × ℕ =
        (x, s) in p) r ≡ Some pair → (r ≡ Some pair.0) × (s ≡ pair.1)
    by_response None s e = absurd (cc e)
    by_response (Some r) s e = let f : (r, s) ≡ pair =
        cc e in (ap (λ (p : ℕ × ℕ). Some p.0) f, ap (λ (p : ℕ × ℕ). p.1) f)
