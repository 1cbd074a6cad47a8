-- Calls that fit an opening: its plan and its object.
use Rattle.std.proofs.Common.{◌≡◌, ◌<◌, ◌==◌, ◌∙◌, ℕ, List, All, length, map, nat_lt, slice_index_or, true, sym, ltb-true, eqb-true}
use Rattle.std.specs.List.{list_all}
use Rattle.std.proofs.lemmas.Bool.{and_parts}
use Rattle.std.proofs.lemmas.List.{length-map}
use Rattle.std.proofs.lemmas.List.Folds.{list_all-map}
use Rattle.std.proofs.lemmas.List.Sums.{AllPass-from_list_all}
use Rattle.cn_proto.specs.Plan.{processes_of}
use Rattle.cn_log.specs.Opening.{Opening}
use Rattle.cn_io.specs.Arguments.Calls.{calls_fit}

module _ {V : Type 0} (items : V → List ℕ) (o : Opening) (calls : List V) (fit : calls_fit o (map items calls) ≡ true) where
  -- there are as many lists as processes
  pub lists_of_processes : length calls ≡ processes_of o.plan
  lists_of_processes =
      sym (length-map calls items) ∙ eqb-true (length (map items calls)) (processes_of o.plan)
      (and_parts (length (map items calls) == processes_of o.plan) (list_all (λ list. list_all (λ operation. nat_lt operation (length o.object.operations)) list) (map items calls)) fit).0

  -- each call is of an operation of the object
  pub calls_of_operations : All (λ list. All (λ operation. operation < length o.object.operations) (items list)) calls
  calls_of_operations p d less j x there =
      let known : list_all (λ list. list_all (λ operation. nat_lt operation (length o.object.operations)) (items list)) calls ≡ true =
      sym (list_all-map (λ list. list_all (λ operation. nat_lt operation (length o.object.operations)) list) items calls)
      ∙ (and_parts (length (map items calls) == processes_of o.plan) (list_all (λ list. list_all (λ operation. nat_lt operation (length o.object.operations)) list) (map items calls)) fit).1 in
      let one = AllPass-from_list_all (λ list. list_all (λ operation. nat_lt operation (length o.object.operations)) (items list)) calls known p d less in
      ltb-true (slice_index_or (items (slice_index_or calls p d)) j x) (length o.object.operations)
      (AllPass-from_list_all (λ operation. nat_lt operation (length o.object.operations)) (items (slice_index_or calls p d)) one j x there)
