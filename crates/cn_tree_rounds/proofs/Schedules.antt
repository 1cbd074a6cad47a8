-- A world while a schedule runs.
use Rattle.std.proofs.Common.{ℕ, zero, suc, ◌≡◌, ◌+◌, ◌<◌, List, [], ◌∷◌, ◌++◌, length, map, take, get_or, Option, refl, sym, ap, ◌∙◌, arith}
use Rattle.std.specs.List.{range_with_len}
use Rattle.std.proofs.lemmas.List.FromFn.{map-range_with_len_more}
use Rattle.cn_trees.specs.Steps.{World, after_schedule, after_step}
use Rattle.cn_trees.specs.Tree.{PlanTree}
use Rattle.cn_tree_rounds.specs.Actions.{action_of, record_at}
use Rattle.cn_tree_rounds.specs.declared.action.Action.{Action}
use Rattle.cn_tree_rounds.specs.declared.action.StepRecord.{StepRecord}

-- the steps before step k, and then step k
take_schedule : (T : PlanTree) (schedule : List ℕ) (k : ℕ) → k < length schedule → (w : World ℕ)
    → after_schedule T (take (suc k) schedule) w ≡ after_step T (get_or schedule k 0) (after_schedule T (take k schedule) w)
take_schedule T [] k less w = absurd (omega arith)
take_schedule T (q ∷ schedule) zero less w = refl
take_schedule T (q ∷ schedule) (suc k) less w = take_schedule T schedule k (omega arith) (after_step T q w)

-- one step more
pub one_more_step : (T : PlanTree) (schedule : List ℕ) (k : ℕ) (start w w' : World ℕ) → k < length schedule → w' ≡ after_step T (get_or schedule k 0) w
    → w ≡ after_schedule T (take k schedule) start → w' ≡ after_schedule T (take (k + 1) schedule) start
one_more_step T schedule k start w w' less next run =
    let suc_is : k + 1 ≡ suc k = omega arith in
    rw suc_is (next ∙ ap (after_step T (get_or schedule k 0)) run ∙ sym (take_schedule T schedule k less start))

abbrev told_of : ℕ → Option Action → StepRecord
told_of p action = record { process = p; action = action }

-- and one record more
pub one_more_record : (T : PlanTree) (schedule : List ℕ) (k : ℕ) (done done' : List StepRecord) (told : Option Action) (start w : World ℕ) → told ≡ action_of T (get_or schedule k 0) w
    → w ≡ after_schedule T (take k schedule) start → done' ≡ done ++ record { process = get_or schedule k 0; action = told } ∷ [] → done ≡ map (record_at T schedule start) (range_with_len 0 k)
    → done' ≡ map (record_at T schedule start) (range_with_len 0 (k + 1))
one_more_record T schedule k done done' told start w action run more records =
    let p : ℕ = get_or schedule k 0 in
    let same : told_of p told ≡ record_at T schedule start k = ap (told_of p) (action ∙ ap (action_of T p) run) in
    more
    ∙ ap (λ (l : List StepRecord). l ++ told_of p told ∷ []) records
    ∙ ap (λ (r : StepRecord). map (record_at T schedule start) (range_with_len 0 k) ++ r ∷ []) same
    ∙ sym (map-range_with_len_more (record_at T schedule start) 0 k k (omega arith))
