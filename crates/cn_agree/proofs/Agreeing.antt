-- Whole schedules end in consensus.
use Rattle.std.proofs.Common.{ℕ, zero, suc, ◌≡◌, ◌-◌, ◌<◌, ◌≤◌, List, [], ◌∷◌, ◌++◌, length, map, slice_get, slice_index_or, Option, Some, None, IsSome, refl, sym, ap, ◌∙◌, arith, append_assoc, append-nil, subst, true≢false}
use Rattle.std.proofs.lemmas.List.{length-map}
use Rattle.cn_choice.specs.declared.team.Team.{Team}
use Rattle.cn_proto.specs.Protocol.{ProtocolOfRounds}
use Rattle.cn_proto.specs.Sound.{IsSound}
use Rattle.cn_agree.specs.declared.local.Local.{Local}
use Rattle.cn_agree.specs.declared.local.Local.TheVariants.{NotBegun}
use Rattle.cn_agree.specs.World.{World}
use Rattle.cn_agree.specs.Steps.{after_step, after_schedule}
use Rattle.cn_agree.specs.Reached.{IsReached, Steps, HasBegun}
use Rattle.cn_agree.specs.Rounds.{decision_of, decision_at}
use Rattle.cn_agree.specs.Consensus.{IsSchedule, HasDecided, IsConsensus}
use Rattle.cn_agree.specs.Schedules.{all_begun, decisions_of}
use Rattle.cn_agree.proofs.StepCounts.{inputs_step}
use Rattle.cn_agree.proofs.Reaching.{locals_are, begun_stays}
use Rattle.cn_agree.proofs.Fixing.{keeps_consensus}
use Rattle.cn_agree.proofs.Beginning.{reached_all, begun_all}

-- an entry of the decisions is the decision in the local state
pub decides_at : {V : Type 0} (locals : List (Local V)) (p : ℕ) (x : V) → slice_get (map decision_of locals) p ≡ Some (Some x) → decision_of (slice_index_or locals p NotBegun) ≡ Some x
decides_at [] p x h = absurd cc
decides_at (l ∷ locals) zero x h = cc
decides_at (l ∷ locals) (suc p) x h = decides_at locals p x h

entry_at : {V : Type 0} (locals : List (Local V)) (p : ℕ) → p < length locals → slice_get (map decision_of locals) p ≡ Some (decision_of (slice_index_or locals p NotBegun))
entry_at [] p lt = absurd (omega arith)
entry_at (l ∷ locals) zero lt = refl
entry_at (l ∷ locals) (suc p) lt = entry_at locals p (omega arith)

-- an input on record is one of the inputs
given : {V : Type 0} (inputs : List V) (p : ℕ) (y : V) → slice_index_or (map (λ x. Some x) inputs) p None ≡ Some y → slice_get inputs p ≡ Some y
given [] p y h = absurd cc
given (x ∷ inputs) zero y h = h
given (x ∷ inputs) (suc p) y h = given inputs p y h

inputs_schedule : {V : Type 0} (P : ProtocolOfRounds) (schedule : List ℕ) (w : World V) → (after_schedule P schedule w).inputs ≡ w.inputs
inputs_schedule P [] w = refl
inputs_schedule P (p ∷ schedule) w = inputs_schedule P schedule (after_step P p w) ∙ inputs_step P p w

module _ {V : Type 0} (P : ProtocolOfRounds) (n nodes : ℕ) (team : ℕ → Team) (sound : IsSound P n nodes team) where
  -- a round in which all have begun reaches the world after any schedule
  pub reached_after : (before schedule : List ℕ) (w : World V) → IsReached P n nodes before w → ((p : ℕ) → p < n → HasBegun w p) → IsSchedule n schedule
      → IsReached P n nodes (before ++ schedule) (after_schedule P schedule w)
  reached_after before [] w r begun all = let T : List ℕ → Type 0 = λ s. IsReached P n nodes s w in subst T (sym (append-nil before)) r
  reached_after before (p ∷ schedule) w r begun all =
      let T : List ℕ → Type 0 = λ s. IsReached P n nodes s (after_schedule P schedule (after_step P p w)) in
      subst T (append_assoc before (p ∷ []) schedule)
      (reached_after (before ++ p ∷ []) schedule (after_step P p w) (Steps p all.0 (begun p all.0) r) (λ q lq. begun_stays P n nodes team sound r p q all.0 (begun q lq)) all.1)

  consensus_of : (inputs : List V) (schedule : List ℕ) (w : World V) → IsReached P n nodes schedule w → w.inputs ≡ map (λ x. Some x) inputs
      → ((p : ℕ) → p < n → length (P.path p) ≤ nodes) → nodes ≡ n - 1
      → IsConsensus P n inputs schedule (decisions_of w)
  consensus_of inputs schedule w r given_inputs short one_fewer =
      let keeps = keeps_consensus P n nodes team sound r in
      let many = locals_are P n nodes team sound r in
      record {
        entries = length-map w.locals decision_of ∙ many;
        agreement = λ p q x y dp dq.
            (let fp = keeps.decisions p x (decides_at w.locals p x dp) in
            let fq = keeps.decisions q y (decides_at w.locals q y dq) in cc (fp, fq));
        validity = λ p x d.
            (let v = keeps.valid x (keeps.decisions p x (decides_at w.locals p x d)) in
            (v.0, v.2, given inputs v.0 x (ap (λ (is : List (Option V)). slice_index_or is v.0 None) (sym given_inputs) ∙ v.3)));
        wait_free = record {
          in_time = λ p lt. (
            λ d. (keeps.in_time p lt).0 (some (decision_at w p) d.0 (decides_at w.locals p d.0 d.1)),
            λ le. decides p lt (decision_at w p) refl ((keeps.in_time p lt).1 le),
          );
          bound = λ p lt. (let s = short p lt in omega arith);
        };
      }
    where
      some : (found : Option V) (y : V) → found ≡ Some y → IsSome found
      some found y e = rw e refl

      decides : (p : ℕ) → p < n → (found : Option V) → decision_at w p ≡ found → IsSome found → HasDecided (decisions_of w) p
      decides p lt None e s = absurd (true≢false (sym s))
      decides p lt (Some y) e s = (y, entry_at w.locals p (rw (locals_are P n nodes team sound r) lt) ∙ ap Some e)

  pub schedules_reach_consensus : (inputs : List V) (schedule : List ℕ) → length inputs ≡ n → IsSchedule n schedule → ((p : ℕ) → p < n → length (P.path p) ≤ nodes) → nodes ≡ n - 1
      → IsConsensus P n inputs schedule (decisions_of (after_schedule P schedule (all_begun P nodes inputs)))
  schedules_reach_consensus inputs schedule many all short one_fewer =
      consensus_of inputs schedule (after_schedule P schedule (all_begun P nodes inputs))
      (reached_after [] schedule (all_begun P nodes inputs) (reached_all P n nodes inputs many) (begun_all P n nodes inputs many) all)
      (inputs_schedule P schedule (all_begun P nodes inputs)) short one_fewer
