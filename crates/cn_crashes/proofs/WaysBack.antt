-- Where an order of a team leads back to the start state, and the other team has two, the search
-- goes on from crashes of the processes with great numbers.
use Rattle.std.proofs.Common.{◌≡◌, ℕ, ◌-◌, ◌<◌, ◌≤◌, inl, inr, List, [], ◌∷◌, ◌++◌, length, sym, ap}
use Rattle.std.proofs.Common.{◌∙◌, subst, arith, Bool}
use Rattle.std.proofs.lemmas.Bool.{cases_lt}
use Rattle.cn_table.specs.Run.{state_after}
use Rattle.cn_table.specs.TypeTable.{TypeTable}
use Rattle.cn_choice.specs.Orders.{IsOrder}
use Rattle.cn_choice.specs.OutcomeSets.{BeginsIn, operations_of}
use Rattle.cn_choice.specs.RawChoices.{RawChoice}
use Rattle.cn_choice.specs.Renumbering.{other}
use Rattle.cn_choice.specs.declared.team.Team.{Team}
use Rattle.cn_choice.proofs.ListLemmas.Members.{IsIn}
use Rattle.cn_consensus.specs.Protocol.{IsProtocolOf, Protocol}
use Rattle.cn_consensus.specs.Configuration.{Configuration, after, step}
use Rattle.cn_consensus.proofs.Alike.{Alike, alike_decided, alike_stepped}
use Rattle.cn_consensus.proofs.OneObject.{unmoved}
use Rattle.cn_consensus.proofs.Witnesses.{team_by}
use Rattle.cn_crashes.specs.Execution.{Event, IsExecution, after_execution, after_crash}
use Rattle.cn_crashes.specs.Execution.Event.{Crash}
use Rattle.cn_crashes.specs.RecoverableWaitFreedom.{EndsFor}
use Rattle.cn_crashes.proofs.CrashFreeExecutions.{after_steps, steps, steps_execution}
use Rattle.cn_crashes.proofs.Executions.{after_execution-append, execution-append}
use Rattle.cn_crashes.proofs.LexicographicDescent.{Moves, free_moves}
use Rattle.cn_crashes.proofs.RoleRuns.{in_or_not}
use Rattle.cn_crashes.proofs.SureValues.{Budget, Runs, Sure, grant, grants, grants_two, spend}
use Rattle.cn_crashes.proofs.SureValues.{sure_clash, sure_crash, sure_step}
use Rattle.cn_crashes.proofs.SearchStates.{Shadow, State, config, config_more, free_to}
use Rattle.cn_crashes.proofs.SearchStates.{shadow_alike}
use Rattle.cn_crashes.proofs.CrashSeries.{crashed_above, crashed_below, crashed_objects}
use Rattle.cn_crashes.proofs.CrashSeries.{crashed_registers, crashes, crashes_execution}
use Rattle.cn_crashes.proofs.CrashSeries.{crashes_never, spends, spends_less, sure_crashes}
use Rattle.cn_crashes.proofs.CriticalStates.{CriticalState, Result, back_objects, ch, crashed_alike}
use Rattle.cn_crashes.proofs.CriticalStates.{has_run, place, runs_after, runs_order, schedule}
use Rattle.cn_crashes.proofs.CriticalStates.{shadowed, sure_after, value_is, value_of, values_apart}

module _ {L V : Type 0} (t : ℕ → TypeTable) (n : ℕ) (P : Protocol L V) (known : IsProtocolOf t n P)
    (two : 2 ≤ n) (inputs : ℕ → Bool)
    (endless : (es : List Event) → IsExecution n es → (p : ℕ) → p < n
    → EndsFor t n P inputs p (config t n P inputs es))
    (s : State t n P inputs) (K : CriticalState t n P known two inputs endless s)
    (onward : (r : State t n P inputs) (j : ℕ) → j < n → Moves t n P inputs j s r
    → Result t n P known two inputs endless r) where
  abbrev c : Configuration L V
  c = config t n P inputs s.events

  abbrev b : Budget
  b = s.budget

  abbrev chosen : RawChoice
  chosen = ch t n P known two inputs endless s K

  abbrev Order : List ℕ → Type 0
  Order order = IsOrder (length chosen.operations) order

  abbrev ends_in : List ℕ → ℕ
  ends_in order = state_after (t (place t n P known two inputs endless s K)) chosen.state
      (operations_of chosen order)

  abbrev final : ℕ
  final = n - 1

  final_known : final < n
  final_known = omega (arith, two)

  module _ (team : Team) (alpha : List ℕ) (o : Order alpha) (begins : BeginsIn chosen team alpha)
      (back : ends_in alpha ≡ chosen.state) (i j : ℕ) (ij : i < j) (lj : j < n)
      (team_i : team_by (K.value i) ≡ other team) (team_j : team_by (K.value j) ≡ other team)
    where
      abbrev x : Bool
      x = value_of team

      abbrev y : Bool
      y = value_of (other team)

      v_i : K.value i ≡ y
      v_i = value_is (K.value i) (other team) team_i

      li : i < n
      li = omega (arith, ij, lj)

      after_alpha : Sure t n P inputs x (after t P c alpha) (grants b alpha)
      after_alpha = sure_after t n P known two inputs endless s K team alpha o begins

      -- the smaller of the two has moved
      i_moved : IsIn i alpha
      i_moved = elim (in_or_not i alpha) [
        | inl moved ↦ moved
        | inr not ↦
            (let a : Alike i (after t P c alpha) c =
            record {
              local = unmoved t P i alpha c not;
              registers =
                  (has_run t n P known two inputs endless s K alpha o).registers;
              objects = back_objects t n P known two inputs endless s K alpha o back;
            } in
            let r = runs_order t n P known two inputs endless s K (i ∷ []) (li, tt) i li in
            let e : y ≡ x = sure_clash t n P inputs y x r.0 i (step t P c i)
            (step t P (after t P c alpha) i) (grant b i) (grant (grants b alpha) i) li r.1
            (alike_stepped t P i c (after t P c alpha) (record {
              local = sym a.local;
              registers =
                  λ k. sym (a.registers k);
              objects = λ k. sym (a.objects k);
            }))
            (subst (λ (z : Bool). Sure t n P inputs z (step t P c i) (grant b i)) v_i
            (K.sure_at i li))
            (sure_step t n P inputs x (after t P c alpha) (grants b alpha) i li
            (alike_decided t P i (after t P c alpha) c a ∙ K.undecided i li) after_alpha) in
            absurd (values_apart team (sym e)))
      ]

      abbrev count : ℕ
      count = n - j

      abbrev fresh : Configuration L V
      fresh = after_execution t P inputs c (crashes j count)

      abbrev mirror : Configuration L V
      mirror = after_execution t P inputs (after t P c alpha) (crashes j count)

      mirror_sure : Sure t n P inputs x mirror (spends (grants b alpha) j count)
      mirror_sure =
          sure_crashes t n P inputs x j count (after t P c alpha) (grants b alpha) (omega (
            arith,
            lj,
          )) after_alpha
          (λ p u l. (let g = grants_two b alpha i p i_moved (omega (arith, ij, u)) in omega (
            arith,
            g,
          )))

      fresh_shadow : Shadow t n P inputs fresh b j
      fresh_shadow = record {
        other = mirror;
        budget = spends (grants b alpha) j count;
        value = x;
        sure = mirror_sure;
        registers = λ k. crashed_registers t n P inputs j count c k
            ∙ (sym ((has_run t n P known two inputs endless s K alpha o).registers k)
            ∙ sym (crashed_registers t n P inputs j count (after t P c alpha) k));
        objects = λ k. crashed_objects t n P inputs j count c k
            ∙ (sym (back_objects t n P known two inputs endless s K alpha o back k)
            ∙ sym (crashed_objects t n P inputs j count (after t P c alpha) k));
        locals = λ p u l. crashed_above t n P inputs j count c p u (omega (arith, l, lj))
            ∙ sym (crashed_above t n P inputs j count (after t P c alpha) p u (omega (
              arith,
              l,
              lj,
            )));
        more = λ p u l.
            (let g = grants_two b alpha i p i_moved (omega (arith, ij, u)) in
            let h = spends_less (grants b alpha) j count p in
            omega (arith, g, h));
      }

      crashes_known : IsExecution n (crashes j count)
      crashes_known = crashes_execution n j count (omega (arith, lj))

      -- after the crashes nothing is sure
      not_sure : (z : Bool) → Sure t n P inputs z fresh b → ⊥
      unfolding fresh_shadow
      not_sure z h =
          let r = runs_after t n P known two inputs endless s K (crashes j count) crashes_known j
          lj in
          let first : z ≡ x = sure_clash t n P inputs z x r.0 j fresh mirror b
          (spends (grants b alpha) j count) lj r.1
          (shadow_alike t n P inputs fresh b j j (omega arith) lj fresh_shadow) h mirror_sure in
          let a : Alike i c fresh = record {
            local = sym (crashed_below t n P inputs j count c i ij);
            registers = λ k. sym (crashed_registers t n P inputs j count c k);
            objects = λ k. sym (crashed_objects t n P inputs j count c k);
          } in
          let u = runs_order t n P known two inputs endless s K (i ∷ []) (li, tt) i li in
          let second : K.value i ≡ z = sure_clash t n P inputs (K.value i) z u.0 i (step t P c i)
          (step t P fresh i) (grant b i) (grant b i) li u.1
          (alike_stepped t P i c fresh a) (K.sure_at i li)
          (sure_step t n P inputs z fresh b i li (sym (alike_decided t P i c fresh a)
          ∙ K.undecided i li) h) in
          values_apart team (sym (sym v_i ∙ (second ∙ first)))

      above_level : s.level ≤ j → Shadow t n P inputs c b s.level → ⊥
      above_level u sh =
          let y_is : y ≡ sh.value = sym (value_is (K.value j) (other team) team_j)
          ∙ shadowed t n P known two inputs endless s K sh j u lj in
          let grown = grants_two b alpha i final i_moved (omega (arith, ij, lj)) in
          let more = sh.more final (omega (arith, u, lj)) final_known in
          let us : List Event = steps alpha ++ Crash final ∷ [] in
          let r = runs_after t n P known two inputs endless s K us
          (execution-append n (steps alpha) (Crash final ∷ [])
          (steps_execution n alpha (schedule t n P known two inputs endless s K alpha o))
          (final_known, tt)) final final_known in
          let here : after_execution t P inputs c us ≡ after_crash P inputs (after t P c alpha)
          final =
          after_execution-append t P inputs c (steps alpha) (Crash final ∷ [])
          ∙ ap (λ (d : Configuration L V).
          after_crash P inputs d final) (after_steps t P inputs c alpha) in
          let runs = subst (λ (d : Configuration L V). Runs t n P inputs final r.0 d) here r.1 in
          let e : x ≡ sh.value = sure_clash t n P inputs x sh.value r.0 final
          (after_crash P inputs (after t P c alpha) final) (after_crash P inputs sh.other final)
          (spend (grants b alpha) final) (spend sh.budget final) final_known runs
          (crashed_alike t n P known two inputs endless s K final (after t P c alpha) sh.other
          (λ k. (has_run t n P known two inputs endless s K alpha o).registers k
          ∙ sh.registers k) (λ k. back_objects t n P known two inputs endless s K alpha o back k
          ∙ sh.objects k))
          (sure_crash t n P inputs x (after t P c alpha) (grants b alpha) final final_known
          (omega (arith, grown)) after_alpha)
          (sure_crash t n P inputs sh.value sh.other sh.budget final final_known (omega (
            arith,
            more,
          )) sh.sure) in
          values_apart team (e ∙ sym y_is)

      pub led_back : Result t n P known two inputs endless s
      unfolding free_to
      led_back = elim (cases_lt j s.level) [
        | inl l ↦
            (let fled : List Event = s.events ++ crashes j count in
            let sh : Shadow t n P inputs (config t n P inputs fled) b j =
            subst (λ (d : Configuration L V). Shadow t n P inputs d b j)
            (sym (config_more t n P inputs s.events (crashes j count))) fresh_shadow in
            elim (onward (free_to t n P inputs s (crashes j count) j crashes_known sh) j lj
            (free_moves t n P inputs s (crashes j count) j crashes_known sh l (λ k u.
            crashes_never j count k u))) [
              | inl sure ↦ absurd (not_sure sure.0 (subst (λ (d : Configuration L V).
                  Sure t n P inputs sure.0 d b)
                  (config_more t n P inputs s.events (crashes j count)) sure.1))
              | inr found ↦ inr found
            ])
        | inr u ↦ absurd (above_level u (s.shadow (omega (arith, u, lj))))
      ]
