-- Where orders of both teams leave one state, the search goes on from a step and a crash of the
-- last process.
use Rattle.std.proofs.Common.{◌-◌, ◌≡◌, ◌≢◌, ℕ, ◌<◌, ◌≤◌, inl, inr, List, [], ◌∷◌, ◌++◌, length}
use Rattle.std.proofs.Common.{refl, sym, ap, ◌∙◌, subst, arith, Bool}
use Rattle.std.proofs.lemmas.Bool.{cases_lt}
use Rattle.cn_table.specs.Run.{state_after}
use Rattle.cn_table.specs.TypeTable.{TypeTable}
use Rattle.cn_choice.specs.Orders.{IsOrder}
use Rattle.cn_choice.specs.OutcomeSets.{BeginsIn, operations_of}
use Rattle.cn_choice.specs.RawChoices.{RawChoice}
use Rattle.cn_choice.specs.Renumbering.{other}
use Rattle.cn_choice.specs.declared.team.Team.{Team}
use Rattle.cn_choice.proofs.ListLemmas.Arrangements.{Differ}
use Rattle.cn_choice.proofs.ListLemmas.Members.{IsIn}
use Rattle.cn_consensus.specs.Protocol.{IsProtocolOf, Protocol}
use Rattle.cn_consensus.specs.Configuration.{Configuration, after, step}
use Rattle.cn_consensus.specs.Consensus.{IsSchedule}
use Rattle.cn_consensus.proofs.Alike.{Alike, alike_decided, alike_stepped, put-other, put-same}
use Rattle.cn_consensus.proofs.OneObject.{unmoved}
use Rattle.cn_crashes.specs.Execution.{Event, IsExecution, NeverCrashes, after_execution}
use Rattle.cn_crashes.specs.Execution.{after_crash}
use Rattle.cn_crashes.specs.Execution.Event.{Step, Crash}
use Rattle.cn_crashes.specs.RecoverableWaitFreedom.{EndsFor}
use Rattle.cn_crashes.proofs.CrashFreeExecutions.{after_steps, steps, steps_execution}
use Rattle.cn_crashes.proofs.Executions.{after_execution-append, execution-append}
use Rattle.cn_crashes.proofs.LexicographicDescent.{Moves, free_moves}
use Rattle.cn_crashes.proofs.RoleRuns.{in_or_not}
use Rattle.cn_crashes.proofs.SureValues.{Budget, Runs, Sure, grant, grant_more, grants, grants_more}
use Rattle.cn_crashes.proofs.SureValues.{grants_two, runs_alike, spend, spend_less, sure_alone}
use Rattle.cn_crashes.proofs.SureValues.{sure_clash, sure_crash, sure_less, sure_step}
use Rattle.cn_crashes.proofs.SearchStates.{Shadow, State, config, config_more, free_to}
use Rattle.cn_crashes.proofs.SearchStates.{shadow_alike}
use Rattle.cn_crashes.proofs.CriticalStates.{CriticalState, Result, ch, crashed_alike, differ}
use Rattle.cn_crashes.proofs.CriticalStates.{place, runs_after, runs_order, same_objects}
use Rattle.cn_crashes.proofs.CriticalStates.{same_registers, schedule, sure_after, value_of}
use Rattle.cn_crashes.proofs.CriticalStates.{values_apart}

module _ {L V : Type 0} (t : ℕ → TypeTable) (n : ℕ) (P : Protocol L V) (known : IsProtocolOf t n P)
    (two : 2 ≤ n) (inputs : ℕ → Bool)
    (endless : (es : List Event) → IsExecution n es → (p : ℕ) → p < n
    → EndsFor t n P inputs p (config t n P inputs es))
    (s : State t n P inputs) (K : CriticalState t n P known two inputs endless s)
    (onward : (r : State t n P inputs) (j : ℕ) → j < n → Moves t n P inputs j s r
    → Result t n P known two inputs endless r) where
  abbrev c : Configuration L V
  c = config t n P inputs s.events

  abbrev b : Budget
  b = s.budget

  abbrev chosen : RawChoice
  chosen = ch t n P known two inputs endless s K

  abbrev Order : List ℕ → Type 0
  Order order = IsOrder (length chosen.operations) order

  abbrev ends_in : List ℕ → ℕ
  ends_in order = state_after (t (place t n P known two inputs endless s K)) chosen.state
      (operations_of chosen order)

  abbrev final : ℕ
  final = n - 1

  final_known : final < n
  final_known = omega (arith, two)

  module _ (team : Team) (alpha beta : List ℕ) (o : Order alpha) (u : Order beta)
      (begins : BeginsIn chosen team alpha) (begins_too : BeginsIn chosen (other team) beta)
      (same : ends_in alpha ≡ ends_in beta) where
    abbrev mine : Bool
    mine = value_of team

    abbrev theirs : Bool
    theirs = value_of (other team)

    sure_alpha : Sure t n P inputs mine (after t P c alpha) (grants b alpha)
    sure_alpha = sure_after t n P known two inputs endless s K team alpha o begins

    sure_beta : Sure t n P inputs theirs (after t P c beta) (grants b beta)
    sure_beta = sure_after t n P known two inputs endless s K (other team) beta u begins_too

    -- each process has moved in one of them
    moved_in_one : (r : ℕ) → r < n → (IsIn r alpha → ⊥) → (IsIn r beta → ⊥) → ⊥
    moved_in_one r l a k =
        let d : Alike r (after t P c alpha) (after t P c beta) = record {
          local = unmoved t P r alpha c a ∙ sym (unmoved t P r beta c k);
          registers = same_registers t n P known two inputs endless s K alpha beta o u;
          objects = same_objects t n P known two inputs endless s K alpha beta o u same;
        } in
        let z = runs_order t n P known two inputs endless s K alpha
        (schedule t n P known two inputs endless s K alpha o) r l in
        values_apart team (sure_clash t n P inputs mine theirs z.0 r (after t P c alpha)
        (after t P c beta) (grants b alpha) (grants b beta) l z.1 d sure_alpha sure_beta)

    -- the final process may not crash after both
    pub crash_after_both : 1 ≤ grants b alpha final → 1 ≤ grants b beta final → ⊥
    crash_after_both l k =
        let us : List Event = steps alpha ++ Crash final ∷ [] in
        let r = runs_after t n P known two inputs endless s K us
        (execution-append n (steps alpha) (Crash final ∷ [])
        (steps_execution n alpha (schedule t n P known two inputs endless s K alpha o))
        (final_known, tt)) final final_known in
        let here : after_execution t P inputs c us ≡ after_crash P inputs (after t P c alpha)
        final =
        after_execution-append t P inputs c (steps alpha) (Crash final ∷ [])
        ∙ ap (λ (d : Configuration L V).
        after_crash P inputs d final) (after_steps t P inputs c alpha) in
        let runs = subst (λ (d : Configuration L V). Runs t n P inputs final r.0 d) here r.1 in
        values_apart team (sure_clash t n P inputs mine theirs r.0 final
        (after_crash P inputs (after t P c alpha) final)
        (after_crash P inputs (after t P c beta) final)
        (spend (grants b alpha) final) (spend (grants b beta) final) final_known runs
        (crashed_alike t n P known two inputs endless s K final (after t P c alpha)
        (after t P c beta)
        (same_registers t n P known two inputs endless s K alpha beta o u)
        (same_objects t n P known two inputs endless s K alpha beta o u same))
        (sure_crash t n P inputs mine (after t P c alpha) (grants b alpha) final final_known l
        sure_alpha)
        (sure_crash t n P inputs theirs (after t P c beta) (grants b beta) final final_known k
        sure_beta))

    module _ (small : (p : ℕ) → p < final → IsIn p alpha → ⊥) where
      last_alone : (order : List ℕ) → Order order → ((p : ℕ) → p < final → IsIn p order → ⊥)
          → order ≡ final ∷ []
      last_alone order o none = go order (λ e.
          o.someone e) (differ t n P known two inputs endless s K order o)
          (schedule t n P known two inputs endless s K order o) none
        where
          go : (order : List ℕ) → (order ≢ []) → Differ order → IsSchedule n order
              → ((p : ℕ) → p < final → IsIn p order → ⊥) → order ≡ final ∷ []
          go [] some d h none = absurd (some refl)
          go (p ∷ []) some d h none = elim (cases_lt p final) [
            | inl less ↦ absurd (none p less (inl refl))
            | inr more ↦ (let k = h.0 in let e : p ≡ final =
                omega (arith, k, more, two) in ap (λ (q : ℕ). q ∷ []) e)
          ]
          go (p ∷ q ∷ ps) some d h none = elim (cases_lt p final) [
            | inl less ↦ absurd (none p less (inl refl))
            | inr more ↦ elim (cases_lt q final) [
              | inl less ↦ absurd (none q less (inr (inl refl)))
              | inr over ↦ (let k = h.0 in let m =
                  h.1.0 in absurd (d.0.0 (omega (arith, k, m, more, over, two))))
            ]
          ]

      is_last : alpha ≡ final ∷ []
      is_last = last_alone alpha o small

      zero_small : 0 < final
      zero_small = omega (arith, two)

      zero_known : 0 < n
      zero_known = omega (arith, two)

      zero_in : IsIn 0 beta
      zero_in = elim (in_or_not 0 beta) [
        | inl i ↦ i
        | inr not ↦ absurd
            (moved_in_one 0 zero_known (small 0 zero_small) not)
      ]

      abbrev stepped : Configuration L V
      stepped = step t P c final

      sure_last : Sure t n P inputs mine stepped b
      sure_last =
          sure_less t n P inputs mine stepped b (grants b (final ∷ []))
          (grants_more b (final ∷ []))
          (subst (λ (order : List ℕ). Sure t n P inputs mine (after t P c order)
          (grants b order)) is_last sure_alpha)

      last_registers : (i : ℕ) → stepped.registers i ≡ (after t P c beta).registers i
      last_registers i = subst (λ (order : List ℕ).
          (after t P c order).registers i ≡ (after t P c beta).registers i) is_last
          (same_registers t n P known two inputs endless s K alpha beta o u i)

      last_objects : (i : ℕ) → stepped.objects i ≡ (after t P c beta).objects i
      last_objects i = subst (λ (order : List ℕ).
          (after t P c order).objects i ≡ (after t P c beta).objects i) is_last
          (same_objects t n P known two inputs endless s K alpha beta o u same i)

      abbrev fresh_last : Configuration L V
      fresh_last = after_crash P inputs stepped final

      abbrev mirror_last : Configuration L V
      mirror_last = after_crash P inputs (after t P c beta) final

      mirror_last_sure : Sure t n P inputs theirs mirror_last (spend (grants b beta) final)
      mirror_last_sure =
          sure_crash t n P inputs theirs (after t P c beta) (grants b beta) final final_known
          (let g = grants_two b beta 0 final zero_in zero_small in omega (arith, g)) sure_beta

      last_shadow : Shadow t n P inputs fresh_last b final
      last_shadow = record {
        other = mirror_last;
        budget = spend (grants b beta) final;
        value = theirs;
        sure = mirror_last_sure;
        registers = last_registers;
        objects = last_objects;
        locals = λ q k l.
            (let e : q ≡ final = omega (arith, k, l, two) in
            ap fresh_last.locals e ∙ (put-same stepped.locals final (P.start final (inputs final))
            ∙ (sym (put-same (after t P c beta).locals final (P.start final (inputs final)))
            ∙ ap mirror_last.locals (sym e))));
        more = λ q k l.
            (let g = grants_two b beta 0 q zero_in (omega (arith, k, zero_small)) in
            let h = spend_less (grants b beta) final q in
            omega (arith, g, h));
      }

      abbrev twice : List Event
      twice = Step final ∷ Crash final ∷ []

      twice_known : IsExecution n twice
      twice_known = (final_known, (final_known, tt))

      not_sure_last : (z : Bool) → Sure t n P inputs z fresh_last b → ⊥
      unfolding last_shadow
      not_sure_last z h =
          let r = runs_after t n P known two inputs endless s K twice twice_known final
          final_known in
          let first : z ≡ theirs = sure_clash t n P inputs z theirs r.0 final fresh_last
          mirror_last b (spend (grants b beta) final) final_known r.1
          (shadow_alike t n P inputs fresh_last b final final (omega arith) final_known
          last_shadow)
          h mirror_last_sure in
          let apart : 0 ≢ final = λ e. absurd (omega (arith, zero_small, e)) in
          let a : Alike 0 stepped fresh_last =
          record {
            local = sym (put-other stepped.locals final (P.start final (inputs final)) 0
                apart);
            registers = λ k. refl;
            objects = λ k. refl;
          } in
          let k = runs_order t n P known two inputs endless s K (final ∷ []) (
            final_known,
            tt,
          ) 0 zero_known in
          let second : mine ≡ z = sure_clash t n P inputs mine z k.0 0 stepped fresh_last b b
          zero_known k.1 a sure_last h in
          values_apart team (second ∙ first)

      above_level_last : s.level ≤ final → Shadow t n P inputs c b s.level → ⊥
      unfolding last_shadow
      above_level_last l sh =
          let a = shadow_alike t n P inputs c b s.level final l final_known sh in
          let moved = alike_stepped t P final c sh.other a in
          let next : Configuration L V = step t P sh.other final in
          let next_sure = sure_step t n P inputs sh.value sh.other sh.budget final final_known
          (sym (alike_decided t P final c sh.other a) ∙ K.undecided final final_known) sh.sure in
          let k = runs_order t n P known two inputs endless s K (final ∷ []) (
            final_known,
            tt,
          ) final final_known in
          let first : mine ≡ sh.value = sure_clash t n P inputs mine sh.value k.0 final stepped
          next b (grant sh.budget final) final_known k.1 moved sure_last next_sure in
          let some : 1 ≤ grant sh.budget final final =
          (let m = sh.more final l final_known in let g =
          grant_more sh.budget final final in omega (arith, m, g)) in
          let r = runs_after t n P known two inputs endless s K twice twice_known final
          final_known in
          let crashed_sure = sure_crash t n P inputs sh.value next (grant sh.budget final) final
          final_known some next_sure in
          let second : r.0 ≡ sh.value = sure_alone t n P inputs sh.value r.0 final
          (after_crash P inputs next final) (spend (grant sh.budget final) final) final_known
          (runs_alike t n P inputs r.0 final fresh_last (after_crash P inputs next final)
          (crashed_alike t n P known two inputs endless s K final stepped next moved.registers
          moved.objects) r.1) crashed_sure in
          let third : r.0 ≡ theirs = sure_alone t n P inputs theirs r.0 final mirror_last
          (spend (grants b beta) final) final_known
          (runs_alike t n P inputs r.0 final fresh_last mirror_last
          (shadow_alike t n P inputs fresh_last b final final (omega arith) final_known
          last_shadow) r.1) mirror_last_sure in
          values_apart team (first ∙ (sym second ∙ third))

      twice_never : (i : ℕ) → i < final → NeverCrashes i twice
      twice_never i l = (
        λ e. absurd (cc e),
        (λ e. absurd (let f : final ≡ i = cc e in omega (arith, l, f)), tt),
      )

      pub led_last : Result t n P known two inputs endless s
      unfolding free_to
      led_last = elim (cases_lt final s.level) [
        | inl l ↦
            (let sh : Shadow t n P inputs (config t n P inputs (s.events ++ twice)) b final =
            subst (λ (d : Configuration L V).
            Shadow t n P inputs d b final) (sym (config_more t n P inputs s.events twice))
            last_shadow in
            elim (onward (free_to t n P inputs s twice final twice_known sh) final final_known
            (free_moves t n P inputs s twice final twice_known sh l twice_never)) [
              | inl sure ↦ absurd (not_sure_last sure.0 (subst (λ (d : Configuration L V).
                  Sure t n P inputs sure.0 d b) (config_more t n P inputs s.events twice) sure.1))
              | inr found ↦ inr found
            ])
        | inr k ↦ absurd (above_level_last k (s.shadow (omega (arith, k, final_known))))
      ]
