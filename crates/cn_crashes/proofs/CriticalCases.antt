-- A critical state of the search gives a recording witness, or the search goes on from another
-- state.
use Rattle.std.proofs.Common.{◌-◌, ◌≡◌, ℕ, ◌<◌, ◌≤◌, ◌⊎◌, inl, inr, List, length, sym, ◌∙◌, subst}
use Rattle.std.proofs.Common.{arith, Bool, Some}
use Rattle.std.proofs.lemmas.Bool.{cases_order}
use Rattle.cn_table.specs.TypeTable.{TypeTable}
use Rattle.cn_choice.specs.RawChoices.{RawChoice}
use Rattle.cn_choice.specs.Renumbering.{other}
use Rattle.cn_choice.specs.declared.team.Team.TheVariants.{A, B}
use Rattle.cn_choice.proofs.ListLemmas.Members.{IsIn}
use Rattle.cn_consensus.specs.Protocol.{IsProtocolOf, Protocol}
use Rattle.cn_consensus.proofs.Counting.{first_or_all}
use Rattle.cn_consensus.proofs.Witnesses.{team_by}
use Rattle.cn_crashes.specs.Execution.{Event, IsExecution}
use Rattle.cn_crashes.specs.RecoverableWaitFreedom.{EndsFor}
use Rattle.cn_crashes.proofs.LexicographicDescent.{Moves}
use Rattle.cn_crashes.proofs.RoleRuns.{in_or_not}
use Rattle.cn_crashes.proofs.SureValues.{Budget, grants_two}
use Rattle.cn_crashes.proofs.SearchStates.{State, config}
use Rattle.cn_crashes.proofs.RecordingDecision.{Meet, WayBack, records_or_not}
use Rattle.cn_crashes.proofs.CriticalStates.{CriticalState, Result, ch, mark_is, place, raw}
use Rattle.cn_crashes.proofs.SharedStates.{crash_after_both, led_last}
use Rattle.cn_crashes.proofs.WaysBack.{led_back}

module _ {L V : Type 0} (t : ℕ → TypeTable) (n : ℕ) (P : Protocol L V) (known : IsProtocolOf t n P)
    (two : 2 ≤ n) (inputs : ℕ → Bool)
    (endless : (es : List Event) → IsExecution n es → (p : ℕ) → p < n
    → EndsFor t n P inputs p (config t n P inputs es))
    (s : State t n P inputs) (K : CriticalState t n P known two inputs endless s)
    (onward : (r : State t n P inputs) (j : ℕ) → j < n → Moves t n P inputs j s r
    → Result t n P known two inputs endless r) where
  abbrev b : Budget
  b = s.budget

  abbrev chosen : RawChoice
  chosen = ch t n P known two inputs endless s K

  abbrev at : ℕ
  at = place t n P known two inputs endless s K

  abbrev final : ℕ
  final = n - 1

  small_or_none : (order : List ℕ) → ((p : ℕ) → p < final → IsIn p order → ⊥)
      ⊎ ((p : ℕ) × (p < final) × IsIn p order)
  small_or_none order = first_or_all final (λ p. IsIn p order → ⊥)
      ((p : ℕ) × (p < final) × IsIn p order)
      (λ p l. elim (in_or_not p order) [ inl i ↦ inr (p, l, i) | inr not ↦ inl not ])

  met : Meet (t at) chosen → Result t n P known two inputs endless s
  met m = elim (small_or_none m.alpha) [
    | inl none_a ↦ led_last t n P known two inputs endless s K onward A m.alpha m.beta
        m.alpha_order m.beta_order m.alpha_in_a m.beta_in_b m.same none_a
    | inr a ↦ elim (small_or_none m.beta) [
      | inl none_b ↦ led_last t n P known two inputs endless s K onward B m.beta m.alpha
          m.beta_order m.alpha_order m.beta_in_b m.alpha_in_a (sym m.same) none_b
      | inr e ↦
          (let g = grants_two b m.alpha a.0 final a.2 a.1 in
          let h = grants_two b m.beta e.0 final e.2 e.1 in
          absurd (crash_after_both t n P known two inputs endless s K onward A m.alpha m.beta
          m.alpha_order m.beta_order m.alpha_in_a m.beta_in_b m.same (omega (arith, g))
          (omega (arith, h))))
    ]
  ]

  came_back : WayBack (t at) chosen → Result t n P known two inputs endless s
  came_back y =
      let many : length chosen.operations ≡ n =
      (raw t n P known two inputs endless s K).one_operation_each in
      let i = y.two.0 in
      let j = y.two.1 in
      let li : i < n = subst (λ (m : ℕ). i < m) many y.two.3 in
      let lj : j < n = subst (λ (m : ℕ). j < m) many y.two.4 in
      let mark_i : team_by (K.value i) ≡ other y.team =
      same (sym (mark_is t n P known two inputs endless s K i li) ∙ y.two.5) in
      let mark_j : team_by (K.value j) ≡ other y.team =
      same (sym (mark_is t n P known two inputs endless s K j lj) ∙ y.two.6) in
      elim (cases_order i j) [
        | inl e ↦ absurd (y.two.2 e)
        | inr apart ↦ elim apart [
          | inl less ↦ led_back t n P known two inputs endless s K onward y.team y.order
              y.is_order y.begins y.back i j less lj mark_i mark_j
          | inr more ↦ led_back t n P known two inputs endless s K onward y.team y.order
              y.is_order y.begins y.back j i more li mark_j mark_i
        ]
      ]
    where
      same : {T : Type 0} {y z : T} → Some y ≡ Some z → y ≡ z
      same e = cc e

  pub critical_result : Result t n P known two inputs endless s
  critical_result = elim (records_or_not (t at) chosen) [
    | inl r ↦ inr (at, (chosen, raw t n P known two inputs endless s K, r))
    | inr fails ↦ elim fails [ inl m ↦ met m | inr y ↦ came_back y ]
  ]
