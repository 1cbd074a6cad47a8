-- The search ends by a lexicographic descent over the processes: each of its moves is one of some
-- process, which loses a crash, or takes a step in a life that ends; the processes with smaller
-- numbers keep what is left to them.
use Rattle.std.proofs.Common.{◌≡◌, ℕ, zero, suc, ◌+◌, ◌-◌, ◌<◌, ◌≤◌, ◌⊎◌, inl, inr, List, [], ◌∷◌}
use Rattle.std.proofs.Common.{◌++◌, refl, sym, ap, ◌∙◌, subst, arith, Bool, false, cond, nat_lt}
use Rattle.std.proofs.Common.{None, Some, replicate}
use Rattle.std.proofs.lemmas.Bool.{cases_eq, cases_lt, le-ltb}
use Rattle.cn_table.specs.TypeTable.{TypeTable}
use Rattle.cn_consensus.specs.Protocol.{Protocol}
use Rattle.cn_consensus.specs.Configuration.{Configuration, after, decision, step}
use Rattle.cn_consensus.proofs.Alike.{put-other, put-same}
use Rattle.cn_crashes.specs.Execution.{Event, IsExecution, NeverCrashes, after_execution}
use Rattle.cn_crashes.specs.Execution.Event.{Step, Crash}
use Rattle.cn_crashes.specs.RecoverableWaitFreedom.{EndsFor}
use Rattle.cn_crashes.specs.RecoverableWaitFreedom.EndsFor.{Ending}
use Rattle.cn_crashes.proofs.Executions.{after_execution-append, execution-append, never-append}
use Rattle.cn_crashes.proofs.SearchStates.{Shadow, State, below_is, below_level, below_none, config}
use Rattle.cn_crashes.proofs.SearchStates.{config_more, crash_to, free_to, lifted, lifted_same}
use Rattle.cn_crashes.proofs.SearchStates.{step_to}
use Rattle.cn_crashes.proofs.SureValues.{Runs, grant, run_steps, runs_from, spend}

module _ {L V : Type 0} (t : ℕ → TypeTable) (n : ℕ) (P : Protocol L V) (inputs : ℕ → Bool) where
  -- how many crashes are left to a process, with one that no budget pays if it is below the level
  abbrev pub left : ℕ → State t n P inputs → ℕ
  left p s = s.budget p + below_level p s.level

  -- the state comes after this configuration, with no crash of p between
  pub record Later (p : ℕ) (c : Configuration L V) (s : State t n P inputs) : Type 0 where
    pub events : List Event
    pub execution : IsExecution n events
    pub never : NeverCrashes p events
    pub reached : config t n P inputs s.events ≡ after_execution t P inputs c events

  -- the same, and the last event is a step of p that has not decided
  pub record Child (p : ℕ) (c : Configuration L V) (s : State t n P inputs) : Type 0 where
    pub events : List Event
    pub execution : IsExecution n events
    pub never : NeverCrashes p events
    pub undecided : decision P (after_execution t P inputs c events) p ≡ None
    pub reached : config t n P inputs s.events ≡ step t P (after_execution t P inputs c events) p

  later_on : (p : ℕ) (c : Configuration L V) (s r : State t n P inputs) → Later p c s
      → Later p (config t n P inputs s.events) r → Later p c r
  later_on p c s r a b = record {
    events = a.events ++ b.events;
    execution = execution-append n a.events b.events a.execution b.execution;
    never = never-append p a.events b.events a.never b.never;
    reached = b.reached ∙ (ap (λ (d : Configuration L V).
        after_execution t P inputs d b.events) a.reached
        ∙ sym (after_execution-append t P inputs c a.events b.events));
  }

  child_on : (p : ℕ) (c : Configuration L V) (s r : State t n P inputs) → Later p c s
      → Child p (config t n P inputs s.events) r → Child p c r
  child_on p c s r a b =
      let e : after_execution t P inputs (config t n P inputs s.events) b.events ≡ after_execution
      t P inputs c (a.events ++ b.events) =
      ap (λ (d : Configuration L V). after_execution t P inputs d b.events) a.reached
      ∙ sym (after_execution-append t P inputs c a.events b.events) in
      record {
        events = a.events ++ b.events;
        execution = execution-append n a.events b.events a.execution b.execution;
        never = never-append p a.events b.events a.never b.never;
        undecided = sym (ap (λ (d : Configuration L V). decision P d p) e) ∙ b.undecided;
        reached = b.reached ∙ ap (λ (d : Configuration L V). step t P d p) e;
      }

  -- process k moves
  pub record Moves (k : ℕ) (s r : State t n P inputs) : Type 0 where
    pub own : (left k r < left k s) ⊎ ((left k r ≤ left k s) × Child k
        (config t n P inputs s.events) r)
    pub before : (i : ℕ) → i < k → (left i r ≤ left i s) × Later i (config t n P inputs s.events) r

  -- moves of processes from i on end
  pub data Ends (i : ℕ) : State t n P inputs → Type 0 where
    End : {s : State t n P inputs} → ((k : ℕ) → i ≤ k → k < n → (r : State t n P inputs)
        → Moves k s r → Ends i r) → Ends i s

  inner : (i bound : ℕ) (c : Configuration L V)
      → ((r : State t n P inputs) → left i r < bound → Ends i r)
      → ((r : State t n P inputs) → Child i c r → left i r ≤ bound → Ends i r)
      → (s : State t n P inputs) → Later i c s → left i s ≤ bound → Ends (suc i) s → Ends i s
  inner i bound c smaller child s a few (End next) =
      End {s = s} (λ k l u r mv. elim (cases_eq k i) [
        | inl e ↦ elim (subst (λ (j : ℕ). (left j r < left j s) ⊎
            ((left j r ≤ left j s) × Child j (config t n P inputs s.events) r)) e mv.own) [
              | inl less ↦ smaller r (omega (arith, less, few))
              | inr h ↦ child r (child_on i c s r a h.1) (let f = h.0 in omega (arith, f, few))
            ]
        | inr d ↦
            (let f = mv.before i (omega (arith, l, d)) in
            let g = f.0 in
            inner i bound c smaller child r (later_on i c s r a f.1) (omega (
              arith,
              g,
              few,
            )) (next k (omega (arith, l, d)) u r mv))
      ])

  middle : (i bound : ℕ) → ((r : State t n P inputs) → left i r < bound → Ends i r)
      → ((s : State t n P inputs) → Ends (suc i) s)
      → (c : Configuration L V) → EndsFor t n P inputs i c → (s : State t n P inputs) → Later i c s
      → left i s ≤ bound → Ends i s
  middle i bound smaller below c (Ending next) s a few =
      inner i bound c smaller (λ r ch small.
      middle i bound smaller below (step t P (after_execution t P inputs c ch.events) i)
      (next ch.events ch.execution ch.never ch.undecided) r
      (record { events = []; execution = tt; never = tt; reached = ch.reached }) small) s a few
      (below s)

  module _ (endless : (es : List Event) → IsExecution n es → (p : ℕ) → p < n
      → EndsFor t n P inputs p (config t n P inputs es)) where
    outer : (i fuel : ℕ) → i < n → ((s : State t n P inputs) → Ends (suc i) s)
        → (s : State t n P inputs) → left i s < fuel → Ends i s
    outer i zero l below s few = absurd (omega (arith, few))
    outer i (suc fuel) l below s few =
        middle i (left i s) (λ r less. outer i fuel l below r (omega (arith, less, few))) below
        (config t n P inputs s.events) (endless s.events s.execution i l) s
        (record { events = []; execution = tt; never = tt; reached = refl }) (omega arith)

    from : (d i : ℕ) → n ≤ i + d → (s : State t n P inputs) → Ends i s
    from zero i l s = End (λ k u v r mv. absurd (omega (arith, l, u, v)))
    from (suc d) i l s = elim (cases_lt i n) [
      | inl less ↦ outer i (suc (left i s)) less (λ r.
          from d (suc i) (omega (arith, l)) r) s (omega arith)
      | inr past ↦ End (λ k u v r mv. absurd (omega (arith, past, u, v)))
    ]

    pub ends : (s : State t n P inputs) → Ends 0 s
    ends s = from n 0 (omega arith) s

    -- after each execution each process decides if it runs alone
    pub runs_at : (es : List Event) → IsExecution n es → (p : ℕ) → p < n
        → (z : Bool) × Runs t n P inputs p z (config t n P inputs es)
    runs_at es h p l = runs_from t n P inputs p (config t n P inputs es) (endless es h p l)

    pub finishes_at : (es : List Event) → IsExecution n es → (p : ℕ) → p < n
        → (k : ℕ) × (x : Bool) × (decision P (after t P (config t n P inputs es) (replicate k p)) p
        ≡ Some x)
    finishes_at es h p l =
        let r = runs_at es h p l in
        let k = run_steps t n P inputs p r.0 (config t n P inputs es) r.1 in
        (k.0, r.0, k.1)

  -- ---- the moves of the search

  pub step_moves : (s : State t n P inputs) (p : ℕ) (l : p < n)
      (none : decision P (config t n P inputs s.events) p ≡ None)
      → Moves p s (step_to t n P inputs s p l none)
  unfolding step_to
  step_moves s p l none = record {
    own = inr (
      (let e = budget_same p (omega arith) in omega (arith, e)),
      record {
        events = [];
        execution = tt;
        never = tt;
        undecided = none;
        reached =
            config_more t n P inputs s.events (Step p ∷ []);
      },
    );
    before = λ i u. (
      (let e = budget_same i (omega (arith, u)) in omega (arith, e)),
      record {
        events = Step p ∷ [];
        execution = (l, tt);
        never =
            (λ e. absurd (cc e), tt);
        reached = config_more t n P inputs s.events (Step p ∷ []);
      },
    );
  }
    where
      budget_same : (i : ℕ) → i ≤ p → grant s.budget p i + below_level i (lifted n p s.level) ≡
          s.budget i + below_level i s.level
      budget_same i u =
          let e : nat_lt p i ≡ false = le-ltb p i u in
          let f : grant s.budget p i ≡ s.budget i + 0 =
          ap (λ (b : Bool). s.budget i + cond b 2 0) e in
          omega (arith, f, lifted_same n p i s.level u l)

  pub crash_moves : (s : State t n P inputs) (p : ℕ) (l : p < n) (some : 1 ≤ s.budget p)
      → Moves p s (crash_to t n P inputs s p l some)
  unfolding crash_to
  crash_moves s p l some = record {
    own = inl
        (let f : spend s.budget p p ≡ s.budget p - 1 = put-same s.budget p (s.budget p - 1) in
        let g = lifted_same n p p s.level (omega arith) l in
        omega (arith, f, g, some));
    before = λ i u. (
      (let f : spend s.budget p i ≡ s.budget i =
          put-other s.budget p (s.budget p - 1) i (λ e. absurd (omega (arith, u, e))) in
          let g = lifted_same n p i s.level (omega (arith, u)) l in
          omega (arith, f, g)),
      record {
        events = Crash p ∷ [];
        execution = (l, tt);
        never = (λ e. absurd (let f : p ≡ i = cc e in omega (arith, u, f)), tt);
        reached = config_more t n P inputs s.events (Crash p ∷ []);
      },
    );
  }

  pub free_moves : (s : State t n P inputs) (us : List Event) (j : ℕ) (k : IsExecution n us)
      (sh : Shadow t n P inputs (config t n P inputs (s.events ++ us)) s.budget j) → j < s.level
      → ((i : ℕ) → i < j → NeverCrashes i us) → Moves j s (free_to t n P inputs s us j k sh)
  unfolding free_to
  free_moves s us j k sh l never = record {
    own = inl (let a = below_is j s.level l in let b =
        below_none j j (omega arith) in omega (arith, a, b));
    before = λ i u. (
      (let a = below_is i s.level (omega (arith, u, l)) in let b =
          below_is i j u in omega (arith, a, b)),
      record {
        events = us;
        execution = k;
        never = never i u;
        reached =
            config_more t n P inputs s.events us;
      },
    );
  }
