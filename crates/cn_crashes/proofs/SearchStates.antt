-- The states of the search for a recording witness: an execution with budgets for crashes, and how
-- the search moves on.
use Rattle.std.proofs.Common.{◌≡◌, ℕ, ◌+◌, ◌<◌, ◌≤◌, inl, inr, List, [], ◌∷◌, ◌++◌, refl, sym, ap}
use Rattle.std.proofs.Common.{◌∙◌, subst, arith, Bool, true, false, cond, nat_lt, None}
use Rattle.std.proofs.lemmas.Bool.{cases_eq, lt-ltb, le-ltb, ltb-true, ltb-false}
use Rattle.cn_table.specs.TypeTable.{TypeTable}
use Rattle.cn_consensus.specs.Protocol.{Protocol}
use Rattle.cn_consensus.specs.Configuration.{Configuration, decision, initial, put, step}
use Rattle.cn_consensus.proofs.Alike.{Alike, alike_decided, alike_stepped, others_stepped}
use Rattle.cn_consensus.proofs.Alike.{put-other, put-same}
use Rattle.cn_crashes.specs.Execution.{Event, IsExecution, after_execution, after_crash}
use Rattle.cn_crashes.specs.Execution.Event.{Step, Crash}
use Rattle.cn_crashes.proofs.Executions.{after_execution-append, execution-append}
use Rattle.cn_crashes.proofs.SureValues.{Budget, Sure, grant, grant_up, spend, spend_up, sure_crash}
use Rattle.cn_crashes.proofs.SureValues.{sure_step}

-- ---- levels

pub below_level : ℕ → ℕ → ℕ
below_level i level = cond (nat_lt i level) 1 0

pub below_is : (i level : ℕ) → i < level → below_level i level ≡ 1
unfolding below_level
below_is i level l = let e : nat_lt i level ≡ true = lt-ltb i level l in rw e refl

pub below_none : (i level : ℕ) → level ≤ i → below_level i level ≡ 0
unfolding below_level
below_none i level l = let e : nat_lt i level ≡ false = le-ltb i level l in rw e refl

-- a step of a process below the level lifts it
abbrev pub lifted : ℕ → ℕ → ℕ → ℕ
lifted n p level = cond (nat_lt p level) n level

pub lifted_same : (n p i level : ℕ) → i ≤ p → p < n
    → below_level i (lifted n p level) ≡ below_level i level
lifted_same n p i level l u = by_test (nat_lt p level) refl
  where
    by_test : (b : Bool) → nat_lt p level ≡ b → below_level i (cond b n level) ≡ below_level i level
    by_test true e = below_is i n (omega (arith, l, u))
        ∙ sym (below_is i level (let k = ltb-true p level e in omega (arith, l, k)))
    by_test false e = refl

module _ {L V : Type 0} (t : ℕ → TypeTable) (n : ℕ) (P : Protocol L V) (inputs : ℕ → Bool) where
  abbrev pub config : List Event → Configuration L V
  config es = after_execution t P inputs (initial P inputs) es

  -- processes from j on see what they see in another configuration, which is sure of x and has a
  -- crash more for each
  pub record Shadow (c : Configuration L V) (b : Budget) (j : ℕ) : Type 0 where
    pub other : Configuration L V
    pub budget : Budget
    pub value : Bool
    pub sure : Sure t n P inputs value other budget
    pub registers : (i : ℕ) → c.registers i ≡ other.registers i
    pub objects : (i : ℕ) → c.objects i ≡ other.objects i
    pub locals : (p : ℕ) → j ≤ p → p < n → c.locals p ≡ other.locals p
    pub more : (p : ℕ) → j ≤ p → p < n → b p + 1 ≤ budget p

  pub shadow_alike : (c : Configuration L V) (b : Budget) (j p : ℕ) → j ≤ p → p < n
      → (s : Shadow c b j) → Alike p c s.other
  shadow_alike c b j p l u s = record {
    local = s.locals p l u;
    registers = s.registers;
    objects =
        s.objects;
  }

  pub shadow_step : (c : Configuration L V) (b : Budget) (j p : ℕ) → j ≤ p → p < n
      → decision P c p ≡ None → Shadow c b j → Shadow (step t P c p) (grant b p) j
  shadow_step c b j p l u none s =
      let a = shadow_alike c b j p l u s in
      let moved = alike_stepped t P p c s.other a in
      record {
        other = step t P s.other p;
        budget = grant s.budget p;
        value = s.value;
        sure = sure_step t n P inputs s.value s.other s.budget p u
            (sym (alike_decided t P p c s.other a) ∙ none) s.sure;
        registers = moved.registers;
        objects = moved.objects;
        locals = λ q k v. elim (cases_eq q p) [
          | inl e ↦ ap (step t P c p).locals e
              ∙ (moved.local ∙ ap (step t P s.other p).locals (sym e))
          | inr d ↦ others_stepped t P p q c d
              ∙ (s.locals q k v ∙ sym (others_stepped t P p q s.other d))
        ];
        more = λ q k v. grant_up b s.budget p q 1 (s.more q k v);
      }

  pub shadow_crash : (c : Configuration L V) (b : Budget) (j p : ℕ) → j ≤ p → p < n → 1 ≤ b p
      → Shadow c b j → Shadow (after_crash P inputs c p) (spend b p) j
  shadow_crash c b j p l u some s = record {
    other = after_crash P inputs s.other p;
    budget = spend s.budget p;
    value = s.value;
    sure = sure_crash t n P inputs s.value s.other s.budget p u (let m =
        s.more p l u in omega (arith, m)) s.sure;
    registers = s.registers;
    objects = s.objects;
    locals = λ q k v. elim (cases_eq q p) [
      | inl e ↦ ap (put c.locals p (P.start p (inputs p))) e
          ∙ (put-same c.locals p (P.start p (inputs p))
          ∙ (sym (put-same s.other.locals p (P.start p (inputs p)))
          ∙ ap (put s.other.locals p (P.start p (inputs p))) (sym e)))
      | inr d ↦ put-other c.locals p (P.start p (inputs p)) q d
          ∙ (s.locals q k v ∙ sym (put-other s.other.locals p (P.start p (inputs p)) q d))
    ];
    more = λ q k v. spend_up b s.budget p q 1 (s.more q k v) some;
  }

  pub record State : Type 0 where
    pub events : List Event
    pub execution : IsExecution n events
    pub budget : Budget
    pub level : ℕ
    pub shadow : level < n → Shadow (config events) budget level

  pub config_more : (es us : List Event) → config (es ++ us) ≡ after_execution t P inputs
      (config es) us
  config_more es us = after_execution-append t P inputs (initial P inputs) es us

  unfoldable pub step_to : (s : State) (p : ℕ) → p < n → decision P (config s.events) p ≡ None
      → State
  step_to s p l none = record {
    events = s.events ++ Step p ∷ [];
    execution = execution-append n s.events (Step p ∷ []) s.execution (l, tt);
    budget = grant s.budget p;
    level = lifted n p s.level;
    shadow = by_test (nat_lt p s.level) refl;
  }
    where
      by_test : (b : Bool) → nat_lt p s.level ≡ b → cond b n s.level < n
          → Shadow (config (s.events ++ Step p ∷ [])) (grant s.budget p) (cond b n s.level)
      by_test true e u = absurd (omega (arith, u))
      by_test false e u =
          subst (λ (c : Configuration L V). Shadow c (grant s.budget p) s.level)
          (sym (config_more s.events (Step p ∷ [])))
          (shadow_step (config s.events) s.budget s.level p (ltb-false p s.level e) l none
          (s.shadow u))

  unfoldable pub crash_to : (s : State) (p : ℕ) → p < n → 1 ≤ s.budget p → State
  crash_to s p l some = record {
    events = s.events ++ Crash p ∷ [];
    execution = execution-append n s.events (Crash p ∷ []) s.execution (l, tt);
    budget = spend s.budget p;
    level = lifted n p s.level;
    shadow = by_test (nat_lt p s.level) refl;
  }
    where
      by_test : (b : Bool) → nat_lt p s.level ≡ b → cond b n s.level < n
          → Shadow (config (s.events ++ Crash p ∷ [])) (spend s.budget p) (cond b n s.level)
      by_test true e u = absurd (omega (arith, u))
      by_test false e u =
          subst (λ (c : Configuration L V). Shadow c (spend s.budget p) s.level)
          (sym (config_more s.events (Crash p ∷ [])))
          (shadow_crash (config s.events) s.budget s.level p (ltb-false p s.level e) l some
          (s.shadow u))

  -- events that no budget pays, by which the level falls
  unfoldable pub free_to : (s : State) (us : List Event) (j : ℕ) → IsExecution n us
      → Shadow (config (s.events ++ us)) s.budget j → State
  free_to s us j k sh = record {
    events = s.events ++ us;
    execution = execution-append n s.events us s.execution k;
    budget = s.budget;
    level = j;
    shadow = λ u. sh;
  }
