-- A critical state of the search: the choice of its critical configuration, and what is sure after
-- orders of this choice.
use Rattle.std.proofs.Common.{◌≡◌, ℕ, ◌<◌, ◌≤◌, ◌⊎◌, inl, inr, List, [], ◌∷◌, ◌++◌, length, sym, ap}
use Rattle.std.proofs.Common.{◌∙◌, subst, Bool, true, false, Some, None, true≢false}
use Rattle.std.specs.Prelude.{slice_get, slice_index}
use Rattle.std.proofs.lemmas.Bool.{cases_eq}
use Rattle.cn_table.specs.Run.{state_after}
use Rattle.cn_table.specs.TypeTable.{TypeTable}
use Rattle.cn_choice.specs.Orders.{IsOrder}
use Rattle.cn_choice.specs.OutcomeSets.{BeginsIn, operations_of}
use Rattle.cn_choice.specs.RawChoices.{IsRawChoice, RawChoice}
use Rattle.cn_choice.specs.Renumbering.{other}
use Rattle.cn_choice.specs.declared.team.Team.{Team}
use Rattle.cn_choice.specs.declared.team.Team.TheVariants.{A, B}
use Rattle.cn_choice.proofs.ListLemmas.Arrangements.{Differ}
use Rattle.cn_choice.proofs.OrderLemmas.AllOrders.{differ_from}
use Rattle.cn_choice.proofs.ListLemmas.Members.{IsIn}
use Rattle.cn_consensus.specs.Protocol.{IsProtocolOf, Protocol}
use Rattle.cn_consensus.specs.Configuration.{Configuration, after, decision, step}
use Rattle.cn_consensus.specs.Consensus.{IsSchedule}
use Rattle.cn_consensus.specs.Valence.{DecidesAlone, IsCritical}
use Rattle.cn_consensus.proofs.Alike.{Alike, alike_decided, alike_stepped, put-same}
use Rattle.cn_consensus.proofs.OneObject.{Ran}
use Rattle.cn_consensus.proofs.Witnesses.{choice, is_raw_choice, mark_at, object, order_schedule}
use Rattle.cn_consensus.proofs.Witnesses.{ran_order, team_by, valence_a, valence_b}
use Rattle.cn_recover.specs.Recording.{IsRecording}
use Rattle.cn_crashes.specs.Execution.{Event, IsExecution, after_execution, after_crash}
use Rattle.cn_crashes.specs.RecoverableWaitFreedom.{EndsFor}
use Rattle.cn_crashes.proofs.CrashFreeExecutions.{after_steps, steps, steps_execution}
use Rattle.cn_crashes.proofs.Executions.{execution-append}
use Rattle.cn_crashes.proofs.LexicographicDescent.{finishes_at, runs_at}
use Rattle.cn_crashes.proofs.SureValues.{Budget, Runs, Sure, grant, grants, sure_clash, sure_order}
use Rattle.cn_crashes.proofs.SureValues.{sure_step, sure_valent}
use Rattle.cn_crashes.proofs.SearchStates.{Shadow, State, config, config_more, shadow_alike}

-- the value of a team
abbrev pub value_of : Team → Bool
value_of A = false
value_of B = true

pub value_is : (y : Bool) (team : Team) → team_by y ≡ team → y ≡ value_of team
value_is y A e = valence_a y e
value_is y B e = valence_b y e

pub values_apart : (team : Team) → value_of team ≡ value_of (other team) → ⊥
values_apart A e = true≢false (sym e)
values_apart B e = true≢false e

module _ {L V : Type 0} (t : ℕ → TypeTable) (n : ℕ) (P : Protocol L V) (known : IsProtocolOf t n P)
    (two : 2 ≤ n) (inputs : ℕ → Bool)
    (endless : (es : List Event) → IsExecution n es → (p : ℕ) → p < n
    → EndsFor t n P inputs p (config t n P inputs es)) where
  -- one of the types is n-recording
  abbrev pub Found : Type 0
  Found = (i : ℕ) × IsRecording (t i) n

  -- the state is sure of a value, or a recording type is found
  abbrev pub Result : State t n P inputs → Type 0
  Result s = ((x : Bool) × Sure t n P inputs x (config t n P inputs s.events) s.budget) ⊎ Found

  -- a critical state: nobody has decided, each step is sure of a value, and both values occur
  pub record CriticalState (s : State t n P inputs) : Type 0 where
    pub undecided : (p : ℕ) → p < n → decision P (config t n P inputs s.events) p ≡ None
    pub value : ℕ → Bool
    pub sure_at : (p : ℕ) → p < n → Sure t n P inputs (value p)
        (step t P (config t n P inputs s.events) p) (grant s.budget p)
    pub states_known : (i : ℕ) → (config t n P inputs s.events).objects i < length (t i).states
    pub low : ℕ
    pub low_known : low < n
    pub low_is : value low ≡ false
    pub high : ℕ
    pub high_known : high < n
    pub high_is : value high ≡ true

  module _ (s : State t n P inputs) (K : CriticalState s) where
    abbrev c : Configuration L V
    c = config t n P inputs s.events

    abbrev b : Budget
    b = s.budget

    steps_reach : (order : List ℕ) → config t n P inputs (s.events ++ steps order) ≡ after t P c
        order
    steps_reach order = config_more t n P inputs s.events (steps order)
        ∙ after_steps t P inputs c order

    pub critical : IsCritical t n P c
    critical = record {
      valence = K.value;
      valent = λ p l. sure_valent t n P inputs (K.value p) (step t P c p) (grant b p)
          (K.sure_at p l);
      low = K.low;
      low_known = K.low_known;
      low_valence = K.low_is;
      high = K.high;
      high_known = K.high_known;
      high_valence = K.high_is;
      finishes = λ order h. subst (DecidesAlone t n P) (steps_reach order)
          (finishes_at t n P inputs endless (s.events ++ steps order)
          (execution-append n s.events (steps order) s.execution (steps_execution n order h)));
      states_known = K.states_known;
    }

    abbrev pub place : ℕ
    place = object t n P known c critical

    abbrev pub ch : RawChoice
    ch = choice t n P known c critical

    pub raw : IsRawChoice (t place) n ch
    raw = is_raw_choice t n P known c critical

    pub mark_is : (p : ℕ) → p < n → slice_get ch.marks p ≡ Some (team_by (K.value p))
    unfolding critical
    mark_is p l = mark_at t n P known c critical p l

    abbrev Order : List ℕ → Type 0
    Order order = IsOrder (length ch.operations) order

    abbrev ends_in : List ℕ → ℕ
    ends_in order = state_after (t place) ch.state (operations_of ch order)

    pub differ : (order : List ℕ) → Order order → Differ order
    differ order o = differ_from order o.distinct

    pub schedule : (order : List ℕ) → Order order → IsSchedule n order
    schedule order o = order_schedule t n P known c critical order o

    in_below : (order : List ℕ) → IsSchedule n order → (p : ℕ) → IsIn p order → p < n
    in_below [] h p i = absurd i
    in_below (q ∷ qs) h p i = elim i [
      | inl e ↦ subst (λ (z : ℕ).
          z < n) e h.0
      | inr j ↦ in_below qs h.1 p j
    ]

    pub has_run : (order : List ℕ) → Order order → Ran t P (λ q.
        slice_index ch.operations q) place c c order
    has_run order o = ran_order t n P known c critical order o

    -- after an order of a team its value is sure
    pub sure_after : (team : Team) (order : List ℕ) → Order order → BeginsIn ch team order
        → Sure t n P inputs (value_of team) (after t P c order) (grants b order)
    sure_after team order o begins = go order (differ order o) (schedule order o) begins
      where
        same : {T : Type 0} {y z : T} → Some y ≡ Some z → y ≡ z
        same e = cc e

        go : (order : List ℕ) → Differ order → IsSchedule n order → BeginsIn ch team order
            → Sure t n P inputs (value_of team) (after t P c order) (grants b order)
        go [] d h begins = absurd (cc begins.1)
        go (p ∷ ps) d h begins =
            let first : p ≡ begins.0 = cc begins.1 in
            let mark : team_by (K.value p) ≡ team = same (sym (mark_is p h.0)
            ∙ (ap (slice_get ch.marks) first ∙ begins.2)) in
            sure_order t n P inputs (value_of team) p ps c b d h (λ q i.
            K.undecided q (in_below (p ∷ ps) h q i))
            (subst (λ (y : Bool). Sure t n P inputs y (step t P c p) (grant b p))
            (value_is (K.value p) team mark) (K.sure_at p h.0))

    pub same_registers : (alpha beta : List ℕ) → Order alpha → Order beta → (i : ℕ)
        → (after t P c alpha).registers i ≡ (after t P c beta).registers i
    same_registers alpha beta o u i = (has_run alpha o).registers i
        ∙ sym ((has_run beta u).registers i)

    pub same_objects : (alpha beta : List ℕ) → Order alpha → Order beta
        → ends_in alpha ≡ ends_in beta
        → (i : ℕ) → (after t P c alpha).objects i ≡ (after t P c beta).objects i
    same_objects alpha beta o u e i =
        let r = has_run alpha o in
        let m = has_run beta u in
        elim (cases_eq i place) [
          | inl at ↦ ap (after t P c alpha).objects at
              ∙ (r.last ∙ (e ∙ (sym m.last ∙ ap (after t P c beta).objects (sym at))))
          | inr d ↦ r.others i d ∙ sym (m.others i d)
        ]

    pub back_objects : (alpha : List ℕ) → Order alpha → ends_in alpha ≡ ch.state → (i : ℕ)
        → (after t P c alpha).objects i ≡ c.objects i
    back_objects alpha o e i =
        let r = has_run alpha o in
        elim (cases_eq i place) [
          | inl at ↦ ap (after t P c alpha).objects at
              ∙ (r.last ∙ (e ∙ ap c.objects (sym at)))
          | inr d ↦ r.others i d
        ]

    -- a process runs alone after these events
    pub runs_after : (us : List Event) → IsExecution n us → (p : ℕ) → p < n
        → (z : Bool) × Runs t n P inputs p z (after_execution t P inputs c us)
    runs_after us h p l =
        subst (λ (d : Configuration L V). (z : Bool) × Runs t n P inputs p z d)
        (config_more t n P inputs s.events us)
        (runs_at t n P inputs endless (s.events ++ us)
        (execution-append n s.events us s.execution h) p l)

    pub runs_order : (order : List ℕ) → IsSchedule n order → (p : ℕ) → p < n
        → (z : Bool) × Runs t n P inputs p z (after t P c order)
    runs_order order h p l =
        subst (λ (d : Configuration L V). (z : Bool) × Runs t n P inputs p z d)
        (after_steps t P inputs c order) (runs_after (steps order) (steps_execution n order h)
        p l)

    -- a step of a process from the level on has the value of the shadow
    pub shadowed : (sh : Shadow t n P inputs c b s.level) (p : ℕ) → s.level ≤ p → p < n
        → K.value p ≡ sh.value
    shadowed sh p u l =
        let a = shadow_alike t n P inputs c b s.level p u l sh in
        let r = runs_order (p ∷ []) (l, tt) p l in
        sure_clash t n P inputs (K.value p) sh.value r.0 p (step t P c p) (step t P sh.other p)
        (grant b p) (grant sh.budget p) l r.1
        (alike_stepped t P p c sh.other a) (K.sure_at p l)
        (sure_step t n P inputs sh.value sh.other sh.budget p l
        (sym (alike_decided t P p c sh.other a) ∙ K.undecided p l) sh.sure)

    pub crashed_alike : (p : ℕ) (d e : Configuration L V)
        → ((i : ℕ) → d.registers i ≡ e.registers i)
        → ((i : ℕ) → d.objects i ≡ e.objects i)
        → Alike p (after_crash P inputs d p) (after_crash P inputs e p)
    crashed_alike p d e r o = record {
      local = put-same d.locals p (P.start p (inputs p))
          ∙ sym (put-same e.locals p (P.start p (inputs p)));
      registers = r;
      objects = o;
    }
