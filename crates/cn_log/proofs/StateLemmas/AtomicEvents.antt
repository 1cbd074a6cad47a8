-- An event of a log is atomic.
use Rattle.std.proofs.Common.{ℕ, ◌≡◌, ◌≢◌, inl, inr, Bool, true, false, ◌+◌, ◌*◌, ◌==◌, ◌<◌, ◌≤◌, List, [], ◌∷◌, ◌++◌, length, min, Option, Some, None, IsSome, refl, sym, ap, ◌∙◌, subst, arith, get_or-set_same, get_or-set_other}
use Rattle.std.proofs.lemmas.Bool.{cases_eq}
use Rattle.cn_proto.specs.Plan.{protocol_of, processes_of, nodes_of}
use Rattle.cn_proto.specs.Protocol.{ProtocolOfRounds, place_of}
use Rattle.cn_proto.specs.Tournament.{team_of}
use Rattle.cn_agree.specs.AtomicStep.{content, part_touched, ActsOnce, HasPlace, LooksAlike, IsAtomic}
use Rattle.cn_agree.specs.Rounds.{decision_of, decision_at, RunsBy, KeepsConsensus, actions_done, steps_taken}
use Rattle.cn_agree.specs.Consensus.{occurrences}
use Rattle.cn_agree.specs.Steps.{after_step as round_step}
use Rattle.cn_agree.specs.World.{World as RoundWorld, node_at, local_at, input_at}
use Rattle.cn_agree.specs.declared.local.Local.{Local}
use Rattle.cn_agree.specs.declared.local.Local.TheVariants.{NotBegun, Active, Decided}
use Rattle.cn_agree.specs.declared.local.Stage.{Stage}
use Rattle.cn_log.specs.declared.batch.Batch.{Batch}
use Rattle.cn_log.specs.declared.entry.Entry.{Entry}
use Rattle.cn_log.specs.declared.event.Event.{Event}
use Rattle.cn_log.specs.declared.event.Event.TheVariants.{Invoke, Step}
use Rattle.cn_log.specs.declared.event.StepAnswer.{StepAnswer}
use Rattle.cn_log.specs.declared.caller_state.Phase.{Phase}
use Rattle.cn_log.specs.declared.caller_state.Phase.TheVariants.{Idle, Looks, Runs}
use Rattle.cn_log.specs.Agreement.{RoundsAgree}
use Rattle.cn_log.specs.AtomicEvent.{LogWorld, LogPart, Announcement, InRound, LogContent, Announced, AtNode, IsSameLocally, log_content, touched_in, touched_by_step, touched_by, LooksOn, LooksOnce, ActsInRound, Steps, Happens, answer_to, LogsLookAlike, IsAtomicEvent}
use Rattle.cn_log.specs.Callers.{call_of, process_of}
use Rattle.cn_log.specs.Log.{Setting, Caller, put, batch_with, entries_of_batches, first_look, after_gathering, after_look, after_decision, after_run, after_step, after_event, first_world, state_of, answer_with, answer_from, MayCome, MayStep, IsEventList}
use Rattle.cn_log.specs.Opening.{Opening, IsOpening, setting_of}
use Rattle.cn_log.proofs.ListLemmas.EventLists.{may_left, may_right}
use Rattle.cn_log.proofs.StateLemmas.Fields.{state_push, may_push}
use Rattle.cn_log.proofs.InvariantLemmas.Invariant.{IsRuns, Holds}
use Rattle.cn_log.proofs.InvariantLemmas.Linearization.{holds_after}
use Rattle.cn_log.proofs.ListLemmas.Places.{put_same, put_other}
use Rattle.cn_log.proofs.InvariantLemmas.Rounds.{RoundLaw, agrees_of, sizes_of, has_begun}

-- a read of a function after a change at one place that this read does not see
at_put : {A B : Type 0} (f : ℕ → A) (k j : ℕ) (r : A) (g : A → B) → g r ≡ g (f k) → g (put f k r j) ≡ g (f j)
at_put f k j r g same = elim (cases_eq j k) [
  | inl e ↦ ap g (ap (put f k r) e ∙ put_same f k r) ∙ same ∙ ap (λ i. g (f i)) (sym e)
  | inr ne ↦ ap g (put_other f k r j ne)
]

-- reads of two functions after the same change at one place
put_alike : {A B : Type 0} (f h : ℕ → A) (k j : ℕ) (r s : A) (g : A → B) → g r ≡ g s → g (f j) ≡ g (h j) → g (put f k r j) ≡ g (put h k s j)
put_alike f h k j r s g same there = elim (cases_eq j k) [
  | inl e ↦ ap g (ap (put f k r) e ∙ put_same f k r) ∙ same ∙ sym (ap g (ap (put h k s) e ∙ put_same h k s))
  | inr ne ↦ ap g (put_other f k r j ne) ∙ there ∙ sym (ap g (put_other h k s j ne))
]

module _ (law : RoundLaw) (atomic : (P : ProtocolOfRounds) (p : ℕ) → IsAtomic Batch P p) (o : Opening) (opening : IsOpening o) where
  abbrev P : ProtocolOfRounds
  P = protocol_of o.plan

  abbrev n : ℕ
  n = processes_of o.plan

  abbrev L : Setting (RoundWorld Batch)
  L = setting_of o

  abbrev Good : RoundWorld Batch → Type 0
  Good r = RunsBy o.plan r

  abbrev IsSafe : LogWorld → Type 0
  IsSafe w = Holds L Good w

  agrees : RoundsAgree L Good
  agrees = agrees_of law o opening.plan

  -- a process that has begun in a round and not decided is at a place of its path
  pub record IsActive (r : RoundWorld Batch) (p : ℕ) : Type 0 where
    pub place : ℕ
    pub value : Batch
    pub stage : Stage
    pub is : local_at r p ≡ Active place value stage
    pub within : place < length (P.path p)

  keeps : (r : RoundWorld Batch) (good : Good r) → KeepsConsensus P n good.0 r
  keeps r good = law.consensus P n (nodes_of o.plan) (team_of (length o.plan.choice.a)) good.0 r (law.sound_plans o.plan opening.plan) good.1.reached

  pub active_of : (r : RoundWorld Batch) → Good r → (p : ℕ) → p < n → (v : Batch) → input_at r p ≡ Some v → decision_at r p ≡ None → IsActive r p
  active_of r good p lt v began undecided = go (local_at r p) refl
    where
      go : (l : Local Batch) → local_at r p ≡ l → IsActive r p
      go NotBegun e = absurd (has_begun law o opening.plan r good p lt v began e)
      go (Decided y) e = absurd (let f : Some y ≡ None = sym (ap decision_of e) ∙ undecided in cc)
      go (Active i x stage) e =
          let k = keeps r good in
          let taken : 4 * i + actions_done stage ≡ min (occurrences good.0 p) (4 * length (P.path p)) = ap (λ (l : Local Batch). steps_taken P p l) (sym e) ∙ k.steps p lt in
          let few : 4 * length (P.path p) ≤ occurrences good.0 p → ⊥ = λ many. (let there : IsSome (let none : Option Batch = None in none) = subst IsSome undecided ((k.in_time p lt).1 many) in cc) in
          record { place = i; value = x; stage = stage; is = e; within = omega arith }

  many : (r : RoundWorld Batch) → Good r → (length r.nodes ≡ nodes_of o.plan) × (length r.locals ≡ n) × (length r.inputs ≡ n)
  many r good = sizes_of law o opening.plan r good

  -- both rounds have the node of a process's place
  has_place : (r s : RoundWorld Batch) → Good r → Good s → (p i : ℕ) → p < n → i < length (P.path p) → HasPlace P p i r s
  has_place r s good good' p i lt within =
      let below : (place_of P p i).node < nodes_of o.plan = (law.sound_plans o.plan opening.plan).nodes_below p i (lt, within) in
      let a = (many r good).0 in
      let b = (many s good').0 in
      record { here = omega arith; there = omega arith }

  -- a decision changes neither rounds nor announcements
  rounds_kept : (v : LogWorld) (p : ℕ) (here : Caller) (mine : Entry) (d : Option Batch) (k : ℕ) → (after_decision L v p here mine d).round k ≡ v.round k
  rounds_kept v p here mine None k = refl
  rounds_kept v p here mine (Some x) k = refl

  announced_kept : (v : LogWorld) (p : ℕ) (here : Caller) (mine : Entry) (d : Option Batch) (q : ℕ) → (after_decision L v p here mine d).announced q ≡ v.announced q
  announced_kept v p here mine None q = refl
  announced_kept v p here mine (Some x) q = refl

  other_kept : (v : LogWorld) (p : ℕ) (here : Caller) (mine : Entry) (d : Option Batch) (q : ℕ) → q ≢ p → (after_decision L v p here mine d).caller q ≡ v.caller q
  other_kept v p here mine None q ne = refl
  other_kept v p here mine (Some x) q ne = put_other v.caller p _ q ne

  undecided_kept : (v : LogWorld) (p : ℕ) (here : Caller) (mine : Entry) (d : Option Batch) → d ≡ None → (after_decision L v p here mine d).caller p ≡ v.caller p
  undecided_kept v p here mine None e = refl
  undecided_kept v p here mine (Some x) e = absurd (cc)

  -- a decision leads to the same in two worlds
  caller_alike : (v u : LogWorld) (p : ℕ) (here : Caller) (mine : Entry) (d : Option Batch) → v.caller p ≡ u.caller p
      → (after_decision L v p here mine d).caller p ≡ (after_decision L u p here mine d).caller p
  caller_alike v u p here mine None e = e
  caller_alike v u p here mine (Some x) e = put_same v.caller p _ ∙ sym (put_same u.caller p _)

  -- the world after an action in the round of the slot, before the process replays its decision
  abbrev ran : LogWorld → ℕ → Caller → LogWorld
  ran w p here = record w { round = put w.round (length here.seen) (round_step P p (w.round (length here.seen))) }

  abbrev decision : LogWorld → ℕ → Caller → Option Batch
  decision w p here = decision_at (round_step P p (w.round (length here.seen))) p

  ran_round : (w : LogWorld) (p : ℕ) (here : Caller) (mine : Entry) → (after_run L w p here mine).round (length here.seen) ≡ round_step P p (w.round (length here.seen))
  ran_round w p here mine = rounds_kept (ran w p here) p here mine (decision w p here) (length here.seen) ∙ put_same w.round (length here.seen) (round_step P p (w.round (length here.seen)))

  -- the effect of an event, in the world before it
  module _ (w : LogWorld) (safe : IsSafe w) where
    -- a process that runs in the round of its slot is active there
    runs_at : (p : ℕ) → p < n → (here : Caller) (mine : Entry) → w.caller p ≡ here → here.phase ≡ Runs mine → IsActive (w.round (length here.seen)) p
    runs_at p lt here mine is phase =
        let Began : Caller → Type 0 = λ c. IsRuns c.phase → (v : Batch) × (input_at (w.round (length c.seen)) p ≡ Some v) × (decision_at (w.round (length c.seen)) p ≡ None) in
        let began = subst Began is (safe.running p) (subst IsRuns (sym phase) tt) in
        active_of (w.round (length here.seen)) (safe.good (length here.seen)) p lt began.0 began.1 began.2

    look_shared : (p : ℕ) (here : Caller) (mine : Entry) (q : ℕ) (batch : Batch) (last : Bool) (part : LogPart)
        → log_content o (after_gathering L w p here mine q batch last) part ≡ log_content o w part
    look_shared p here mine q batch false (Announcement r) = refl
    look_shared p here mine q batch false (InRound j v part) = refl
    look_shared p here mine q batch true (Announcement r) = refl
    look_shared p here mine q batch true (InRound j v part) = at_put w.round (length here.seen) j _ (λ (r : RoundWorld Batch). AtNode (content (node_at P r v) part)) refl

    looks_on : (p : ℕ) (here : Caller) (mine : Entry) (q : ℕ) (batch : Batch) (last : Bool) → LooksOn o w p here mine q batch last (after_gathering L w p here mine q batch last)
    looks_on p here mine q batch false = (refl, put_same w.caller p _)
    looks_on p here mine q batch true = (put_same w.round (length here.seen) _, put_same w.caller p _)

    look_rounds : (p : ℕ) (here : Caller) (mine : Entry) (q : ℕ) (batch : Batch) (last : Bool) (k : ℕ) → k ≢ length here.seen → (after_gathering L w p here mine q batch last).round k ≡ w.round k
    look_rounds p here mine q batch false k ne = refl
    look_rounds p here mine q batch true k ne = put_other w.round (length here.seen) _ k ne

    looks_once : (p : ℕ) (here : Caller) (mine : Entry) (q : ℕ) (batch : Batch) → LooksOnce o w p here mine q batch (after_look L w p here mine q batch)
    looks_once p here mine q batch =
        let more : Batch = batch_with (w.announced q) (entries_of_batches L here.seen) q batch in
        record {
          shared = look_shared p here mine q more (q + 1 == n);
          other_rounds = look_rounds p here mine q more (q + 1 == n);
          goes_on = looks_on p here mine q more (q + 1 == n);
        }

    acts : (p : ℕ) (here : Caller) (mine : Entry) (at : IsActive (w.round (length here.seen)) p)
        → ActsOnce P p at.place at.value at.stage (w.round (length here.seen)) (round_step P p (w.round (length here.seen)))
    acts p here mine at = (atomic P p).one_action (w.round (length here.seen)) at.place at.value at.stage at.is

    acts_in_round : (p : ℕ) (here : Caller) (mine : Entry) → w.caller p ≡ here → IsActive (w.round (length here.seen)) p → ActsInRound o w p here (after_run L w p here mine)
    acts_in_round p here mine is at = record {
      place = at.place;
      value = at.value;
      stage = at.stage;
      is = at.is;
      action = subst (λ r. ActsOnce P p at.place at.value at.stage (w.round (length here.seen)) r) (sym (ran_round w p here mine)) (acts p here mine at);
      other_rounds = λ k ne. rounds_kept (ran w p here) p here mine (decision w p here) k ∙ put_other w.round (length here.seen) _ k ne;
      undecided = λ none. undecided_kept (ran w p here) p here mine (decision w p here) (ap (λ (r : RoundWorld Batch). decision_at r p) (sym (ran_round w p here mine)) ∙ none) ∙ is;
    }

    run_shared : (p : ℕ) (here : Caller) (mine : Entry) (at : IsActive (w.round (length here.seen)) p) (part : LogPart)
        → touched_in o p (length here.seen) (local_at (w.round (length here.seen)) p) ≢ Some part
        → log_content o (after_run L w p here mine) part ≡ log_content o w part
    run_shared p here mine at (Announcement q) ne = ap (λ a. Announced a) (announced_kept (ran w p here) p here mine (decision w p here) q)
    run_shared p here mine at (InRound j v part) ne = elim (cases_eq j (length here.seen)) [
      | inl e ↦ ap (λ i. AtNode (content (node_at P ((after_run L w p here mine).round i) v) part)) e ∙ ap (λ (r : RoundWorld Batch). AtNode (content (node_at P r v) part)) (ran_round w p here mine)
          ∙ ap (λ c. AtNode c) (here_same e) ∙ ap (λ i. AtNode (content (node_at P (w.round i) v) part)) (sym e)
      | inr apart ↦ ap (λ (r : RoundWorld Batch). AtNode (content (node_at P r v) part)) (rounds_kept (ran w p here) p here mine (decision w p here) j ∙ put_other w.round (length here.seen) _ j apart)
    ]
      where
        here_same : j ≡ length here.seen → content (node_at P (round_step P p (w.round (length here.seen))) v) part ≡ content (node_at P (w.round (length here.seen)) v) part
        here_same e = elim (cases_eq v (place_of P p at.place).node) [
          | inl f ↦ rw f ((acts p here mine at).other_parts part (λ g. ne (ap (touched_in o p (length here.seen)) at.is ∙ (λ i. Some (InRound (sym e i) (sym f i) (sym g i))))))
          | inr apart ↦ ap (λ z. content z part) ((acts p here mine at).other_nodes v apart)
        ]

    run_others : (p : ℕ) (here : Caller) (mine : Entry) → IsActive (w.round (length here.seen)) p → (q : ℕ) → q ≢ p → IsSameLocally q (after_run L w p here mine) w
    run_others p here mine at q ne = record {
      caller = other_kept (ran w p here) p here mine (decision w p here) q ne;
      rounds = λ k. ap (λ (r : RoundWorld Batch). local_at r q) (rounds_kept (ran w p here) p here mine (decision w p here) k)
          ∙ at_put w.round (length here.seen) k _ (λ (r : RoundWorld Batch). local_at r q) ((acts p here mine at).other_processes q ne);
    }

    look_others : (p : ℕ) (here : Caller) (mine : Entry) (q : ℕ) (batch : Batch) (last : Bool) → (r : ℕ) → r ≢ p → IsSameLocally r (after_gathering L w p here mine q batch last) w
    look_others p here mine q batch false r ne = record { caller = put_other w.caller p _ r ne; rounds = λ k. refl }
    look_others p here mine q batch true r ne = record {
      caller = put_other w.caller p _ r ne;
      rounds = λ k. at_put w.round (length here.seen) k _ (λ (v : RoundWorld Batch). local_at v r) (get_or-set_other (w.round (length here.seen)).locals p r _ NotBegun ne);
    }

    -- the parts of the law on one world, for a step
    pub record IsOneStep (p : ℕ) (here : Caller) (ph : Phase) : Type 0 where
      pub part : LogPart
      pub touches : touched_by_step o w p here ph ≡ Some part
      pub other_parts : (other : LogPart) → touched_by_step o w p here ph ≢ Some other → log_content o (after_step L w p here ph) other ≡ log_content o w other
      pub other_processes : (q : ℕ) → q ≢ p → IsSameLocally q (after_step L w p here ph) w
      pub steps : Steps o w p here ph (after_step L w p here ph)

    one_step : (p : ℕ) → p < n → (here : Caller) (ph : Phase) → w.caller p ≡ here → here.phase ≡ ph → ph ≢ Idle → IsOneStep p here ph
    one_step p lt here Idle is phase busy = absurd (busy refl)
    one_step p lt here (Looks mine q batch) is phase busy =
        let more : Batch = batch_with (w.announced q) (entries_of_batches L here.seen) q batch in
        record {
          part = Announcement q;
          touches = refl;
          other_parts = λ other ne. look_shared p here mine q more (q + 1 == n) other;
          other_processes = look_others p here mine q more (q + 1 == n);
          steps = looks_once p here mine q batch;
        }
    one_step p lt here (Runs mine) is phase busy =
        let at = runs_at p lt here mine is phase in
        record {
          part = InRound (length here.seen) (place_of P p at.place).node (part_touched P (place_of P p at.place) at.stage);
          touches = ap (touched_in o p (length here.seen)) at.is;
          other_parts = λ other ne. run_shared p here mine at other ne;
          other_processes = run_others p here mine at;
          steps = acts_in_round p here mine is at;
        }

    -- and for any event
    pub record IsOneEvent (e : Event) : Type 0 where
      pub part : LogPart
      pub touches : touched_by o w e ≡ Some part
      pub other_parts : (other : LogPart) → touched_by o w e ≢ Some other → log_content o (after_event L w e) other ≡ log_content o w other
      pub other_processes : (q : ℕ) → q ≢ process_of e → IsSameLocally q (after_event L w e) w
      pub happens : Happens o w e (after_event L w e)

    call_shared : (p operation : ℕ) (other : LogPart) → touched_by o w (Invoke p operation) ≢ Some other → log_content o (after_event L w (Invoke p operation)) other ≡ log_content o w other
    call_shared p operation (Announcement q) ne = ap (λ a. Announced a) (put_other w.announced p _ q (λ e. ne (ap (λ i. Some (Announcement i)) (sym e))))
    call_shared p operation (InRound k v part) ne = refl

    pub one_event : (e : Event) → MayCome L w e → IsOneEvent e
    one_event (Invoke p operation) may = record {
      part = Announcement p;
      touches = refl;
      other_parts = call_shared p operation;
      other_processes = λ q ne. record { caller = put_other w.caller p _ q ne; rounds = λ k. refl };
      happens = record { written = put_same w.announced p _; rounds = λ k. refl; caller = put_same w.caller p _ };
    }
    one_event (Step p) may =
        let s = one_step p may.process (w.caller p) (w.caller p).phase refl refl may.in_call in
        record { part = s.part; touches = s.touches; other_parts = s.other_parts; other_processes = s.other_processes; happens = s.steps }

  -- the effect of an event in two worlds that look alike to its process
  module _ (w u : LogWorld) (safe : IsSafe w) (safe' : IsSafe u) where
    pub record GoesAlike (p : ℕ) (touches : Option LogPart) (w' u' : LogWorld) (given given' : StepAnswer) : Type 0 where
      pub local : IsSameLocally p w' u'
      pub shared : (part : LogPart) → touches ≡ Some part → log_content o w' part ≡ log_content o u' part
      pub answer : given ≡ given'

    -- a look with the same batch leads to the same in both
    gathers_alike : (p : ℕ) → p < n → (here : Caller) (mine : Entry) (q : ℕ) (batch : Batch) (last : Bool) → IsSameLocally p w u
        → IsSameLocally p (after_gathering L w p here mine q batch last) (after_gathering L u p here mine q batch last)
    gathers_alike p lt here mine q batch false local = record { caller = put_same w.caller p _ ∙ sym (put_same u.caller p _); rounds = local.rounds }
    gathers_alike p lt here mine q batch true local =
        let k : ℕ = length here.seen in
        let a = (many (w.round k) (safe.good k)).1 in
        let b = (many (u.round k) (safe'.good k)).1 in
        record {
          caller = put_same w.caller p _ ∙ sym (put_same u.caller p _);
          rounds = λ j. put_alike w.round u.round k j _ _ (λ (r : RoundWorld Batch). local_at r p)
              (get_or-set_same (w.round k).locals p _ NotBegun (omega arith) ∙ sym (get_or-set_same (u.round k).locals p _ NotBegun (omega arith)))
              (local.rounds j);
        }

    looks_alike : (p : ℕ) → p < n → (here : Caller) (mine : Entry) (q : ℕ) (batch : Batch) → IsSameLocally p w u
        → ((part : LogPart) → Some (Announcement q) ≡ Some part → log_content o w part ≡ log_content o u part)
        → IsSameLocally p (after_look L w p here mine q batch) (after_look L u p here mine q batch)
    looks_alike p lt here mine q batch local shared =
        let same_call : Announced (w.announced q) ≡ Announced (u.announced q) = shared (Announcement q) refl in
        let same : w.announced q ≡ u.announced q = cc in
        subst (λ a. IsSameLocally p (after_look L w p here mine q batch) (after_gathering L u p here mine q (batch_with a (entries_of_batches L here.seen) q batch) (q + 1 == n))) same
        (gathers_alike p lt here mine q (batch_with (w.announced q) (entries_of_batches L here.seen) q batch) (q + 1 == n) local)

    module _ (p : ℕ) (lt : p < n) (here : Caller) (mine : Entry) (is : w.caller p ≡ u.caller p) (at : IsActive (w.round (length here.seen)) p) (local : IsSameLocally p w u)
        (shared : (part : LogPart) → touched_in o p (length here.seen) (local_at (w.round (length here.seen)) p) ≡ Some part → log_content o w part ≡ log_content o u part) where
      abbrev k : ℕ
      k = length here.seen

      abbrev part_here : LogPart
      part_here = InRound k (place_of P p at.place).node (part_touched P (place_of P p at.place) at.stage)

      touches_here : touched_in o p k (local_at (w.round k) p) ≡ Some part_here
      touches_here = ap (touched_in o p k) at.is

      alike_here : LooksAlike P p at.place at.value at.stage (w.round k) (u.round k)
      alike_here = let e = shared part_here touches_here in record { here = at.is; there = sym (local.rounds k) ∙ at.is; shared = cc }

      local_then : local_at (round_step P p (w.round k)) p ≡ local_at (round_step P p (u.round k)) p
      local_then = (atomic P p).local (w.round k) (u.round k) at.place at.value at.stage alike_here

      run_answer : answer_with L here.seen mine (decision w p here) ≡ answer_with L here.seen mine (decision u p here)
      run_answer = ap (λ (l : Local Batch). answer_with L here.seen mine (decision_of l)) local_then

      run_local : IsSameLocally p (after_run L w p here mine) (after_run L u p here mine)
      run_local = record {
        caller = caller_alike (ran w p here) (ran u p here) p here mine (decision w p here) is
            ∙ ap (λ (l : Local Batch). (after_decision L (ran u p here) p here mine (decision_of l)).caller p) local_then;
        rounds = λ j. ap (λ (r : RoundWorld Batch). local_at r p) (rounds_kept (ran w p here) p here mine (decision w p here) j)
            ∙ put_alike w.round u.round k j _ _ (λ (r : RoundWorld Batch). local_at r p) local_then (local.rounds j)
            ∙ ap (λ (r : RoundWorld Batch). local_at r p) (sym (rounds_kept (ran u p here) p here mine (decision u p here) j));
      }

      part_then : log_content o (after_run L w p here mine) part_here ≡ log_content o (after_run L u p here mine) part_here
      part_then =
          let f : RoundWorld Batch → LogContent = λ r. AtNode (content (node_at P r (place_of P p at.place).node) (part_touched P (place_of P p at.place) at.stage)) in
          ap f (ran_round w p here mine)
          ∙ ap (λ c. AtNode c) ((atomic P p).shared (w.round k) (u.round k) at.place at.value at.stage
          (has_place (w.round k) (u.round k) (safe.good k) (safe'.good k) p at.place lt at.within) alike_here)
          ∙ ap f (sym (ran_round u p here mine))

      run_shared_then : (part : LogPart) → touched_in o p k (local_at (w.round k) p) ≡ Some part → log_content o (after_run L w p here mine) part ≡ log_content o (after_run L u p here mine) part
      run_shared_then part h =
          let e : Some part_here ≡ Some part = sym touches_here ∙ h in
          let same : part_here ≡ part = cc in
          subst (λ z. log_content o (after_run L w p here mine) z ≡ log_content o (after_run L u p here mine) z) same part_then

      goes_on : GoesAlike p (touched_in o p k (local_at (w.round k) p)) (after_run L w p here mine) (after_run L u p here mine) (answer_from L w p here (Runs mine))
          (answer_from L u p here (Runs mine))
      goes_on = record { local = run_local; shared = run_shared_then; answer = run_answer }

    step_alike : (p : ℕ) → p < n → (here : Caller) (ph : Phase) → w.caller p ≡ here → here.phase ≡ ph → ph ≢ Idle → IsSameLocally p w u
        → ((part : LogPart) → touched_by_step o w p here ph ≡ Some part → log_content o w part ≡ log_content o u part)
        → GoesAlike p (touched_by_step o w p here ph) (after_step L w p here ph) (after_step L u p here ph) (answer_from L w p here ph) (answer_from L u p here ph)
    step_alike p lt here Idle is phase busy local shared = absurd (busy refl)
    step_alike p lt here (Looks mine q batch) is phase busy local shared =
        let more_w : Batch = batch_with (w.announced q) (entries_of_batches L here.seen) q batch in
        let more_u : Batch = batch_with (u.announced q) (entries_of_batches L here.seen) q batch in
        record {
          local = looks_alike p lt here mine q batch local shared;
          shared = λ part h. look_shared w safe p here mine q more_w (q + 1 == n) part ∙ shared part h ∙ sym (look_shared u safe' p here mine q more_u (q + 1 == n) part);
          answer = refl;
        }
    step_alike p lt here (Runs mine) is phase busy local shared = goes_on p lt here mine local.caller (runs_at w safe p lt here mine is phase) local shared

    -- the same for a step, by the knowledge of the process in each world
    step_goes : (p : ℕ) → MayStep L w p → IsSameLocally p w u → ((part : LogPart) → touched_by o w (Step p) ≡ Some part → log_content o w part ≡ log_content o u part)
        → GoesAlike p (touched_by o w (Step p)) (after_event L w (Step p)) (after_event L u (Step p)) (answer_from L w p (w.caller p) (w.caller p).phase)
        (answer_from L u p (u.caller p) (u.caller p).phase)
    step_goes p may local shared =
        subst (λ (c : Caller). GoesAlike p (touched_by o w (Step p)) (after_event L w (Step p)) (after_step L u p c c.phase) (answer_from L w p (w.caller p) (w.caller p).phase)
        (answer_from L u p c c.phase)) local.caller
        (step_alike p may.process (w.caller p) (w.caller p).phase refl refl may.in_call local shared)

    -- the event can come in the other world
    pub comes : (e : Event) → MayCome L w e → IsSameLocally (process_of e) w u → MayCome L u e
    comes (Invoke p operation) may local = record {
      process = may.process;
      operation = may.operation;
      idle = ap (λ (c : Caller). c.phase) (sym local.caller) ∙ may.idle;
      not_at_end = subst (λ (c : Caller). length c.seen < L.capacity) local.caller may.not_at_end;
    }
    comes (Step p) may local = record { process = may.process; in_call = subst (λ (c : Caller). c.phase ≢ Idle) local.caller may.in_call }

    call_caller : (p operation : ℕ) → IsSameLocally p w u → (after_event L w (Invoke p operation)).caller p ≡ (after_event L u (Invoke p operation)).caller p
    call_caller p operation local =
        put_same w.caller p _ ∙ ap (λ (c : Caller). let now : Caller = record { seen = c.seen; calls = c.calls + 1; phase = first_look (call_of p operation c.calls) } in now)
        local.caller ∙ sym (put_same u.caller p _)

    call_content : (p operation : ℕ) → IsSameLocally p w u
        → log_content o (after_event L w (Invoke p operation)) (Announcement p) ≡ log_content o (after_event L u (Invoke p operation)) (Announcement p)
    call_content p operation local =
        ap (λ a. Announced a) (put_same w.announced p _) ∙ ap (λ (c : Caller). Announced (Some (call_of p operation c.calls))) local.caller ∙ ap (λ a. Announced a) (sym (put_same u.announced p _))

    pub local_alike : (e : Event) → MayCome L w e → IsSameLocally (process_of e) w u → ((part : LogPart) → touched_by o w e ≡ Some part → log_content o w part ≡ log_content o u part)
        → IsSameLocally (process_of e) (after_event L w e) (after_event L u e)
    local_alike (Invoke p operation) may local shared = record { caller = call_caller p operation local; rounds = local.rounds }
    local_alike (Step p) may local shared = (step_goes p may local shared).local

    pub shared_alike : (e : Event) → MayCome L w e → IsSameLocally (process_of e) w u → ((part : LogPart) → touched_by o w e ≡ Some part → log_content o w part ≡ log_content o u part)
        → (part : LogPart) → touched_by o w e ≡ Some part → log_content o (after_event L w e) part ≡ log_content o (after_event L u e) part
    shared_alike (Invoke p operation) may local shared part h =
        let same : Announcement p ≡ part = cc in
        subst (λ z. log_content o (after_event L w (Invoke p operation)) z ≡ log_content o (after_event L u (Invoke p operation)) z) same (call_content p operation local)
    shared_alike (Step p) may local shared part h = (step_goes p may local shared).shared part h

    pub answer_alike : (p : ℕ) → MayStep L w p → IsSameLocally p w u → ((part : LogPart) → touched_by o w (Step p) ≡ Some part → log_content o w part ≡ log_content o u part)
        → answer_from L w p (w.caller p) (w.caller p).phase ≡ answer_from L u p (u.caller p) (u.caller p).phase
    answer_alike p may local shared = (step_goes p may local shared).answer

  module _ (events : List Event) (e : Event) (may : IsEventList L (events ++ e ∷ [])) where
    safe_after : (before : List Event) → IsEventList L before → IsSafe (state_of L before)
    safe_after before listed = holds_after L Good agrees before listed

    before_may : IsEventList L events
    before_may = may_left L events (e ∷ []) (first_world L) may

    event_may : MayCome L (state_of L events) e
    event_may = (may_right L events (e ∷ []) (first_world L) may).0

    one : IsOneEvent (state_of L events) (safe_after events before_may) e
    one = one_event (state_of L events) (safe_after events before_may) e event_may

    answers_alike : (event : Event) → MayCome L (state_of L events) event → (others : List Event) → IsEventList L others → LogsLookAlike o events others event
        → answer_to o events event ≡ answer_to o others event
    answers_alike (Invoke p operation) come others listed alike = refl
    answers_alike (Step p) come others listed alike = ap (λ a. Some a)
        (answer_alike (state_of L events) (state_of L others) (safe_after events before_may) (safe_after others listed) p come alike.local alike.shared)

    pub atomic_event : IsAtomicEvent o events e
    atomic_event = record {
      one_part = (one.part, one.touches);
      other_parts = λ other ne. ap (λ (v : LogWorld). log_content o v other) (state_push L events e) ∙ one.other_parts other ne;
      other_processes = λ q ne. subst (λ (v : LogWorld). IsSameLocally q v (state_of L events)) (sym (state_push L events e)) (one.other_processes q ne);
      happens = subst (λ (v : LogWorld). Happens o (state_of L events) e v) (sym (state_push L events e)) one.happens;
      comes = λ others listed alike. may_push L others e listed (comes (state_of L events) (state_of L others) (safe_after events before_may) (safe_after others listed) e event_may alike.local);
      local = λ others listed alike. subst (λ (z : LogWorld × LogWorld). IsSameLocally (process_of e) z.0 z.1) (λ i. (sym (state_push L events e) i, sym (state_push L others e) i))
          (local_alike (state_of L events) (state_of L others) (safe_after events before_may) (safe_after others listed) e event_may alike.local alike.shared);
      shared = λ others listed alike part h. ap (λ (v : LogWorld). log_content o v part) (state_push L events e)
          ∙ shared_alike (state_of L events) (state_of L others) (safe_after events before_may) (safe_after others listed) e event_may alike.local alike.shared part h
          ∙ sym (ap (λ (v : LogWorld). log_content o v part) (state_push L others e));
      answers = answers_alike e event_may;
    }
