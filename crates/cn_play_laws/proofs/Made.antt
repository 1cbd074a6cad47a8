-- A run whose steps the processes of a protocol take, in the model.
use Rattle.std.proofs.Common.{◌≡◌, ◌≢◌, ℕ, ◌<◌, inl, inr, List, [], ◌∷◌, ◌++◌, refl, sym, ap, ◌∙◌, subst}
use Rattle.std.proofs.Common.{Bool, true, false, cond, nat_eq, map}
use Rattle.std.proofs.lemmas.Bool.{eq-eqb, ne_eqb, cases_eq}
use Rattle.std.proofs.lemmas.List.{append-nil, append_assoc}
use Rattle.cn_table.specs.TypeTable.{TypeTable, transition}
use Rattle.cn_consensus.specs.Protocol.{Action, Protocol}
use Rattle.cn_consensus.specs.Protocol.Action.{Decide, ReadRegister, WriteRegister, ApplyOperation}
use Rattle.cn_consensus.specs.Protocol.Action.{ReadObject}
use Rattle.cn_consensus.specs.Configuration.{Configuration, put, perform, step, after}
use Rattle.cn_consensus.proofs.Alike.{put-same, put-other}
use Rattle.cn_runs.specs.Plays.{PlayStep, schedule_of, states_along, steps_by}
use Rattle.cn_play_laws.specs.ToldRuns.{Applies, Takes, with_response}

-- ---- the steps of a process in a run

pub steps_with : (j : ℕ) (pre : List PlayStep) (s : PlayStep) (ss : List PlayStep) → s.process ≡ j
    → steps_by j (pre ++ s ∷ ss) ≡ steps_by j pre ++ s ∷ steps_by j ss
steps_with j [] s ss e = rw (eq-eqb s.process j e) refl
steps_with j (x ∷ pre) s ss e = by_test (steps_with j pre s ss e) (nat_eq x.process j)
  where
    by_test : steps_by j (pre ++ s ∷ ss) ≡ steps_by j pre ++ s ∷ steps_by j ss → (b : Bool)
        → cond b (x ∷ steps_by j (pre ++ s ∷ ss)) (steps_by j (pre ++ s ∷ ss))
        ≡ cond b (x ∷ steps_by j pre) (steps_by j pre) ++ s ∷ steps_by j ss
    by_test h true = ap (λ l. x ∷ l) h
    by_test h false = h

steps_without : (j : ℕ) (pre : List PlayStep) (s : PlayStep) → s.process ≢ j
    → steps_by j (pre ++ s ∷ []) ≡ steps_by j pre
steps_without j [] s n = rw (ne_eqb s.process j n) refl
steps_without j (x ∷ pre) s n = by_test (steps_without j pre s n) (nat_eq x.process j)
  where
    by_test : steps_by j (pre ++ s ∷ []) ≡ steps_by j pre → (b : Bool)
        → cond b (x ∷ steps_by j (pre ++ s ∷ [])) (steps_by j (pre ++ s ∷ []))
        ≡ cond b (x ∷ steps_by j pre) (steps_by j pre)
    by_test h true = ap (λ l. x ∷ l) h
    by_test h false = h

-- ---- runs in numbers

-- the step is one of n processes in the state
pub record IsStepAt (t : TypeTable) (n q : ℕ) (s : PlayStep) : Type 0 where
  pub process : s.process < n
  pub response : (transition t s.operation q).0 ≡ s.response
  pub state : (transition t s.operation q).1 ≡ s.state

abbrev pub IsRunAt : TypeTable → ℕ → ℕ → List PlayStep → Type 0
IsRunAt t n q [] = Unit {0}
IsRunAt t n q (s ∷ ss) = IsStepAt t n q s × IsRunAt t n s.state ss

abbrev pub last_of : ℕ → List PlayStep → ℕ
last_of q [] = q
last_of q (s ∷ ss) = last_of s.state ss

-- ---- one step

-- the configuration behind an operation at object i
abbrev moved : {L V : Type 0} → (ℕ → TypeTable) → Configuration L V → ℕ → (ℕ → L) → ℕ → ℕ
    → Configuration L V
moved t c j k i o = record {
  locals = put c.locals j (k (transition (t i) o (c.objects i)).0);
  registers = c.registers;
  objects = put c.objects i (transition (t i) o (c.objects i)).1;
}

module _ {L V : Type 0} (t : ℕ → TypeTable) (i o j : ℕ) (c : Configuration L V) (l : L) where
  effect : (act : Action L V) → Applies i o act
      → perform t c j act ≡ moved t c j (λ r. with_response l act r) i o
  effect (Decide x) h = absurd h
  effect (ReadRegister r k) h = absurd h
  effect (WriteRegister r v m) h = absurd h
  effect (ApplyOperation x y k) h =
      ap (λ (u : ℕ). moved t c j k u y) h.0 ∙ ap (λ (v : ℕ). moved t c j k i v) h.1
  effect (ReadObject r k) h = absurd h

-- ---- a run

module _ {L V : Type 0} (P : Protocol L V) where
  -- the local state of process j behind the steps
  abbrev pub local_behind : ℕ → L → List PlayStep → L
  local_behind j l [] = l
  local_behind j l (s ∷ ss) = local_behind j (with_response l (P.action j l) s.response) ss

  local_with : (j : ℕ) (l : L) (xs : List PlayStep) (s : PlayStep)
      → local_behind j l (xs ++ s ∷ []) ≡ with_response (local_behind j l xs)
      (P.action j (local_behind j l xs)) s.response
  local_with j l [] s = refl
  local_with j l (x ∷ xs) s = local_with j (with_response l (P.action j l) x.response) xs s

  takes_at : (i j : ℕ) (l : L) (xs : List PlayStep) (s : PlayStep) (ys : List PlayStep)
      → Takes P i j l (xs ++ s ∷ ys) → Applies i s.operation (P.action j (local_behind j l xs))
  takes_at i j l [] s ys h = h.0
  takes_at i j l (x ∷ xs) s ys h =
      takes_at i j (with_response l (P.action j l) x.response) xs s ys h.1

module _ {L V : Type 0} (t : ℕ → TypeTable) (P : Protocol L V) (i n : ℕ) (d : Configuration L V)
    (run : List PlayStep)
    (takes : (j : ℕ) → j < n → Takes P i j (d.locals j) (steps_by j run)) where
  -- behind the steps, the configuration is as they tell it
  pub record IsBehind (pre : List PlayStep) (c : Configuration L V) : Type 0 where
    pub locals : (j : ℕ) → c.locals j ≡ local_behind P j (d.locals j) (steps_by j pre)
    pub registers : (k : ℕ) → c.registers k ≡ d.registers k
    pub objects : (k : ℕ) → k ≢ i → c.objects k ≡ d.objects k

  applies : (pre : List PlayStep) (s : PlayStep) (ss : List PlayStep) (c : Configuration L V)
      → IsBehind pre c → s.process < n → pre ++ s ∷ ss ≡ run
      → Applies i s.operation (P.action s.process (c.locals s.process))
  applies pre s ss c b l e = subst (λ (x : L). Applies i s.operation (P.action s.process x))
      (sym (b.locals s.process))
      (takes_at P i s.process (d.locals s.process) (steps_by s.process pre) s
      (steps_by s.process ss)
      (subst (λ (u : List PlayStep). Takes P i s.process (d.locals s.process) u)
      (ap (steps_by s.process) (sym e) ∙ steps_with s.process pre s ss refl) (takes s.process l)))

  abbrev after_step : PlayStep → Configuration L V → Configuration L V
  after_step s c = moved t c s.process
      (λ r. with_response (c.locals s.process) (P.action s.process (c.locals s.process)) r)
      i s.operation

  local_moved : (pre : List PlayStep) (s : PlayStep) (c : Configuration L V) → IsBehind pre c
      → IsStepAt (t i) n (c.objects i) s
      → (after_step s c).locals s.process
      ≡ local_behind P s.process (d.locals s.process) (steps_by s.process (pre ++ s ∷ []))
  local_moved pre s c b h = put-same c.locals s.process _
      ∙ (ap (λ r. with_response (c.locals s.process) (P.action s.process (c.locals s.process)) r)
      h.response
      ∙ (ap (λ (x : L). with_response x (P.action s.process x) s.response) (b.locals s.process)
      ∙ (sym (local_with P s.process (d.locals s.process) (steps_by s.process pre) s)
      ∙ ap (local_behind P s.process (d.locals s.process))
      (sym (steps_with s.process pre s [] refl)))))

  performed : (pre : List PlayStep) (s : PlayStep) (c : Configuration L V) → IsBehind pre c
      → IsStepAt (t i) n (c.objects i) s → IsBehind (pre ++ s ∷ []) (after_step s c)
  performed pre s c b h = record {
    locals = λ j. elim (cases_eq j s.process) [
      | inl e ↦ subst (λ (k : ℕ). (after_step s c).locals k
          ≡ local_behind P k (d.locals k) (steps_by k (pre ++ s ∷ []))) (sym e)
          (local_moved pre s c b h)
      | inr m ↦ put-other c.locals s.process _ j m ∙ (b.locals j
          ∙ ap (local_behind P j (d.locals j)) (sym (steps_without j pre s (λ e. m (sym e)))))
    ];
    registers = b.registers;
    objects = λ k m. put-other c.objects i _ k m ∙ b.objects k m;
  }

  pub record IsAlong (q : ℕ) (ss : List PlayStep) (c : Configuration L V) : Type 0 where
    pub behind : IsBehind run (after t P c (schedule_of ss))
    pub states : states_along t P i c (schedule_of ss) ≡ map (λ s. s.state) ss
    pub object : (after t P c (schedule_of ss)).objects i ≡ last_of q ss

  along : (pre ss : List PlayStep) (c : Configuration L V) → IsBehind pre c → (q : ℕ)
      → c.objects i ≡ q → IsRunAt (t i) n q ss → pre ++ ss ≡ run → IsAlong q ss c
  along pre [] c b q o r e = record {
    behind = subst (λ (l : List PlayStep). IsBehind l c) (sym (append-nil pre) ∙ e) b;
    states = refl;
    object = o;
  }
  along pre (s ∷ ss) c b q o r e = with_step
      (along (pre ++ s ∷ []) ss (step t P c s.process)
      (subst (λ (x : Configuration L V). IsBehind (pre ++ s ∷ []) x) (sym same)
      (performed pre s c b at)) s.state left r.1 (append_assoc pre (s ∷ []) ss ∙ e))
    where
      at : IsStepAt (t i) n (c.objects i) s
      at = subst (λ (x : ℕ). IsStepAt (t i) n x s) (sym o) r.0

      same : step t P c s.process ≡ after_step s c
      same = effect t i s.operation s.process c (c.locals s.process)
          (P.action s.process (c.locals s.process)) (applies pre s ss c b at.process e)

      left : (step t P c s.process).objects i ≡ s.state
      left = ap (λ (x : Configuration L V). x.objects i) same
          ∙ (put-same c.objects i _ ∙ at.state)

      with_step : IsAlong s.state ss (step t P c s.process) → IsAlong q (s ∷ ss) c
      with_step next = record {
        behind = next.behind;
        states = ap (λ x. x ∷ states_along t P i (step t P c s.process) (schedule_of ss)) left
            ∙ ap (λ l. s.state ∷ l) next.states;
        object = next.object;
      }

  pub along_run : IsRunAt (t i) n (d.objects i) run → IsAlong (d.objects i) run d
  along_run r = along [] run d (record {
    locals = λ j. refl;
    registers = λ k. refl;
    objects = λ k m. refl;
  }) (d.objects i) refl r refl
