-- Two runs that are told of a choice look the same, and some protocol takes the steps of both.
use Rattle.std.proofs.Common.{◌≡◌, ℕ, ◌<◌, inl, inr, List, [], ◌∷◌, ◌++◌, refl, sym, ap, ◌∙◌, subst}
use Rattle.std.proofs.Common.{Bool, true, false, cond, nat_eq, Option, Some, None, map, length}
use Rattle.std.proofs.Common.{replicate, slice_index}
use Rattle.std.specs.List.{AllByRecursion}
use Rattle.std.proofs.lemmas.Bool.{eq-eqb, ne_eqb, cases_eq}
use Rattle.std.proofs.lemmas.List.{append-nil, append_assoc, map-append}
use Rattle.std.proofs.lemmas.List.Elements.{All-get_or}
use Rattle.cn_table.specs.TypeTable.{TypeTable}
use Rattle.cn_choice.specs.RawChoices.{RawChoice, IsRawChoice}
use Rattle.cn_reasons.specs.declared.runs.Step.{Step}
use Rattle.cn_unread_reasons.specs.declared.play.PlayEnd.{PlayEnd}
use Rattle.cn_unread_reasons.specs.Plays.{AreRunsTo, AreSame, BeginWith, GoAlong, IsRunFrom}
use Rattle.cn_unread_reasons.specs.Plays.{state_left, steps_by as told_steps_by}
use Rattle.cn_consensus.specs.Protocol.{Action, Protocol, IsActionOf, IsProtocolOf}
use Rattle.cn_consensus.specs.Protocol.Action.{ApplyOperation}
use Rattle.cn_consensus.specs.Configuration.{Configuration, after, decision, initial}
use Rattle.cn_consensus.specs.Consensus.{IsSchedule}
use Rattle.cn_consensus.specs.Types.{all_of}
use Rattle.cn_consensus.proofs.Alike.{Alike, after-append, alike_alone, alike_decided}
use Rattle.cn_runs.specs.Plays.{PlayStep, steps_by, schedule_of}
use Rattle.cn_runs.specs.Plays.{operation_behind, first_of, next_operation, applying, play_protocol}
use Rattle.cn_play_laws.specs.ToldRuns.{numbers_of, two_runs_to, Applies, Takes, TakeBoth}
use Rattle.cn_play_laws.specs.ToldRuns.{with_response, DecidesTheSame, KeepsResponses, LooksTheSame}
use Rattle.cn_play_laws.proofs.Made.{IsRunAt, last_of, IsAlong, along_run, local_behind}

abbrev responses : List PlayStep → List ℕ
responses steps = map (λ s. s.response) steps

-- ---- the operation behind some steps

behind : (xs : List PlayStep) (s : PlayStep) (ys : List PlayStep)
    → operation_behind (xs ++ s ∷ ys) (responses xs) ≡ Some s.operation
behind [] s ys = refl
behind (x ∷ xs) s ys = rw (eq-eqb x.response x.response refl) (behind xs s ys)

-- both lists go on with one operation as long as their steps get the same
abbrev Along : List PlayStep → List PlayStep → Type 0
Along [] ys = Unit {0}
Along (x ∷ xs) [] = Unit {0}
Along (x ∷ xs) (y ∷ ys) = (x.operation ≡ y.operation) × (x.response ≡ y.response → Along xs ys)

agrees : (us xs : List PlayStep) (s : PlayStep) (ys : List PlayStep) (o : ℕ)
    → Along us (xs ++ s ∷ ys) → operation_behind us (responses xs) ≡ Some o → o ≡ s.operation
agrees [] xs s ys o a e = absurd (cc e)
agrees (x ∷ us) [] s ys o a e = sym (cc e) ∙ a.0
agrees (x ∷ us) (y ∷ xs) s ys o a e = elim (cases_eq x.response y.response) [
  | inl d ↦ agrees us xs s ys o (a.1 d) (sym (ap (λ v. cond v (operation_behind us (responses xs))
      None) (eq-eqb x.response y.response d)) ∙ e)
  | inr n ↦ absurd (none (sym (ap (λ v. cond v (operation_behind us (responses xs)) None)
      (ne_eqb x.response y.response n)) ∙ e))
]
  where
    none : None ≡ Some o → ⊥
    none d = absurd (cc d)

-- ---- what is told, in numbers

steps_told : (j : ℕ) (run : List Step)
    → steps_by j (map numbers_of run) ≡ map numbers_of (told_steps_by j run)
steps_told j [] = refl
steps_told j (s ∷ ss) = by_test (steps_told j ss) (nat_eq s.process j)
  where
    by_test : steps_by j (map numbers_of ss) ≡ map numbers_of (told_steps_by j ss) → (b : Bool)
        → cond b (numbers_of s ∷ steps_by j (map numbers_of ss)) (steps_by j (map numbers_of ss))
        ≡ map numbers_of (cond b (s ∷ told_steps_by j ss) (told_steps_by j ss))
    by_test h true = ap (λ l. numbers_of s ∷ l) h
    by_test h false = h

begins : (o : ℕ) (steps : List Step) (s : PlayStep) (ys : List PlayStep) → BeginWith o steps
    → map numbers_of steps ≡ s ∷ ys → s.operation ≡ o
begins o [] s ys g e = absurd (cc e)
begins o (x ∷ xs) s ys g e = ap (λ (u : PlayStep). u.operation) (first e) ∙ g
  where
    first : numbers_of x ∷ map numbers_of xs ≡ s ∷ ys → s ≡ numbers_of x
    first d = sym (cc d)

along_told : (us vs : List Step) → GoAlong us vs → Along (map numbers_of us) (map numbers_of vs)
along_told [] vs g = tt
along_told (x ∷ xs) [] g = tt
along_told (x ∷ xs) (y ∷ ys) g = (g.0, λ d. along_told xs ys (g.1 d))

same_locals : {L V : Type 0} (P : Protocol L V) (j : ℕ) (l : L) (us vs : List Step) → AreSame us vs
    → local_behind P j l (map numbers_of us) ≡ local_behind P j l (map numbers_of vs)
same_locals P j l [] [] h = refl
same_locals P j l [] (y ∷ ys) h = absurd h
same_locals P j l (x ∷ xs) [] h = absurd h
same_locals P j l (x ∷ xs) (y ∷ ys) h = ap (λ r. local_behind P j (with_response l (P.action j l) r)
    (map numbers_of xs)) h.1
    ∙ same_locals P j (with_response l (P.action j l) y.response.0) xs ys h.2

run_told : (t : TypeTable) (n q : ℕ) (run : List Step) → IsRunFrom t n q run
    → IsRunAt t n q (map numbers_of run)
run_told t n q [] r = tt
run_told t n q (s ∷ ss) r = (
  record {
    process = r.0.process;
    response = r.0.response;
    state = r.0.state;
  },
  run_told t n s.state.0 ss r.1,
)

left_told : (q : ℕ) (run : List Step) → last_of q (map numbers_of run) ≡ state_left q run
left_told q [] = refl
left_told q (s ∷ ss) = left_told s.state.0 ss

schedule_told : (t : TypeTable) (n q : ℕ) (run : List Step) → IsRunFrom t n q run
    → IsSchedule n (schedule_of (map numbers_of run))
schedule_told t n q [] r = tt
schedule_told t n q (s ∷ ss) r = (r.0.process, schedule_told t n s.state.0 ss r.1)

-- ---- two told runs look the same to a protocol that takes their steps

module _ {L V : Type 0} (t : ℕ → TypeTable) (P : Protocol L V) (i : ℕ) (d : Configuration L V)
    (c : RawChoice) (a b : List Step) (end : PlayEnd) (h : AreRunsTo (t i) c a b end)
    (o : d.objects i ≡ c.state) (k : TakeBoth P i d (two_runs_to c a b end)) where
  run_at : (run : List Step) → IsRunFrom (t i) (length c.operations) c.state run
      → IsRunAt (t i) (length c.operations) (d.objects i) (map numbers_of run)
  run_at run r = subst (λ (q : ℕ). IsRunAt (t i) (length c.operations) q (map numbers_of run))
      (sym o) (run_told (t i) (length c.operations) c.state run r)

  a_along : IsAlong t P i (length c.operations) d (map numbers_of a) k.a_first (d.objects i)
      (map numbers_of a) d
  a_along = along_run t P i (length c.operations) d (map numbers_of a) k.a_first (run_at a h.a_run)

  b_along : IsAlong t P i (length c.operations) d (map numbers_of b) k.b_first (d.objects i)
      (map numbers_of b) d
  b_along = along_run t P i (length c.operations) d (map numbers_of b) k.b_first (run_at b h.b_run)

  left_at : (run : List Step) → last_of (d.objects i) (map numbers_of run) ≡ state_left c.state run
  left_at run = ap (λ q. last_of q (map numbers_of run)) o ∙ left_told c.state run

  ends_alike : Alike end.process (after t P d (schedule_of (map numbers_of a)))
      (after t P d (schedule_of (map numbers_of b)))
  ends_alike = record {
    local = a_along.behind.locals end.process
        ∙ (ap (local_behind P end.process (d.locals end.process)) (steps_told end.process a)
        ∙ (same_locals P end.process (d.locals end.process) (told_steps_by end.process a)
        (told_steps_by end.process b) h.same
        ∙ (ap (local_behind P end.process (d.locals end.process)) (sym (steps_told end.process b))
        ∙ sym (b_along.behind.locals end.process))));
    registers = λ r. a_along.behind.registers r ∙ sym (b_along.behind.registers r);
    objects = λ x. elim (cases_eq x i) [
      | inl e ↦ subst (λ (y : ℕ). (after t P d (schedule_of (map numbers_of a))).objects y
          ≡ (after t P d (schedule_of (map numbers_of b))).objects y) (sym e)
          (a_along.object ∙ (left_at a ∙ (h.a_left ∙ (sym h.b_left
          ∙ (sym (left_at b) ∙ sym b_along.object)))))
      | inr n ↦ a_along.behind.objects x n ∙ sym (b_along.behind.objects x n)
    ];
  }

  decides : (steps : ℕ) → DecidesTheSame t P d (two_runs_to c a b end) steps
  decides steps =
      ap (λ (x : Configuration L V). decision P x end.process)
      (after-append t P d (schedule_of (map numbers_of a)) (replicate steps end.process))
      ∙ (alike_decided t P end.process _ _ (alike_alone t P end.process steps _ _ ends_alike)
      ∙ ap (λ (x : Configuration L V). decision P x end.process)
      (sym (after-append t P d (schedule_of (map numbers_of b))
      (replicate steps end.process))))

  pub looks_the_same : LooksTheSame t P i d (two_runs_to c a b end)
  looks_the_same = record {
    a_first = record {
      schedule = schedule_told (t i) (length c.operations) c.state a h.a_run;
      states = a_along.states;
    };
    b_first = record {
      schedule = schedule_told (t i) (length c.operations) c.state b h.b_run;
      states = b_along.states;
    };
    same = decides;
  }

-- ---- the protocol of two told runs takes their steps

module _ (t : TypeTable) (c : RawChoice) (a b : List Step) (end : PlayEnd)
    (h : AreRunsTo t c a b end) where
  a_goes_on : (j : ℕ) (xs : List PlayStep) (s : PlayStep) (ys : List PlayStep)
      → j < length c.operations → steps_by j (map numbers_of a) ≡ xs ++ s ∷ ys
      → next_operation (two_runs_to c a b end) j (responses xs) ≡ Some s.operation
  a_goes_on j [] s ys l e = ap Some (sym (begins (slice_index c.operations j) (told_steps_by j a)
      s ys (h.along j l).a_begin (sym (steps_told j a) ∙ e)))
  a_goes_on j (x ∷ xs) s ys l e = ap (λ v. first_of v (operation_behind
      (steps_by j (map numbers_of b)) (responses (x ∷ xs))))
      (ap (λ us. operation_behind us (responses (x ∷ xs))) e ∙ behind (x ∷ xs) s ys)

  b_goes_on : (j : ℕ) (xs : List PlayStep) (s : PlayStep) (ys : List PlayStep)
      → j < length c.operations → steps_by j (map numbers_of b) ≡ xs ++ s ∷ ys
      → next_operation (two_runs_to c a b end) j (responses xs) ≡ Some s.operation
  b_goes_on j [] s ys l e = ap Some (sym (begins (slice_index c.operations j) (told_steps_by j b)
      s ys (h.along j l).b_begin (sym (steps_told j b) ∙ e)))
  b_goes_on j (x ∷ xs) s ys l e =
      by_value (operation_behind (steps_by j (map numbers_of a)) (responses (x ∷ xs))) refl
    where
      both : Along (steps_by j (map numbers_of a)) ((x ∷ xs) ++ s ∷ ys)
      both = subst (λ (vs : List PlayStep). Along (steps_by j (map numbers_of a)) vs)
          (sym (steps_told j b) ∙ e)
          (subst (λ (us : List PlayStep). Along us (map numbers_of (told_steps_by j b)))
          (sym (steps_told j a))
          (along_told (told_steps_by j a) (told_steps_by j b) (h.along j l).along))

      by_value : (v : Option ℕ)
          → operation_behind (steps_by j (map numbers_of a)) (responses (x ∷ xs)) ≡ v
          → first_of v (operation_behind (steps_by j (map numbers_of b)) (responses (x ∷ xs)))
          ≡ Some s.operation
      by_value None d =
          ap (λ us. operation_behind us (responses (x ∷ xs))) e ∙ behind (x ∷ xs) s ys
      by_value (Some o) d = ap Some
          (agrees (steps_by j (map numbers_of a)) (x ∷ xs) s ys o both d)

  module _ {V : Type 0} (held : ℕ → V) (rest : ℕ → List ℕ → Action (List ℕ) V)
      (inputs : ℕ → Bool) where
    abbrev P : Protocol (List ℕ) V
    P = play_protocol held rest (two_runs_to c a b end)

    -- from the responses to some of its steps, the process takes the others, and keeps theirs
    goes_on : (run : List PlayStep)
        → ((j : ℕ) (xs : List PlayStep) (s : PlayStep) (ys : List PlayStep)
        → j < length c.operations → steps_by j run ≡ xs ++ s ∷ ys
        → next_operation (two_runs_to c a b end) j (responses xs) ≡ Some s.operation)
        → (j : ℕ) (xs ys : List PlayStep) → j < length c.operations → steps_by j run ≡ xs ++ ys
        → Takes P 0 j (responses xs) ys
        × (local_behind P j (responses xs) ys ≡ responses (xs ++ ys))
    goes_on run n j xs [] l e = (tt, ap responses (sym (append-nil xs)))
    goes_on run n j xs (s ∷ ys) l e = with_step
        (goes_on run n j (xs ++ s ∷ []) ys l (e ∙ sym (append_assoc xs (s ∷ []) ys)))
      where
        action : P.action j (responses xs)
            ≡ ApplyOperation 0 s.operation (λ r. responses xs ++ r ∷ [])
        action = ap (λ v. applying (responses xs) v (rest j (responses xs))) (n j xs s ys l e)

        applied : Applies 0 s.operation (P.action j (responses xs))
        applied = subst (λ (x : Action (List ℕ) V). Applies 0 s.operation x) (sym action)
            (refl, refl)

        next : with_response (responses xs) (P.action j (responses xs)) s.response
            ≡ responses (xs ++ s ∷ [])
        next = ap (λ (x : Action (List ℕ) V). with_response (responses xs) x s.response) action
            ∙ sym (map-append (λ (u : PlayStep). u.response) xs (s ∷ []))

        with_step : Takes P 0 j (responses (xs ++ s ∷ [])) ys
            × (local_behind P j (responses (xs ++ s ∷ [])) ys
            ≡ responses ((xs ++ s ∷ []) ++ ys))
            → Takes P 0 j (responses xs) (s ∷ ys)
            × (local_behind P j (responses xs) (s ∷ ys) ≡ responses (xs ++ s ∷ ys))
        with_step g = (
          (applied, subst (λ (x : List ℕ). Takes P 0 j x ys) (sym next) g.0),
          ap (λ x. local_behind P j x ys) next
              ∙ (g.1 ∙ ap responses (append_assoc xs (s ∷ []) ys)),
        )

    pub take_both : TakeBoth (play_protocol held rest (two_runs_to c a b end)) 0
        (initial (play_protocol held rest (two_runs_to c a b end)) inputs) (two_runs_to c a b end)
    take_both = record {
      a_first = λ j l.
          (goes_on (map numbers_of a) a_goes_on j [] (steps_by j (map numbers_of a)) l refl).0;
      b_first = λ j l.
          (goes_on (map numbers_of b) b_goes_on j [] (steps_by j (map numbers_of b)) l refl).0;
    }

    pub a_kept : KeepsResponses (all_of t) (play_protocol held rest (two_runs_to c a b end))
        (length c.operations)
        (initial (play_protocol held rest (two_runs_to c a b end)) inputs) (map numbers_of a)
    a_kept j l = (a_along (all_of t) P 0 (initial P inputs) c a b end h refl take_both).behind.locals j
        ∙ (goes_on (map numbers_of a) a_goes_on j [] (steps_by j (map numbers_of a)) l refl).1

    pub b_kept : KeepsResponses (all_of t) (play_protocol held rest (two_runs_to c a b end))
        (length c.operations)
        (initial (play_protocol held rest (two_runs_to c a b end)) inputs) (map numbers_of b)
    b_kept j l = (b_along (all_of t) P 0 (initial P inputs) c a b end h refl take_both).behind.locals j
        ∙ (goes_on (map numbers_of b) b_goes_on j [] (steps_by j (map numbers_of b)) l refl).1

-- ---- the protocol applies operations of the type alone

behind_known : (n : ℕ) (steps : List PlayStep) (got : List ℕ) (o : ℕ)
    → AllByRecursion (λ s. s.operation < n) steps → operation_behind steps got ≡ Some o → o < n
behind_known n [] got o k e = absurd (cc e)
behind_known n (s ∷ ss) [] o k e = subst (λ (x : ℕ). x < n) (cc e) k.0
behind_known n (s ∷ ss) (r ∷ got) o k e = by_test (nat_eq s.response r) e (behind_known n ss got o k.1)
  where
    by_test : (b : Bool) → cond b (operation_behind ss got) None ≡ Some o
        → (operation_behind ss got ≡ Some o → o < n) → o < n
    by_test true d f = f d
    by_test false d f = absurd (cc d)

steps_known : (t : TypeTable) (n q j : ℕ) (run : List Step) → IsRunFrom t n q run
    → AllByRecursion (λ s. s.operation < length t.operations) (steps_by j (map numbers_of run))
steps_known t n q j [] r = tt
steps_known t n q j (s ∷ ss) r =
    by_test (nat_eq s.process j) (steps_known t n s.state.0 j ss r.1)
  where
    by_test : (b : Bool) → AllByRecursion (λ s. s.operation < length t.operations)
        (steps_by j (map numbers_of ss))
        → AllByRecursion (λ s. s.operation < length t.operations)
        (cond b (numbers_of s ∷ steps_by j (map numbers_of ss))
        (steps_by j (map numbers_of ss)))
    by_test true k = (r.0.operation, k)
    by_test false k = k

applying_known : {V : Type 0} (t : TypeTable) (got : List ℕ) (v : Option ℕ)
    (rest : Action (List ℕ) V) → ((o : ℕ) → v ≡ Some o → o < length t.operations)
    → IsActionOf (all_of t) rest → IsActionOf (all_of t) (applying got v rest)
applying_known t got None rest k r = r
applying_known t got (Some o) rest k r = k o refl

module _ (t : TypeTable) (c : RawChoice) (a b : List Step) (end : PlayEnd)
    (h : AreRunsTo t c a b end) (k : IsRawChoice t (length c.operations) c) where
  next_known : (j : ℕ) (got : List ℕ) (o : ℕ) → j < length c.operations
      → next_operation (two_runs_to c a b end) j got ≡ Some o → o < length t.operations
  next_known j [] o l e = subst (λ (x : ℕ). x < length t.operations) (cc e)
      (All-get_or (λ x. x < length t.operations) c.operations j 0 l k.operations_known)
  next_known j (r ∷ got) o l e =
      by_value (operation_behind (steps_by j (map numbers_of a)) (r ∷ got)) refl e
    where
      by_value : (v : Option ℕ) → operation_behind (steps_by j (map numbers_of a)) (r ∷ got) ≡ v
          → first_of v (operation_behind (steps_by j (map numbers_of b)) (r ∷ got)) ≡ Some o
          → o < length t.operations
      by_value None d e = behind_known (length t.operations) (steps_by j (map numbers_of b))
          (r ∷ got) o (steps_known t (length c.operations) c.state j b h.b_run) e
      by_value (Some x) d e = behind_known (length t.operations) (steps_by j (map numbers_of a))
          (r ∷ got) o (steps_known t (length c.operations) c.state j a h.a_run) (d ∙ e)

  pub is_protocol : {V : Type 0} (held : ℕ → V) (rest : ℕ → List ℕ → Action (List ℕ) V)
      → ((j : ℕ) (got : List ℕ) → IsActionOf (all_of t) (rest j got))
      → IsProtocolOf (all_of t) (length c.operations)
      (play_protocol held rest (two_runs_to c a b end))
  is_protocol held rest r = record {
    states_known = λ i. k.state_known;
    operations_known = λ j got l. applying_known t got
        (next_operation (two_runs_to c a b end) j got) (rest j got)
        (λ o e. next_known j got o l e) (r j got);
  }
