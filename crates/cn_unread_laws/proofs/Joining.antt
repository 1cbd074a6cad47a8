-- Two groups that agree, and a node: they agree as one group.
use Rattle.std.proofs.Common.{◌≡◌, ◌≢◌, ℕ, zero, suc, length, ◌+◌, ◌<◌, ◌≤◌, ◌⊎◌, inl, inr, List, [], ◌∷◌, ◌++◌}
use Rattle.std.proofs.Common.{refl, sym, ap, ◌∙◌, subst, arith, Bool, Option, Some, None}
use Rattle.std.proofs.lemmas.Bool.{cases_eq, cases_lt}
use Rattle.cn_table.specs.TypeTable.{TypeTable, transition}
use Rattle.cn_choice.specs.declared.team.Team.{Team}
use Rattle.cn_choice.specs.declared.team.Team.TheVariants.{A, B}
use Rattle.cn_consensus.specs.Configuration.{Configuration, after, decided_by, decision, initial}
use Rattle.cn_consensus.specs.Configuration.{perform, put, step}
use Rattle.cn_consensus.specs.Consensus.{HasDecided, IsSchedule, occurrences}
use Rattle.cn_consensus.specs.Protocol.{Action, IsActionOf, IsProtocolOf, Protocol}
use Rattle.cn_consensus.specs.Protocol.Action.{Decide, ReadRegister, WriteRegister, ApplyOperation}
use Rattle.cn_consensus.specs.Protocol.Action.{ReadObject}
use Rattle.cn_consensus.specs.Types.{all_of}
use Rattle.cn_consensus.proofs.Alike.{after-append, others_performed, put-other, put-same}
use Rattle.cn_consensus.proofs.Alike.{stays_by_step}
use Rattle.cn_consensus.proofs.Counting.{occurrences-append, occurrences_other, occurrences_own}
use Rattle.cn_consensus.proofs.Counting.{schedule-append}
use Rattle.cn_proto.specs.Tournament.{team_of}
use Rattle.cn_unread_laws.specs.Reads.{IsWithoutReads, ReadsNoObject}
use Rattle.cn_unread_laws.proofs.Groups.{IsGroupConsensus, IsSeating, Loc, at_node, inside, leave}
use Rattle.cn_unread_laws.proofs.Groups.{with_node, action_with_node, one_before, raised, register_of}
use Rattle.cn_unread_laws.proofs.Groups.Loc.{Input, Lower, Inside, Result}
use Rattle.cn_unread.specs.Nodes.{BeganIn, IsMoveOf, IsNode, Move, Node, Scene, moved, scene_after}
use Rattle.cn_unread.specs.Nodes.Move.{Apply, Finish}
use Rattle.cn_unread_laws.proofs.Below.{Below, carried, first_two}

some_same : {X : Type 0} {x y : X} → Some x ≡ Some y → x ≡ y
some_same e = cc e

none_some : {X : Type 0} {x : X} → None ≡ Some x → ⊥
none_some e = cc e

same_register : (y z : Team) → register_of y ≡ register_of z → y ≡ z
same_register A A e = refl
same_register A B e = absurd (omega (arith, e))
same_register B A e = absurd (omega (arith, e))
same_register B B e = refl

pub began_later : (team : ℕ → Team) (side : Team) (j : ℕ) (s : List ℕ) → BeganIn team side s
    → BeganIn team side (j ∷ s)
began_later team side j [] h = absurd h
began_later team side j (k ∷ s) h = h

began_once : (team : ℕ → Team) (y z : Team) (s : List ℕ) → BeganIn team y s → BeganIn team z s
    → y ≡ z
began_once team y z [] h k = absurd h
began_once team y z (i ∷ []) h k = sym h ∙ k
began_once team y z (i ∷ j ∷ s) h k = began_once team y z (j ∷ s) h k

pub one_more : (p : ℕ) (u : List ℕ) → occurrences (p ∷ u) p ≡ 1 + occurrences u p
one_more p u = omega (arith, occurrences-append (p ∷ []) u p, occurrences_own p)

-- the rest of the schedule, the schedules so far below and at the node, and the configurations
record Moment : Type 0 where
  pub rest : List ℕ
  pub lower : List ℕ
  pub roles : List ℕ
  pub under : Configuration Loc (Option Bool)
  pub over : Configuration Loc (Option Bool)

module _ (t : TypeTable) (a b : ℕ) (node : Node) (is : IsNode t a b node) (n : ℕ) (g h : ℕ → ℕ)
    (seat : ℕ → Option ℕ) (P : Protocol Loc (Option Bool)) (con : IsGroupConsensus (all_of t) n g P)
    (seats : IsSeating (a + b) (team_of a) g h seat) where
  abbrev Conf : Type 0
  Conf = Configuration Loc (Option Bool)

  abbrev team : ℕ → Team
  team = team_of a

  abbrev Q : Protocol Loc (Option Bool)
  Q = with_node node team seat P

  -- a process with a seat in the team has decided x below
  abbrev Backs : Conf → Team → Bool → Type 0
  Backs d side x = (q : ℕ) × (q < n) × (j : ℕ) × (seat q ≡ Some j) × (team j ≡ side)
      × (decision P d q ≡ Some x)

  abbrev Written : Conf → Conf → Team → Type 0
  Written d e side = (x : Bool) × (e.registers (register_of side) ≡ Some x) × Backs d side x

  module _ (inputs : ℕ → Bool) (full : List ℕ) where
    abbrev limit : ℕ
    limit = (con.wait_freedom inputs).0

    abbrev Standing : Moment → ℕ → Loc → Type 0
    Standing m p (Input x) = ⊥
    Standing m p (Lower l) = (m.under.locals p ≡ l)
        × (occurrences full p ≤ occurrences m.lower p + occurrences m.rest p)
        × ((j : ℕ) → seat p ≡ Some j → ((scene_after t node m.roles).kept j ≡ node.start j)
        × (occurrences m.roles j ≡ 0) × (occurrences full p ≤ limit + occurrences m.rest p))
    Standing m p (Inside x) = (j : ℕ) × (seat p ≡ Some j)
        × ((scene_after t node m.roles).kept j ≡ x) × Written m.under m.over (team j)
        × (occurrences m.roles j ≤ is.bound)
        × (occurrences full p ≤ limit + 1 + occurrences m.roles j + occurrences m.rest p)
    Standing m p (Result None) = ⊥
    Standing m p (Result (Some x)) = (j : ℕ) × (seat p ≡ Some j) × (side : Team)
        × BeganIn team side m.roles × Backs m.under side x

    record Stands (m : Moment) : Type 0 where
      pub lower_schedule : IsSchedule n m.lower
      pub node_schedule : IsSchedule (a + b) m.roles
      pub reached : after (all_of t) P (initial P inputs) m.lower ≡ m.under
      pub below : Below m.under m.over
      pub object : m.over.objects 0 ≡ (scene_after t node m.roles).object
      pub each : (p : ℕ) → p < n → Standing m p (m.over.locals p)
      pub begun : (side : Team) → BeganIn team side m.roles → Written m.under m.over side

    -- what does not change for a process when another takes a step
    record Keeps (m k : Moment) (q : ℕ) : Type 0 where
      pub local : k.under.locals q ≡ m.under.locals q
      pub lower : occurrences k.lower q ≡ occurrences m.lower q
      pub rest : occurrences k.rest q ≡ occurrences m.rest q
      pub scene : (j : ℕ) → seat q ≡ Some j
          → ((scene_after t node k.roles).kept j ≡ (scene_after t node m.roles).kept j)
          × (occurrences k.roles j ≡ occurrences m.roles j)
      pub written : (side : Team) → Written m.under m.over side → Written k.under k.over side
      pub began : (side : Team) → BeganIn team side m.roles → BeganIn team side k.roles
      pub backs : (side : Team) (x : Bool) → Backs m.under side x → Backs k.under side x

    kept_standing : (m k : Moment) (q : ℕ) → Keeps m k q → (l : Loc) → Standing m q l
        → Standing k q l
    kept_standing m k q z (Input x) s = s
    kept_standing m k q z (Lower l) s = (
      z.local ∙ s.0,
      omega (arith, s.1, z.lower, z.rest),
      λ j f. (let o = s.2 j f in let c = z.scene j f in
          (c.0 ∙ o.0, c.1 ∙ o.1, omega (arith, o.2, z.rest))),
    )
    kept_standing m k q z (Inside x) s =
        let c = z.scene s.0 s.1 in (
          s.0,
          s.1,
          c.0 ∙ s.2,
          z.written (team s.0) s.3,
          omega (arith, s.4, c.1),
          omega (arith, s.5, c.1, z.rest),
        )
    kept_standing m k q z (Result None) s = s
    kept_standing m k q z (Result (Some x)) s =
        (s.0, s.1, s.2, z.began s.2 s.3, z.backs s.2 x s.4)

    all_stand : (m k : Moment) (p : ℕ) → ((q : ℕ) → q < n → Standing m q (m.over.locals q))
        → ((q : ℕ) → q ≢ p → Keeps m k q)
        → ((q : ℕ) → q ≢ p → k.over.locals q ≡ m.over.locals q)
        → Standing k p (k.over.locals p) → (q : ℕ) → q < n → Standing k q (k.over.locals q)
    all_stand m k p each keeps others own q l = elim (cases_eq q p) [
      | inl s ↦ subst (λ (z : ℕ). Standing k z (k.over.locals z)) (sym s) own
      | inr c ↦ subst (Standing k q) (sym (others q c))
          (kept_standing m k q (keeps q c) (m.over.locals q) (each q l))
    ]

    lower_decided : (m : Moment) → Stands m → (p : ℕ) → p < n → limit ≤ occurrences m.lower p
        → (x : Bool) × (decision P m.under p ≡ Some x)
    lower_decided m s p l often =
        let w = (con.wait_freedom inputs).1 m.lower s.lower_schedule p l often in
        (w.0, subst (λ (d : Conf). decision P d p ≡ Some w.0) s.reached w.1)

    -- it stands after the step
    abbrev Goes : List ℕ → Conf → Type 0
    Goes u f = (s : List ℕ) × (r : List ℕ) × (d : Conf) × Stands (record {
      rest = u;
      lower = s;
      roles = r;
      under = d;
      over = f;
    })

    module _ (p : ℕ) (lp : p < n) (u s1 s2 : List ℕ) (d e : Conf) where
      abbrev m : Moment
      m = record { rest = p ∷ u; lower = s1; roles = s2; under = d; over = e }

      other_rest : (q : ℕ) → q ≢ p → occurrences u q ≡ occurrences (p ∷ u) q
      other_rest q c = sym (occurrences_other p u q (λ f. c (sym f)))

      own_rest : occurrences (p ∷ u) p ≡ 1 + occurrences u p
      own_rest = one_more p u

      longer : List ℕ
      longer = s1 ++ p ∷ []

      module _ (st : Stands m) where
        -- a step below
        module _ (l : Loc) (at : d.locals p ≡ l) (over_at : e.locals p ≡ Lower l)
            (few : occurrences full p ≤ occurrences s1 p + occurrences (p ∷ u) p)
            (old : (j : ℕ) → seat p ≡ Some j
            → ((scene_after t node s2).kept j ≡ node.start j)
            × (occurrences s2 j ≡ 0) × (occurrences full p ≤ limit + occurrences (p ∷ u) p))
            (c : Action Loc (Option Bool)) (acts : P.action p l ≡ c) where
          abbrev under_now : Conf
          under_now = perform (all_of t) d p c

          is_step : step (all_of t) P d p ≡ under_now
          is_step = ap (perform (all_of t) d p) (ap (P.action p) at ∙ acts)

          reached_now : after (all_of t) P (initial P inputs) (s1 ++ p ∷ []) ≡ under_now
          reached_now = after-append (all_of t) P (initial P inputs) s1 (p ∷ [])
              ∙ (ap (λ (z : Conf). step (all_of t) P z p) st.reached ∙ is_step)

          stay : (q : ℕ) (x : Bool) → decision P d q ≡ Some x → decision P under_now q ≡ Some x
          stay q x f = subst (λ (z : Conf). decision P z q ≡ Some x) is_step
              (stays_by_step (all_of t) P q p d x f)

          backs_now : (side : Team) (x : Bool) → Backs d side x → Backs under_now side x
          backs_now side x k = (k.0, k.1, k.2, k.3, k.4, stay k.0 x k.5)

          undecided_few : decided_by c ≡ None → occurrences s1 p < limit
          undecided_few f = elim (cases_lt (occurrences s1 p) limit) [
            | inl less ↦ less
            | inr often ↦ absurd (let w = lower_decided m st p lp often in
                none_some (sym (ap decided_by (ap (P.action p) at ∙ acts) ∙ f) ∙ w.1))
          ]

          count_now : occurrences (s1 ++ p ∷ []) p ≡ occurrences s1 p + 1
          count_now = omega (arith, occurrences-append s1 (p ∷ []) p, occurrences_own p)

          count_other : (q : ℕ) → q ≢ p → occurrences (s1 ++ p ∷ []) q ≡ occurrences s1 q
          count_other q z = omega (
            arith,
            occurrences-append s1 (p ∷ []) q,
            occurrences_other p [] q (λ f. z (sym f)),
          )

          below_step : decided_by c ≡ None
              → Goes u (perform (all_of t) e p (raised node team (seat p) c))
          below_step f =
              let k = carried t node team (seat p) p d e st.below c f in
              let front = k.front in
              let written : (side : Team) → Written d e side
              → Written under_now (perform (all_of t) e p (raised node team (seat p) c)) side =
              λ side w. (w.0, front side ∙ w.1, backs_now side w.0 w.2) in
              let m2 : Moment = record {
                rest = u;
                lower = s1 ++ p ∷ [];
                roles = s2;
                under = under_now;
                over = perform (all_of t) e p (raised node team (seat p) c);
              } in (
                s1 ++ p ∷ [],
                s2,
                under_now,
                record {
                  lower_schedule = schedule-append n s1 (p ∷ []) st.lower_schedule (lp, tt);
                  node_schedule = st.node_schedule;
                  reached = reached_now;
                  below = k.below;
                  object = k.object ∙ st.object;
                  each = all_stand m m2 p st.each (λ q z. record {
                    local = others_performed (all_of t) P p q d c z;
                    lower = count_other q z;
                    rest = other_rest q z;
                    scene = λ j y. (refl, refl);
                    written = written;
                    began = λ side y. y;
                    backs = backs_now;
                  }) (λ q z. others_performed (all_of t) Q p q e (raised node team (seat p) c) z)
                      (subst (Standing m2 p) (sym k.own) (
                        refl,
                        omega (arith, few, own_rest, count_now),
                        λ j y. (let o = old j y in
                            (o.0, o.1, omega (arith, few, own_rest, undecided_few f))),
                      ));
                  begun = λ side y. written side (st.begun side y);
                },
              )

          -- a process with no seat has decided
          rest_step : (x : Bool) → c ≡ Decide x → seat p ≡ None → Goes u e
          rest_step x f free =
              let same : under_now ≡ d = ap (perform (all_of t) d p) f in
              let m2 : Moment = record {
                rest = u;
                lower = s1 ++ p ∷ [];
                roles = s2;
                under = d;
                over = e;
              } in (
                s1 ++ p ∷ [],
                s2,
                d,
                record {
                  lower_schedule = schedule-append n s1 (p ∷ []) st.lower_schedule (lp, tt);
                  node_schedule = st.node_schedule;
                  reached = reached_now ∙ same;
                  below = st.below;
                  object = st.object;
                  each = all_stand m m2 p st.each (λ q z. record {
                    local = refl;
                    lower = count_other q z;
                    rest = other_rest q z;
                    scene = λ j y. (refl, refl);
                    written = λ side y. y;
                    began = λ side y. y;
                    backs = λ side x y. y;
                  }) (λ q z. refl) (subst (Standing m2 p) (sym over_at) (
                    at,
                    omega (arith, few, own_rest, count_now),
                    λ j y. absurd (none_some (sym free ∙ y)),
                  ));
                  begun = st.begun;
                },
              )

          -- a process with a seat has decided, and writes
          leave_step : (x : Bool) → c ≡ Decide x → (j : ℕ) → seat p ≡ Some j
              → Goes u (perform (all_of t) e p (leave node team (Some j) x))
          leave_step x f j y =
              let o = old j y in
              let backs : Backs d (team j) x = (
                p,
                lp,
                j,
                y,
                refl,
                ap decided_by (ap (P.action p) at ∙ (acts ∙ f)),
              ) in
              let e2 : Conf = perform (all_of t) e p (leave node team (Some j) x) in
              let written : (side : Team) → Written d e side → Written d e2 side = λ side w.
              elim (cases_eq (register_of side) (register_of (team j))) [
                | inl s ↦ subst (Written d e2) (sym (same_register side (team j) s))
                    (x, put-same e.registers (register_of (team j)) (Some x), backs)
                | inr z ↦ (
                  w.0,
                  put-other e.registers (register_of (team j)) (Some x)
                      (register_of side) z ∙ w.1,
                  w.2,
                )
              ] in
              let m2 : Moment = record {
                rest = u;
                lower = s1;
                roles = s2;
                under = d;
                over = perform (all_of t) e p (leave node team (Some j) x);
              } in (
                s1,
                s2,
                d,
                record {
                  lower_schedule = st.lower_schedule;
                  node_schedule = st.node_schedule;
                  reached = st.reached;
                  below = record {
                    registers = λ i. put-other e.registers (register_of (team j)) (Some x)
                        (suc (suc i)) (λ z. first_two (team j) i (sym z)) ∙ st.below.registers i;
                    objects = st.below.objects;
                  };
                  object = st.object;
                  each = all_stand m m2 p st.each (λ q z. record {
                    local = refl;
                    lower = refl;
                    rest = other_rest q z;
                    scene = λ j y. (refl, refl);
                    written = written;
                    began = λ side y. y;
                    backs = λ side x y. y;
                  }) (λ q z. put-other e.locals p _ q z)
                      (subst (Standing m2 p) (sym (put-same e.locals p (Inside (node.start j)))) (
                        j,
                        y,
                        o.0,
                        (x, put-same e.registers (register_of (team j)) (Some x), backs),
                        omega (arith, o.1),
                        omega (arith, o.1, o.2, own_rest),
                      ));
                  begun = λ side y. written side (st.begun side y);
                },
              )

        -- at the node
        module _ (x : ℕ × ℕ) (j : ℕ) (sits : seat p ≡ Some j)
            (at : (scene_after t node s2).kept j ≡ x) (wrote : Written d e (team j))
            (few : occurrences s2 j ≤ is.bound)
            (few_full : occurrences full p
            ≤ limit + 1 + occurrences s2 j + occurrences (p ∷ u) p) where
          apply_step : (o : ℕ) (k : ℕ → ℕ × ℕ) → node.move j x ≡ Apply o k
              → Goes u (perform (all_of t) e p (inside (Apply o k)))
          apply_step o k f =
              let here = ap (node.move j) at ∙ f in
              let scene_is : scene_after t node (j ∷ s2) ≡ record {
                object = (transition t o (scene_after t node s2).object).1;
                kept = put (scene_after t node s2).kept j
                    (k (transition t o (scene_after t node s2).object).0);
              } = ap (moved t (scene_after t node s2) j) here in
              let less : occurrences s2 j < is.bound = unfinished here in
              let began : (side : Team) → BeganIn team side s2 → BeganIn team side (j ∷ s2) =
              λ side y. began_later team side j s2 y in
              let m2 : Moment = record {
                rest = u;
                lower = s1;
                roles = j ∷ s2;
                under = d;
                over = perform (all_of t) e p (inside (Apply o k));
              } in (
                s1,
                j ∷ s2,
                d,
                record {
                  lower_schedule = st.lower_schedule;
                  node_schedule = (seats.below p j sits, st.node_schedule);
                  reached = st.reached;
                  below = record {
                    registers = st.below.registers;
                    objects = λ i. put-other e.objects 0 _ (suc i) (λ z. omega (arith, z))
                        ∙ st.below.objects i;
                  };
                  object = put-same e.objects 0 _
                      ∙ (ap (λ (q : ℕ). (transition t o q).1) st.object
                      ∙ sym (ap (λ (w : Scene). w.object) scene_is));
                  each = all_stand m m2 p st.each (λ q z. record {
                    local = refl;
                    lower = refl;
                    rest = other_rest q z;
                    scene = λ i y. (let apart : i ≢ j = λ v. z (seats.alone q p j
                        (y ∙ ap Some v) sits) in (
                          ap (λ (w : Scene). w.kept i) scene_is
                              ∙ put-other (scene_after t node s2).kept j _ i apart,
                          occurrences_other j s2 i (λ v. apart (sym v)),
                        ));
                    written = λ side y. y;
                    began = began;
                    backs = λ side x y. y;
                  }) (λ q z. put-other e.locals p _ q z)
                      (subst (Standing m2 p) (sym (put-same e.locals p _)) (
                        j,
                        sits,
                        ap (λ (w : Scene). w.kept j) scene_is
                            ∙ (put-same (scene_after t node s2).kept j _
                            ∙ ap (λ (q : ℕ). k (transition t o q).0) (sym st.object)),
                        wrote,
                        omega (arith, less, one_more j s2),
                        omega (arith, few_full, own_rest, one_more j s2),
                      ));
                  begun = λ side y. first_written side s2 st.begun y;
                },
              )
            where
              unfinished : node.move j ((scene_after t node s2).kept j) ≡ Apply o k
                  → occurrences s2 j < is.bound
              unfinished here = elim (cases_lt (occurrences s2 j) is.bound) [
                | inl less ↦ less
                | inr often ↦ absurd (let w = is.ends s2 st.node_schedule j
                    (seats.below p j sits) often in clash (sym here ∙ w.1))
              ]
                where
                  clash : {side : Team} → Apply o k ≡ Finish side → ⊥
                  clash z = cc z

              first_written : (side : Team) (s : List ℕ)
                  → ((side : Team) → BeganIn team side s → Written d e side)
                  → BeganIn team side (j ∷ s) → Written d e side
              first_written side [] begun y = subst (Written d e) y wrote
              first_written side (i ∷ s) begun y = begun side y

          finish_step : (side : Team) → node.move j x ≡ Finish side
              → Goes u (perform (all_of t) e p (inside (Finish side)))
          finish_step side f =
              let began = is.tells_first s2 st.node_schedule j (seats.below p j sits) side
              (ap (node.move j) at ∙ f) in
              let w = st.begun side began in
              let m2 : Moment = record {
                rest = u;
                lower = s1;
                roles = s2;
                under = d;
                over = perform (all_of t) e p (inside (Finish side));
              } in (
                s1,
                s2,
                d,
                record {
                  lower_schedule = st.lower_schedule;
                  node_schedule = st.node_schedule;
                  reached = st.reached;
                  below = record {
                    registers = st.below.registers;
                    objects = st.below.objects;
                  };
                  object = st.object;
                  each = all_stand m m2 p st.each (λ q z. record {
                    local = refl;
                    lower = refl;
                    rest = other_rest q z;
                    scene = λ j y. (refl, refl);
                    written = λ side y. y;
                    began = λ side y. y;
                    backs = λ side x y. y;
                  }) (λ q z. put-other e.locals p _ q z)
                      (subst (Standing m2 p) (sym (put-same e.locals p _
                      ∙ ap (λ (v : Option Bool). Result v) w.1))
                      (j, sits, side, began, w.2));
                  begun = st.begun;
                },
              )

        -- a process that has read takes no step
        done_step : (x : Bool) → e.locals p ≡ Result (Some x) → Goes u e
        done_step x y =
            let m2 : Moment = record {
              rest = u;
              lower = s1;
              roles = s2;
              under = d;
              over = e;
            } in (
              s1,
              s2,
              d,
              record {
                lower_schedule = st.lower_schedule;
                node_schedule = st.node_schedule;
                reached = st.reached;
                below = st.below;
                object = st.object;
                each = all_stand m m2 p st.each (λ q z. record {
                  local = refl;
                  lower = refl;
                  rest = other_rest q z;
                  scene = λ j y. (refl, refl);
                  written = λ side y. y;
                  began = λ side y. y;
                  backs = λ side x y. y;
                }) (λ q z. refl)
                    (subst (Standing m2 p) (sym y) (subst (Standing m p) y (st.each p lp)));
                begun = st.begun;
              },
            )

        lower_step : (l : Loc) → e.locals p ≡ Lower l → Standing m p (Lower l)
            → Goes u (perform (all_of t) e p (raised node team (seat p) (P.action p l)))
        lower_step l y s = by_action (P.action p l) refl
          where
            by_action : (c : Action Loc (Option Bool)) → P.action p l ≡ c
                → Goes u (perform (all_of t) e p (raised node team (seat p) c))
            by_action (Decide x) f = by_seat (seat p) refl
              where
                by_seat : (o : Option ℕ) → seat p ≡ o
                    → Goes u (perform (all_of t) e p (leave node team o x))
                by_seat None z = rest_step l s.0 y s.1 s.2 (Decide x) f x refl z
                by_seat (Some j) z = leave_step l s.0 y s.1 s.2 (Decide x) f x refl j z
            by_action (ReadRegister i k) f = below_step l s.0 y s.1 s.2 (ReadRegister i k) f refl
            by_action (WriteRegister i v x) f =
                below_step l s.0 y s.1 s.2 (WriteRegister i v x) f refl
            by_action (ApplyOperation i o k) f =
                below_step l s.0 y s.1 s.2 (ApplyOperation i o k) f refl
            by_action (ReadObject i k) f = below_step l s.0 y s.1 s.2 (ReadObject i k) f refl

        inside_step : (x : ℕ × ℕ) → Standing m p (Inside x)
            → Goes u (perform (all_of t) e p (at_node node (seat p) x))
        inside_step x s = subst (λ (o : Option ℕ).
            Goes u (perform (all_of t) e p (at_node node o x))) (sym s.1)
            (by_move (node.move s.0 x) refl)
          where
            by_move : (c : Move) → node.move s.0 x ≡ c
                → Goes u (perform (all_of t) e p (inside c))
            by_move (Apply o k) f = apply_step x s.0 s.1 s.2 s.3 s.4 s.5 o k f
            by_move (Finish side) f = finish_step x s.0 s.1 s.2 s.3 s.4 s.5 side f

        by_local : (l : Loc) → e.locals p ≡ l → Standing m p l
            → Goes u (perform (all_of t) e p (action_with_node node team seat P p l))
        by_local (Input x) y s = absurd s
        by_local (Lower l) y s = lower_step l y s
        by_local (Inside x) y s = inside_step x s
        by_local (Result None) y s = absurd s
        by_local (Result (Some x)) y s = done_step x y

        stepped : Goes u (step (all_of t) Q e p)
        stepped = by_local (e.locals p) refl (st.each p lp)

    all_go : (u : List ℕ) → IsSchedule n u → (s1 s2 : List ℕ) (d e : Conf) → Stands (record {
      rest = u;
      lower = s1;
      roles = s2;
      under = d;
      over = e;
    }) → Goes [] (after (all_of t) Q e u)
    all_go [] hs s1 s2 d e st = (s1, s2, d, st)
    all_go (p ∷ u) hs s1 s2 d e st =
        let k = stepped p hs.0 u s1 s2 d e st in
        all_go u hs.1 k.0 k.1 k.2 (step (all_of t) Q e p) k.3

    first : Stands (record {
      rest = full;
      lower = [];
      roles = [];
      under = initial P inputs;
      over = initial Q inputs;
    })
    first = record {
      lower_schedule = tt;
      node_schedule = tt;
      reached = refl;
      below = record { registers = λ i. refl; objects = λ i. refl };
      object = refl;
      each = λ p l. (refl, omega arith, λ j y. (refl, refl, omega arith));
      begun = λ side y. absurd y;
    }

    -- what a decision of the with_node protocol rests on
    abbrev Rules : List ℕ → Conf → ℕ → Bool → Type 0
    Rules r d p x = ((seat p ≡ None) × (decision P d p ≡ Some x))
        ⊎ ((j : ℕ) × (seat p ≡ Some j) × (side : Team) × BeganIn team side r × Backs d side x)

    module _ (hs : IsSchedule n full) where
      gone : Goes [] (after (all_of t) Q (initial Q inputs) full)
      gone = all_go full hs [] [] (initial P inputs) (initial Q inputs) first

      abbrev now : Moment
      now = record {
        rest = [];
        lower = gone.0;
        roles = gone.1;
        under = gone.2;
        over = after (all_of t) Q (initial Q inputs) full;
      }

      back : (p : ℕ) (x : Bool) → decision P gone.2 p ≡ Some x
          → HasDecided (all_of t) P inputs gone.0 p x
      back p x f = subst (λ (z : Conf). decision P z p ≡ Some x) (sym gone.3.reached) f

      module _ (p : ℕ) (lp : p < n) where
        rules : (x : Bool) → HasDecided (all_of t) Q inputs full p x → Rules gone.1 gone.2 p x
        rules x = by_loc (now.over.locals p) (gone.3.each p lp)
          where
            by_loc : (l : Loc) → Standing now p l
                → decided_by (action_with_node node team seat P p l) ≡ Some x
                → Rules gone.1 gone.2 p x
            by_loc (Input y) s f = absurd s
            by_loc (Lower l) s f = by_action (P.action p l) refl f
              where
                by_action : (c : Action Loc (Option Bool)) → P.action p l ≡ c
                    → decided_by (raised node team (seat p) c) ≡ Some x
                    → Rules gone.1 gone.2 p x
                by_action (Decide y) k f = by_seat (seat p) refl f
                  where
                    by_seat : (o : Option ℕ) → seat p ≡ o
                        → decided_by (leave node team o y) ≡ Some x → Rules gone.1 gone.2 p x
                    by_seat None z f =
                        inl (z, ap decided_by (ap (P.action p) s.0 ∙ k) ∙ f)
                    by_seat (Some j) z f = absurd (none_some f)
                by_action (ReadRegister i v) k f = absurd (none_some f)
                by_action (WriteRegister i v y) k f = absurd (none_some f)
                by_action (ApplyOperation i o v) k f = absurd (none_some f)
                by_action (ReadObject i v) k f = absurd (none_some f)
            by_loc (Inside y) s f = by_seat (seat p) f
              where
                by_move : (c : Move) → decided_by (inside c) ≡ Some x → Rules gone.1 gone.2 p x
                by_move (Apply o k) f = absurd (none_some f)
                by_move (Finish side) f = absurd (none_some f)

                by_seat : (o : Option ℕ) → decided_by (at_node node o y) ≡ Some x
                    → Rules gone.1 gone.2 p x
                by_seat None f = absurd (none_some f)
                by_seat (Some j) f = by_move (node.move j y) f
            by_loc (Result None) s f = absurd s
            by_loc (Result (Some y)) s f =
                inr (s.0, s.1, s.2, s.3, subst (Backs gone.2 s.2) (some_same f) s.4)

        in_time : limit + is.bound + 2 ≤ occurrences full p
            → (x : Bool) × HasDecided (all_of t) Q inputs full p x
        in_time often = by_loc (now.over.locals p) (gone.3.each p lp)
          where
            undecided : (c : Action Loc (Option Bool)) (x : Bool) → decided_by c ≡ Some x
                → decided_by (raised node team None c) ≡ Some x
            undecided (Decide y) x f = f
            undecided (ReadRegister i v) x f = absurd (none_some f)
            undecided (WriteRegister i v y) x f = absurd (none_some f)
            undecided (ApplyOperation i o v) x f = absurd (none_some f)
            undecided (ReadObject i v) x f = absurd (none_some f)

            by_loc : (l : Loc) → Standing now p l
                → (x : Bool) × (decided_by (action_with_node node team seat P p l) ≡ Some x)
            by_loc (Input y) s = absurd s
            by_loc (Lower l) s = by_seat (seat p) refl
              where
                by_seat : (o : Option ℕ) → seat p ≡ o
                    → (x : Bool) × (decided_by (raised node team o (P.action p l)) ≡ Some x)
                by_seat None z =
                    let w = lower_decided now gone.3 p lp (omega (arith, often, s.1)) in (
                      w.0,
                      undecided (P.action p l) w.0
                          (sym (ap decided_by (ap (P.action p) s.0)) ∙ w.1),
                    )
                by_seat (Some j) z = absurd (let o = s.2 j z in omega (arith, often, o.2))
            by_loc (Inside y) s = absurd (omega (arith, often, s.4, s.5))
            by_loc (Result None) s = absurd s
            by_loc (Result (Some y)) s = (y, refl)

  pub merges : IsGroupConsensus (all_of t) n h Q
  merges = record {
    agreement = agree;
    validity = λ inputs s hs p x lp f. valid inputs s hs p x (rules inputs s hs p lp x f) lp;
    wait_freedom = λ inputs. (
      (con.wait_freedom inputs).0 + is.bound + 2,
      λ s hs p lp often.
          in_time inputs s hs p lp often,
    );
  }
    where
      agree : (inputs : ℕ → Bool) (s : List ℕ) → IsSchedule n s → (p q : ℕ) (x y : Bool)
          → p < n → q < n → h p ≡ h q → HasDecided (all_of t) Q inputs s p x
          → HasDecided (all_of t) Q inputs s q y → x ≡ y
      agree inputs s hs p q x y lp lq same f k =
          let e = gone inputs s hs in
          by_rules (rules inputs s hs p lp x f) (rules inputs s hs q lq y k)
        where
          by_rules : Rules inputs s (gone inputs s hs).1 (gone inputs s hs).2 p x
              → Rules inputs s (gone inputs s hs).1 (gone inputs s hs).2 q y → x ≡ y
          by_rules (inl v) (inl w) =
              con.agreement inputs (gone inputs s hs).0 (gone inputs s hs).3.lower_schedule p q x y
              lp lq (seats.apart p q v.0 w.0 same) (back inputs s hs p x v.1)
              (back inputs s hs q y w.1)
          by_rules (inl v) (inr w) = absurd (seats.mixed p q w.0 v.0 w.1 same)
          by_rules (inr v) (inl w) = absurd (seats.mixed q p v.0 w.0 v.1 (sym same))
          by_rules (inr v) (inr w) =
              let sides = began_once team v.2 w.2 (gone inputs s hs).1 v.3 w.3 in
              let c = v.4 in
              let d = w.4 in
              con.agreement inputs (gone inputs s hs).0 (gone inputs s hs).3.lower_schedule c.0 d.0
              x y c.1 d.1
              (seats.teams c.0 d.0 c.2 d.2 c.3 d.3 (c.4 ∙ (sides ∙ sym d.4)))
              (back inputs s hs c.0 x c.5) (back inputs s hs d.0 y d.5)

      valid : (inputs : ℕ → Bool) (s : List ℕ) (hs : IsSchedule n s) (p : ℕ) (x : Bool)
          → Rules inputs s (gone inputs s hs).1 (gone inputs s hs).2 p x → p < n
          → (q : ℕ) × (q < n) × (h q ≡ h p) × (inputs q ≡ x)
      valid inputs s hs p x (inl v) lp =
          let w = con.validity inputs (gone inputs s hs).0 (gone inputs s hs).3.lower_schedule p x
          lp (back inputs s hs p x v.1) in
          (w.0, w.1, seats.kept w.0 p w.2, w.3)
      valid inputs s hs p x (inr v) lp =
          let c = v.4 in
          let w = con.validity inputs (gone inputs s hs).0 (gone inputs s hs).3.lower_schedule c.0 x
          c.1 (back inputs s hs c.0 x c.5) in
          (w.0, w.1, seats.kept w.0 c.0 w.2 ∙ seats.joined c.0 p c.2 v.0 c.3 v.1, w.3)

  pub with_node_of_type : IsProtocolOf (all_of t) n P → IsProtocolOf (all_of t) n Q
  with_node_of_type known = record {
    states_known = by_object;
    operations_known = λ p l lp. by_local p lp l;
  }
    where
      by_object : (i : ℕ) → one_before node.state P.objects i < length t.states
      by_object zero = is.state_known
      by_object (suc i) = known.states_known i

      by_local : (p : ℕ) → p < n → (l : Loc)
          → IsActionOf (all_of t) (action_with_node node team seat P p l)
      by_local p lp (Input x) = tt
      by_local p lp (Lower l) = by_action (P.action p l) (known.operations_known p l lp)
        where
          by_seat : (o : Option ℕ) (x : Bool) → IsActionOf (all_of t) (leave node team o x)
          by_seat None x = tt
          by_seat (Some j) x = tt

          by_action : (c : Action Loc (Option Bool)) → IsActionOf (all_of t) c
              → IsActionOf (all_of t) (raised node team (seat p) c)
          by_action (Decide x) k = by_seat (seat p) x
          by_action (ReadRegister i v) k = tt
          by_action (WriteRegister i v x) k = tt
          by_action (ApplyOperation i o v) k = k
          by_action (ReadObject i v) k = tt
      by_local p lp (Inside x) = by_seat (seat p) refl
        where
          by_move : (c : Move) → IsMoveOf t c → IsActionOf (all_of t) (inside c)
          by_move (Apply o k) l = l
          by_move (Finish side) l = tt

          by_seat : (o : Option ℕ) → seat p ≡ o → IsActionOf (all_of t) (at_node node o x)
          by_seat None z = tt
          by_seat (Some j) z = by_move (node.move j x) (is.operations_known j x (seats.below p j z))
      by_local p lp (Result None) = tt
      by_local p lp (Result (Some x)) = tt

  pub with_node_unread : IsWithoutReads n P → IsWithoutReads n Q
  with_node_unread unread p l lp = by_local l
    where
      by_local : (l : Loc) → ReadsNoObject (action_with_node node team seat P p l)
      by_local (Input x) = tt
      by_local (Lower l) = by_action (P.action p l) (unread p l lp)
        where
          by_seat : (o : Option ℕ) (x : Bool) → ReadsNoObject (leave node team o x)
          by_seat None x = tt
          by_seat (Some j) x = tt

          by_action : (c : Action Loc (Option Bool)) → ReadsNoObject c
              → ReadsNoObject (raised node team (seat p) c)
          by_action (Decide x) k = by_seat (seat p) x
          by_action (ReadRegister i v) k = tt
          by_action (WriteRegister i v x) k = tt
          by_action (ApplyOperation i o v) k = tt
          by_action (ReadObject i v) k = absurd k
      by_local (Inside x) = by_seat (seat p)
        where
          by_move : (c : Move) → ReadsNoObject (inside c)
          by_move (Apply o k) = tt
          by_move (Finish side) = tt

          by_seat : (o : Option ℕ) → ReadsNoObject (at_node node o x)
          by_seat None = tt
          by_seat (Some j) = by_move (node.move j x)
      by_local (Result None) = tt
      by_local (Result (Some x)) = tt
