-- The protocol of a sound round decides as the round does, so it is a consensus protocol.
use Rattle.std.proofs.Common.{◌≡◌, ℕ, ◌-◌, ◌*◌, ◌<◌, ◌≤◌, inl, inr, List, length, refl, sym}
use Rattle.std.proofs.Common.{ap, ◌∙◌, subst, arith, Bool, Some, None, slice_index_or, slice_get}
use Rattle.std.proofs.Common.{replicate}
use Rattle.std.specs.Option.{option_map}
use Rattle.std.proofs.lemmas.Bool.{cases_lt}
use Rattle.std.proofs.lemmas.List.{get_or-map, get_or-replicate, get_or_past, length-map}
use Rattle.std.proofs.lemmas.List.{length-replicate}
use Rattle.std.proofs.lemmas.List.FromFn.{fill_by_all, get_or-map-range_with_len}
use Rattle.std.proofs.lemmas.List.FromFn.{length-map-range_with_len}
use Rattle.std.proofs.lemmas.Option.{slice_get-get_or, slice_get-map, slice_get_within}
use Rattle.cn_table.specs.TypeTable.{TypeTable, transition}
use Rattle.cn_choice.specs.declared.team.Team.{Team}
use Rattle.cn_choice.specs.declared.team.Team.TheVariants.{A, B}
use Rattle.cn_proto.specs.Protocol.{ProtocolOfRounds, nowhere, place_of}
use Rattle.cn_proto.specs.Sound.{IsSound}
use Rattle.cn_proto.specs.declared.place.Place.{Place}
use Rattle.cn_agree.specs.Consensus.{Decides, IsConsensus as IsConsensusOfRound}
use Rattle.cn_agree.specs.Rounds.{decision_of}
use Rattle.cn_agree.specs.Schedules.{all_begun, decisions_of}
use Rattle.cn_agree.specs.Steps.{after_schedule}
use Rattle.cn_agree.specs.World.{World, fresh_node, local_at, register}
use Rattle.cn_agree.specs.declared.local.Local.{Local}
use Rattle.cn_agree.specs.declared.local.Local.TheVariants.{NotBegun, Active, Decided}
use Rattle.cn_agree.specs.declared.local.Stage.TheVariants.{Write, Apply, Read, Take}
use Rattle.cn_agree.specs.declared.node.Node.{Node}
use Rattle.cn_consensus.specs.Configuration.{after, decision, initial}
use Rattle.cn_consensus.specs.Consensus.{HasDecided, IsConsensusProtocol, IsSchedule}
use Rattle.cn_consensus.specs.Protocol.{IsActionOf, IsProtocolOf}
use Rattle.cn_consensus.specs.Types.{all_of}
use Rattle.cn_solvable.specs.RoundProtocol.{Mirrors, listed, local_action, round_protocol}
use Rattle.cn_solvable.proofs.Mirroring.{mirrors_after, same_decision}

-- what a law of `cn_agree` says
abbrev pub SoundProtocolsAgree : Type 0
SoundProtocolsAgree = (P : ProtocolOfRounds) (n : ℕ) (team : ℕ → Team) → IsSound P n (n - 1) team
    → ((p : ℕ) → p < n → length (P.path p) ≤ n - 1)
    → (inputs : List Bool) (schedule : List ℕ) → length inputs ≡ n → IsSchedule n schedule
    → IsConsensusOfRound P n inputs schedule
    (decisions_of (after_schedule P schedule (all_begun P (n - 1) inputs)))

module _ (t : TypeTable) (R : ProtocolOfRounds) (op : ℕ → ℕ) (n : ℕ) (team : ℕ → Team)
    (sound : IsSound R n (n - 1) team)
    (acts : (role q : ℕ) → R.act role q ≡ transition t (op role) q) (some : 2 ≤ n) where
  abbrev nodes : ℕ
  nodes = n - 1

  -- a place of a path, or the place that stands for none
  inside : (p i : ℕ) → p < n → (place_of R p i).node < nodes
  inside p i l = elim (cases_lt i (length (R.path p))) [
    | inl at ↦ sound.nodes_below p i (l, at)
    | inr past ↦ subst (λ (z : Place). z.node < nodes)
        (sym (get_or_past (R.path p) i nowhere past)) (omega arith)
  ]

  role_inside : (p i : ℕ) → p < n → (place_of R p i).role < n
  role_inside p i l = elim (cases_lt i (length (R.path p))) [
    | inl at ↦ sound.roles_below p i (l, at)
    | inr past ↦ subst (λ (z : Place). z.role < n) (sym (get_or_past (R.path p) i nowhere past))
        (omega arith)
  ]

  pub of_type : R.start < length t.states → ((role : ℕ) → role < n → op role < length t.operations)
      → IsProtocolOf (all_of t) n (round_protocol R op)
  of_type start known = record {
    states_known = λ i. start;
    operations_known = λ p l lp.
        by_local p l lp;
  }
    where
      by_local : (p : ℕ) (l : Local Bool) → p < n → IsActionOf (all_of t) (local_action R op p l)
      by_local p NotBegun lp = tt
      by_local p (Active i x Write) lp = tt
      by_local p (Active i x Apply) lp = known (place_of R p i).role (role_inside p i lp)
      by_local p (Active i x (Read response)) lp = tt
      by_local p (Active i x (Take response state)) lp = tt
      by_local p (Decided y) lp = tt

  module _ (inputs : ℕ → Bool) where
    abbrev pub given : List Bool
    given = listed n inputs

    many : length given ≡ n
    many = length-map-range_with_len inputs 0 n

    listed_at : (p : ℕ) → p < n → slice_get given p ≡ Some (inputs p)
    listed_at p l =
        slice_get-get_or given p (inputs p) (subst (λ (k : ℕ). p < k) (sym many) l)
        ∙ ap Some (get_or-map-range_with_len inputs 0 n p p (inputs p) l (omega arith))

    begun_at : (p : ℕ) → p < n → local_at (all_begun R nodes given) p ≡ Active 0 (inputs p) Write
    begun_at p l =
        get_or-map (λ (x : Bool). Active 0 x Write) given p (inputs p) NotBegun (subst (λ (k : ℕ).
        p < k) (sym many) l)
        ∙ ap (λ (x : Bool). Active 0 x Write) (get_or-map-range_with_len inputs 0 n p p (inputs p)
        l (omega arith))

    fresh_at : (v : ℕ) → v < nodes → slice_index_or
        (replicate nodes (fresh_node {V = Bool} R.start)) v (fresh_node R.start) ≡ fresh_node
        R.start
    fresh_at v l = get_or-replicate nodes v (fresh_node R.start) (fresh_node R.start) l

    empty : (side : Team) → None ≡ register (fresh_node {V = Bool} R.start) side
    empty A = refl
    empty B = refl

    first_mirrors : Mirrors R n nodes (all_begun R nodes given)
        (initial (round_protocol R op) inputs)
    first_mirrors = record {
      processes_are = length-map given (λ (x : Bool). Active 0 x Write) ∙ many;
      nodes_are = length-replicate nodes (fresh_node R.start);
      local = λ p l. sym (begun_at p l);
      state = λ v l. sym (ap (λ (z : Node Bool). z.state.0) (fresh_at v l));
      held = λ v l side. empty side ∙ sym (ap (λ (z : Node Bool). register z side) (fresh_at v l));
    }

    module _ (s : List ℕ) (h : IsSchedule n s) where
      abbrev pub world : World Bool
      world = after_schedule R s (all_begun R nodes given)

      pub mirrors : Mirrors R n nodes world (after (all_of t) (round_protocol R op)
          (initial (round_protocol R op) inputs) s)
      mirrors = mirrors_after t R op n nodes acts inside s (all_begun R nodes given)
          (initial (round_protocol R op) inputs) h first_mirrors

      pub decisions : decisions_of world ≡ listed n (decision (round_protocol R op)
          (after (all_of t) (round_protocol R op) (initial (round_protocol R op) inputs) s))
      decisions = fill_by_all (decision (round_protocol R op)
          (after (all_of t) (round_protocol R op) (initial (round_protocol R op) inputs) s))
          (decisions_of world) n None
          (length-map world.locals decision_of ∙ mirrors.processes_are) (λ p l.
          get_or-map decision_of world.locals p NotBegun None
          (subst (λ (k : ℕ). p < k) (sym mirrors.processes_are) l)
          ∙ sym (same_decision t R op n nodes acts inside p world
          (after (all_of t) (round_protocol R op) (initial (round_protocol R op) inputs) s) l
          mirrors))

      entry : (p : ℕ) → p < n → slice_get (decisions_of world) p ≡ Some
          (decision (round_protocol R op) (after (all_of t) (round_protocol R op)
          (initial (round_protocol R op) inputs) s) p)
      entry p l =
          slice_get-map decision_of world.locals p
          ∙ (ap (option_map decision_of) (slice_get-get_or world.locals p NotBegun
          (subst (λ (k : ℕ). p < k) (sym mirrors.processes_are) l))
          ∙ ap Some (sym (same_decision t R op n nodes acts inside p world
          (after (all_of t) (round_protocol R op) (initial (round_protocol R op) inputs) s) l
          mirrors)))

      decides : (p : ℕ) (x : Bool) → p < n → HasDecided (all_of t) (round_protocol R op) inputs s p
          x → Decides (decisions_of world) p x
      decides p x l e = entry p l ∙ ap Some e

      decided : (p : ℕ) (x : Bool) → p < n → Decides (decisions_of world) p x
          → HasDecided (all_of t) (round_protocol R op) inputs s p x
      decided p x l e = same_value (sym (entry p l) ∙ e)
        where
          same_value : {X : Type 0} {y z : X} → Some y ≡ Some z → y ≡ z
          same_value f = cc f

      input_is : (q : ℕ) (x : Bool) → slice_get given q ≡ Some x → (q < n) × (inputs q ≡ x)
      input_is q x e =
          let l : q < n = subst (λ (k : ℕ). q < k) many (slice_get_within given q x e) in
          let f : Some (inputs q) ≡ Some x = sym (listed_at q l) ∙ e in
          (l, cc f)

  module _ (agree : SoundProtocolsAgree)
      (short : (p : ℕ) → p < n → length (R.path p) ≤ n - 1) where
    agrees : (inputs : ℕ → Bool) (s : List ℕ) (h : IsSchedule n s)
        → IsConsensusOfRound R n (given inputs) s (decisions_of (world inputs s h))
    agrees inputs s h = agree R n team sound short (given inputs) s (many inputs) h

    pub consensus : IsConsensusProtocol (all_of t) n (round_protocol R op)
    consensus = record {
      agreement = λ inputs s h p q x y lp lq d e.
          (agrees inputs s h).agreement p q x y (decides inputs s h p x lp d)
          (decides inputs s h q y lq e);
      validity = λ inputs s h p x l d.
          (let v = (agrees inputs s h).validity p x (decides inputs s h p x l d) in
          let i = input_is inputs s h v.0 x v.2 in
          (v.0, i.0, i.1));
      wait_freedom = λ inputs. (
        4 * (n - 1),
        λ s h p l often.
            (let w = (agrees inputs s h).wait_free in
            let few = w.bound p l in
            let d = (w.in_time p l).1 (omega (arith, few, often)) in
            (d.0, decided inputs s h p d.0 l d.1)),
      );
    }
