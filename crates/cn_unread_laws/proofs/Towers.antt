-- Nodes one above the other: from processes that decide their own inputs to one group.
use Rattle.std.proofs.Common.{◌≡◌, ℕ, zero, suc, ◌+◌, ◌-◌, ◌<◌, ◌≤◌, ◌⊎◌, inl, inr, List, []}
use Rattle.std.proofs.Common.{◌∷◌, refl, sym, ap, ◌∙◌, subst, arith, Bool}
use Rattle.std.proofs.Common.{Option, Some, None}
use Rattle.std.proofs.lemmas.Bool.{cases_eq, cases_lt, lt-ltb, le-ltb}
use Rattle.cn_table.specs.TypeTable.{IsClosed, TypeTable}
use Rattle.cn_choice.specs.declared.team.Team.TheVariants.{A, B}
use Rattle.cn_consensus.specs.Configuration.{Configuration, after, decision, initial}
use Rattle.cn_consensus.specs.Consensus.{HasDecided}
use Rattle.cn_consensus.specs.Protocol.{Action, IsActionOf, IsProtocolOf, Protocol}
use Rattle.cn_consensus.specs.Protocol.Action.{Decide, ReadRegister}
use Rattle.cn_consensus.specs.Types.{all_of}
use Rattle.cn_proto.specs.Tournament.{team_of}
use Rattle.cn_unread_laws.specs.Reads.{IsWithoutReads, ReadsNoObject}
use Rattle.cn_unread_laws.specs.Solving.{SolvesWithoutReads}
use Rattle.cn_unread_laws.proofs.Groups.{IsGroupConsensus, IsSeating, Loc, with_node}
use Rattle.cn_unread_laws.proofs.Groups.Loc.{Input, Lower, Inside, Result}
use Rattle.cn_unread.specs.Nodes.{IsNode, Node}
use Rattle.cn_unread_laws.proofs.Encoding.{coded_solves}
use Rattle.cn_unread_laws.proofs.Joining.{with_node_unread, with_node_of_type, merges}

pub team_low : (a j : ℕ) → j < a → team_of a j ≡ A
team_low a j l = rw (lt-ltb j a l) refl

pub team_high : (a j : ℕ) → a ≤ j → team_of a j ≡ B
team_high a j l = rw (le-ltb j a l) refl

-- ---- groups

-- the processes from s, k of them, are alone in their groups
record Fresh (s k : ℕ) (g : ℕ → ℕ) : Type 0 where
  pub own : (p : ℕ) → s ≤ p → p < s + k → g p ≡ p
  pub others : (p : ℕ) → (p < s) ⊎ (s + k ≤ p) → (g p < s) ⊎ (s + k ≤ g p)

-- and now they are one group
record Grouped (s k : ℕ) (g h : ℕ → ℕ) : Type 0 where
  pub own : (p : ℕ) → s ≤ p → p < s + k → h p ≡ s
  pub others : (p : ℕ) → (p < s) ⊎ (s + k ≤ p) → h p ≡ g p

within : (s k : ℕ) (p : ℕ) → ((s ≤ p) × (p < s + k)) ⊎ ((p < s) ⊎ (s + k ≤ p))
within s k p = elim (cases_lt p s) [
  | inl l ↦ inr (inl l)
  | inr m ↦ elim (cases_lt p (s + k)) [
    | inl l ↦ inl (m, l)
    | inr o ↦ inr (inr o)
  ]
]

-- ---- seats: the first x processes from s in team A, the next y in team B

module _ (a b s x y : ℕ) (xa : x ≤ a) (yb : y ≤ b) (some : 1 ≤ x) where
  seat_by : (p : ℕ) → (p < s) ⊎ (s ≤ p) → (p < s + x) ⊎ (s + x ≤ p)
      → (p < s + (x + y)) ⊎ (s + (x + y) ≤ p) → Option ℕ
  seat_by p (inl l) u v = None
  seat_by p (inr m) (inl l) v = Some (p - s)
  seat_by p (inr m) (inr k) (inl l) = Some (a + (p - (s + x)))
  seat_by p (inr m) (inr k) (inr o) = None

  seat : ℕ → Option ℕ
  seat p = seat_by p (cases_lt p s) (cases_lt p (s + x)) (cases_lt p (s + (x + y)))

  abbrev Sits : ℕ → ℕ → Type 0
  Sits p j = ((s ≤ p) × (p < s + x) × (j ≡ p - s))
      ⊎ ((s + x ≤ p) × (p < s + (x + y)) × (j ≡ a + (p - (s + x))))

  same_number : {i j : ℕ} → Some i ≡ Some j → j ≡ i
  same_number e = cc e

  none_is_some : {X : Type 0} {j : X} → None ≡ Some j → ⊥
  none_is_some e = cc e

  sits : (p j : ℕ) → seat p ≡ Some j → Sits p j
  unfolding seat seat_by
  sits p j = by_cases (cases_lt p s) (cases_lt p (s + x)) (cases_lt p (s + (x + y)))
    where
      by_cases : (c : (p < s) ⊎ (s ≤ p)) (d : (p < s + x) ⊎ (s + x ≤ p))
          (e : (p < s + (x + y)) ⊎ (s + (x + y) ≤ p)) → seat_by p c d e ≡ Some j → Sits p j
      by_cases (inl l) d e f = absurd (none_is_some f)
      by_cases (inr m) (inl l) e f = inl (m, l, same_number f)
      by_cases (inr m) (inr k) (inl l) f = inr (k, l, same_number f)
      by_cases (inr m) (inr k) (inr o) f = absurd (none_is_some f)

  free : (p : ℕ) → seat p ≡ None → (p < s) ⊎ (s + (x + y) ≤ p)
  unfolding seat seat_by
  free p = by_cases (cases_lt p s) (cases_lt p (s + x)) (cases_lt p (s + (x + y)))
    where
      by_cases : (c : (p < s) ⊎ (s ≤ p)) (d : (p < s + x) ⊎ (s + x ≤ p))
          (e : (p < s + (x + y)) ⊎ (s + (x + y) ≤ p)) → seat_by p c d e ≡ None
          → (p < s) ⊎ (s + (x + y) ≤ p)
      by_cases (inl l) d e f = inl l
      by_cases (inr m) (inl l) e f = absurd (none_is_some (sym f))
      by_cases (inr m) (inr k) (inl l) f = absurd (none_is_some (sym f))
      by_cases (inr m) (inr k) (inr o) f = inr o

  sits_inside : (p j : ℕ) → seat p ≡ Some j → (s ≤ p) × (p < s + (x + y))
  sits_inside p j f = elim (sits p j f) [
    | inl z ↦ (z.0, omega (arith, z.1))
    | inr z ↦ (omega (arith, z.0), z.1)
  ]

  module _ (g g1 g2 h : ℕ → ℕ) (fresh : Fresh s (x + y) g) (one : Grouped s x g g1)
      (two : Grouped (s + x) y g1 g2) (whole : Grouped s (x + y) g2 h) where
    low_group : (p : ℕ) → s ≤ p → p < s + x → g2 p ≡ s
    low_group p l m = two.others p (inl m) ∙ one.own p l m

    high_group : (p : ℕ) → s + x ≤ p → p < s + (x + y) → g2 p ≡ s + x
    high_group p l m = two.own p l (omega (arith, m))

    outside : (p : ℕ) → (p < s) ⊎ (s + (x + y) ≤ p) → g2 p ≡ g p
    outside p (inl l) = two.others p (inl (omega (arith, l))) ∙ one.others p (inl l)
    outside p (inr m) = two.others p (inr (omega (arith, m)))
        ∙ one.others p (inr (omega (arith, m)))

    far : (p : ℕ) → (p < s) ⊎ (s + (x + y) ≤ p) → (h p < s) ⊎ (s + (x + y) ≤ h p)
    far p c = let e = whole.others p c ∙ outside p c in elim (fresh.others p c) [
      | inl l ↦ inl (omega (arith, l, e))
      | inr m ↦ inr (omega (arith, m, e))
    ]

    apart_groups : (p q : ℕ) → (s ≤ p) × (p < s + (x + y)) → (q < s) ⊎ (s + (x + y) ≤ q)
        → h q ≡ h p → ⊥
    apart_groups p q c d e = let f = whole.own p c.0 c.1 in elim (far q d) [
      | inl l ↦ omega (arith, l, e, f)
      | inr m ↦ omega (arith, m, e, f, some)
    ]

    near : (p : ℕ) → (s ≤ p) × (p < s + (x + y)) → (g2 p ≡ s) ⊎ (g2 p ≡ s + x)
    near p c = elim (cases_lt p (s + x)) [
      | inl l ↦ inl (low_group p c.0 l)
      | inr m ↦ inr (high_group p m c.1)
    ]

    other_groups : (p q : ℕ) → (s ≤ p) × (p < s + (x + y)) → (q < s) ⊎ (s + (x + y) ≤ q)
        → 1 ≤ y → g2 q ≡ g2 p → ⊥
    other_groups p q c d o e = by_both (near p c) (fresh.others q d) (outside q d)
      where
        by_both : (g2 p ≡ s) ⊎ (g2 p ≡ s + x) → (g q < s) ⊎ (s + (x + y) ≤ g q) → g2 q ≡ g q → ⊥
        by_both (inl u) (inl v) w = omega (arith, u, v, w, e)
        by_both (inl u) (inr v) w = omega (arith, u, v, w, e, some)
        by_both (inr u) (inl v) w = omega (arith, u, v, w, e)
        by_both (inr u) (inr v) w = omega (arith, u, v, w, e, o)

    seating : 1 ≤ y → IsSeating (a + b) (team_of a) g2 h seat
    seating o = record {
      below = λ p j f. below p j (sits p j f);
      alone = λ p q j f k. alone p q j (sits p j f) (sits q j k);
      teams = λ p q i j f k e. teams p q i j (sits p i f) (sits q j k) e;
      joined = λ p q i j f k. (let c = sits_inside p i f in let d = sits_inside q j k in
          whole.own p c.0 c.1 ∙ sym (whole.own q d.0 d.1));
      apart = λ p q f k e. sym (whole.others p (free p f)) ∙ (e ∙ whole.others q (free q k));
      mixed = λ p q j f k e. apart_groups q p (sits_inside q j k) (free p f) e;
      kept = λ p q e. kept p q (within s (x + y) p) (within s (x + y) q) e;
    }
      where
        below : (p j : ℕ) → Sits p j → j < a + b
        below p j (inl z) = omega (arith, z.0, z.1, z.2, xa)
        below p j (inr z) = omega (arith, z.0, z.1, z.2, yb)

        alone : (p q j : ℕ) → Sits p j → Sits q j → p ≡ q
        alone p q j (inl z) (inl w) = omega (arith, z.0, z.1, z.2, w.0, w.1, w.2)
        alone p q j (inl z) (inr w) =
            absurd (omega (arith, z.0, z.1, z.2, w.0, w.1, w.2, xa))
        alone p q j (inr z) (inl w) =
            absurd (omega (arith, z.0, z.1, z.2, w.0, w.1, w.2, xa))
        alone p q j (inr z) (inr w) = omega (arith, z.0, z.1, z.2, w.0, w.1, w.2)

        not_both : A ≡ B → ⊥
        not_both e = cc e

        teams : (p q i j : ℕ) → Sits p i → Sits q j → team_of a i ≡ team_of a j → g2 p ≡ g2 q
        teams p q i j (inl z) (inl w) e = low_group p z.0 z.1 ∙ sym (low_group q w.0 w.1)
        teams p q i j (inl z) (inr w) e = absurd (not_both (
            sym (team_low a i (omega (arith, z.0, z.1, z.2, xa)))
            ∙ (e ∙ team_high a j (omega (arith, w.2)))))
        teams p q i j (inr z) (inl w) e = absurd (not_both (
            sym (team_low a j (omega (arith, w.0, w.1, w.2, xa)))
            ∙ (sym e ∙ team_high a i (omega (arith, z.2)))))
        teams p q i j (inr z) (inr w) e = high_group p z.0 z.1 ∙ sym (high_group q w.0 w.1)

        kept : (p q : ℕ) → ((s ≤ p) × (p < s + (x + y))) ⊎ ((p < s) ⊎ (s + (x + y) ≤ p))
            → ((s ≤ q) × (q < s + (x + y))) ⊎ ((q < s) ⊎ (s + (x + y) ≤ q))
            → g2 p ≡ g2 q → h p ≡ h q
        kept p q (inl c) (inl d) e = whole.own p c.0 c.1 ∙ sym (whole.own q d.0 d.1)
        kept p q (inl c) (inr d) e = absurd (other_groups p q c d o (sym e))
        kept p q (inr c) (inl d) e = absurd (other_groups q p d c o e)
        kept p q (inr c) (inr d) e = whole.others p c ∙ (e ∙ sym (whole.others q d))

-- the processes from s, k of them, in the group of s
joined_by : (s k : ℕ) (g : ℕ → ℕ) (p : ℕ)
    → ((s ≤ p) × (p < s + k)) ⊎ ((p < s) ⊎ (s + k ≤ p)) → ℕ
joined_by s k g p (inl c) = s
joined_by s k g p (inr d) = g p

joined : (s k : ℕ) (g : ℕ → ℕ) → ℕ → ℕ
joined s k g p = joined_by s k g p (within s k p)

grouped : (s k : ℕ) (g : ℕ → ℕ) → Grouped s k g (joined s k g)
unfolding joined joined_by
grouped s k g = record {
  own = λ p l m. own p l m (within s k p);
  others = λ p o. others p o (within s k p);
}
  where
    own : (p : ℕ) → s ≤ p → p < s + k
        → (c : ((s ≤ p) × (p < s + k)) ⊎ ((p < s) ⊎ (s + k ≤ p))) → joined_by s k g p c ≡ s
    own p l m (inl c) = refl
    own p l m (inr (inl d)) = absurd (omega (arith, l, d))
    own p l m (inr (inr d)) = absurd (omega (arith, m, d))

    others : (p : ℕ) → (p < s) ⊎ (s + k ≤ p)
        → (c : ((s ≤ p) × (p < s + k)) ⊎ ((p < s) ⊎ (s + k ≤ p))) → joined_by s k g p c ≡ g p
    others p (inl o) (inl c) = absurd (omega (arith, o, c.0))
    others p (inr o) (inl c) = absurd (omega (arith, o, c.1))
    others p o (inr d) = refl

fresh_above : (s x y : ℕ) (g h : ℕ → ℕ) → 1 ≤ x → Fresh s (x + y) g → Grouped s x g h
    → Fresh (s + x) y h
fresh_above s x y g h some fresh one = record {
  own = λ p l m. one.others p (inr l) ∙ fresh.own p (omega (arith, l)) (omega (arith, m));
  others = λ p o. by_place p o (within s x p);
}
  where
    by_place : (p : ℕ) → (p < s + x) ⊎ (s + x + y ≤ p)
        → ((s ≤ p) × (p < s + x)) ⊎ ((p < s) ⊎ (s + x ≤ p)) → (h p < s + x) ⊎ (s + x + y ≤ h p)
    by_place p o (inl c) = let e = one.own p c.0 c.1 in inl (omega (arith, e, some))
    by_place p o (inr (inl d)) = by_group (one.others p (inl d)) (fresh.others p (inl d))
      where
        by_group : h p ≡ g p → (g p < s) ⊎ (s + (x + y) ≤ g p)
            → (h p < s + x) ⊎ (s + x + y ≤ h p)
        by_group e (inl l) = inl (omega (arith, e, l))
        by_group e (inr m) = inr (omega (arith, e, m))
    by_place p (inl o) (inr (inr d)) = absurd (omega (arith, o, d))
    by_place p (inr o) (inr (inr d)) =
        by_group (one.others p (inr d)) (fresh.others p (inr (omega (arith, o))))
      where
        by_group : h p ≡ g p → (g p < s) ⊎ (s + (x + y) ≤ g p)
            → (h p < s + x) ⊎ (s + x + y ≤ h p)
        by_group e (inl l) = inl (omega (arith, e, l))
        by_group e (inr m) = inr (omega (arith, e, m))

fresh_below : (s x y : ℕ) (g : ℕ → ℕ) → Fresh s (x + y) g → Fresh s x g
fresh_below s x y g fresh = record {
  own = λ p l m. fresh.own p l (omega (arith, m));
  others = λ p o. by_place p o (within s (x + y) p);
}
  where
    by_place : (p : ℕ) → (p < s) ⊎ (s + x ≤ p)
        → ((s ≤ p) × (p < s + (x + y))) ⊎ ((p < s) ⊎ (s + (x + y) ≤ p))
        → (g p < s) ⊎ (s + x ≤ g p)
    by_place p (inl l) (inl c) = absurd (omega (arith, l, c.0))
    by_place p (inr m) (inl c) = let e = fresh.own p c.0 c.1 in inr (omega (arith, e, m))
    by_place p o (inr d) = elim (fresh.others p d) [
      | inl l ↦ inl l
      | inr m ↦ inr (omega (arith, m))
    ]

-- ---- towers

module _ (t : TypeTable) (a b : ℕ) (node : Node) (is : IsNode t a b node) (n : ℕ) (aa : 1 ≤ a)
    (bb : 1 ≤ b) where
  abbrev Grounded : (ℕ → ℕ) → Protocol Loc (Option Bool) → Type 0
  Grounded g P = IsGroupConsensus (all_of t) n g P × IsProtocolOf (all_of t) n P × IsWithoutReads n P

  abbrev Built : ℕ → ℕ → (ℕ → ℕ) → Type 0
  Built s k g = (h : ℕ → ℕ) × Grouped s k g h × (P : Protocol Loc (Option Bool)) × Grounded h P

  abbrev Builds : ℕ → Type 0
  Builds fuel = (s k : ℕ) → k ≤ fuel → 1 ≤ k → k ≤ a + b → (g : ℕ → ℕ) → Fresh s k g
      → (P : Protocol Loc (Option Bool)) → Grounded g P → Built s k g

  both : (fuel : ℕ) → Builds fuel → (s x y : ℕ) → 1 ≤ x → x ≤ a → 1 ≤ y → y ≤ b → x ≤ fuel
      → y ≤ fuel → (g : ℕ → ℕ) → Fresh s (x + y) g → (P : Protocol Loc (Option Bool))
      → Grounded g P → Built s (x + y) g
  both fuel builds s x y ox xa oy yb xf yf g fresh P ground =
      let low = builds s x xf ox (omega (arith, xa)) g (fresh_below s x y g fresh) P ground in
      let high = builds (s + x) y yf oy (omega (arith, yb)) low.0
      (fresh_above s x y g low.0 ox fresh low.1) low.2 low.3 in
      let h = joined s (x + y) high.0 in
      let whole = grouped s (x + y) high.0 in
      let seats = seating a b s x y xa yb ox g low.0 high.0 h fresh low.1 high.1 whole oy in
      let st = seat a b s x y xa yb ox in
      let gr = high.3 in (
        h,
        record {
          own = whole.own;
          others = λ p o. whole.others p o
              ∙ outside a b s x y xa yb ox g low.0 high.0 h fresh low.1 high.1 whole p o;
        },
        with_node node (team_of a) st high.2,
        (
          merges t a b node is n high.0 h st high.2 gr.0 seats,
          with_node_of_type t a b node is n high.0 h st high.2 gr.0 seats gr.1,
          with_node_unread t a b node is n high.0 h st high.2 gr.0 seats gr.2,
        ),
      )

  next : (fuel : ℕ) → Builds fuel → Builds (suc fuel)
  next fuel builds s k kf ok kab g fresh P ground = elim (cases_eq k 1) [
    | inl one ↦ (
      g,
      record {
        own = λ p l m. (let e = fresh.own p l m in omega (arith, e, l, m, one));
        others = λ p o. refl;
      },
      P,
      ground,
    )
    | inr more ↦ elim (cases_lt a k) [
      | inl l ↦ (let e : a + (k - a) ≡ k = omega (arith, l) in
          subst (λ (z : ℕ). Built s z g) e (both fuel builds s a (k - a) aa (omega arith)
          (omega (arith, l)) (omega (arith, kab, l)) (omega (arith, kf, l, bb))
          (omega (arith, kf, aa, l)) g (subst (λ (z : ℕ). Fresh s z g) (sym e) fresh) P ground))
      | inr m ↦ (let e : (k - 1) + 1 ≡ k = omega (arith, ok) in
          subst (λ (z : ℕ). Built s z g) e (both fuel builds s (k - 1) 1
          (omega (arith, ok, more)) (omega (arith, m)) (omega arith) bb (omega (arith, kf))
          (omega (arith, kf, ok, more)) g (subst (λ (z : ℕ). Fresh s z g) (sym e) fresh) P ground))
    ]
  ]

  build : (fuel : ℕ) → Builds fuel
  build zero = λ s k kf ok kab g fresh P ground. absurd (omega (arith, kf, ok))
  build (suc fuel) = next fuel (build fuel)

  -- ---- the ground: each process decides its own input

  own_action : Loc → Action Loc (Option Bool)
  own_action (Input x) = Decide x
  own_action (Lower l) = ReadRegister 0 (λ v. Result None)
  own_action (Inside x) = ReadRegister 0 (λ v. Result None)
  own_action (Result v) = ReadRegister 0 (λ v. Result None)

  abbrev ground_protocol : Protocol Loc (Option Bool)
  ground_protocol = record {
    start = λ p x. Input x;
    action = λ p l. own_action l;
    registers = λ i. None;
    objects = λ i. node.state;
  }

  nothing_changes : (inputs : ℕ → Bool) (s : List ℕ)
      → after (all_of t) ground_protocol (initial ground_protocol inputs) s
      ≡ initial ground_protocol inputs
  unfolding own_action
  nothing_changes inputs [] = refl
  nothing_changes inputs (p ∷ s) = nothing_changes inputs s

  decided : (inputs : ℕ → Bool) (s : List ℕ) (p : ℕ)
      → HasDecided (all_of t) ground_protocol inputs s p (inputs p)
  unfolding own_action
  decided inputs s p = ap (λ (c : Configuration Loc (Option Bool)).
      decision ground_protocol c p) (nothing_changes inputs s)

  own : (inputs : ℕ → Bool) (s : List ℕ) (p : ℕ) (x : Bool)
      → HasDecided (all_of t) ground_protocol inputs s p x → inputs p ≡ x
  own inputs s p x d = same (sym (decided inputs s p) ∙ d)
    where
      same : {y z : Bool} → Some y ≡ Some z → y ≡ z
      same e = cc e

  ground : Grounded (λ p. p) ground_protocol
  unfolding own_action
  ground = (
    record {
      agreement = λ inputs s hs p q x y lp lq e d f.
          sym (own inputs s p x d) ∙ (ap inputs e ∙ own inputs s q y f);
      validity = λ inputs s hs p x l d. (p, l, refl, own inputs s p x d);
      wait_freedom = λ inputs. (0, λ s hs p l often. (inputs p, decided inputs s p));
    },
    record {
      states_known = λ i. is.state_known;
      operations_known = λ p l lp. known l;
    },
    λ p l lp. unread l,
  )
    where
      known : (l : Loc) → IsActionOf (all_of t) (own_action l)
      known (Input x) = tt
      known (Lower l) = tt
      known (Inside x) = tt
      known (Result v) = tt

      unread : (l : Loc) → ReadsNoObject (own_action l)
      unread (Input x) = tt
      unread (Lower l) = tt
      unread (Inside x) = tt
      unread (Result v) = tt

  pub node_solves : IsClosed t → 1 ≤ n → n ≤ a + b → SolvesWithoutReads t n
  node_solves closed some l =
      let w = build n 0 n (omega arith) some l (λ p. p) (record {
        own = λ p l m. refl;
        others = λ p o. o;
      }) ground_protocol ground in
      let c = w.3 in
      coded_solves t n closed w.2 c.1 c.2 (record {
        agreement = λ inputs s hs p q x y lp lq d e. c.0.agreement inputs s hs p q x y lp lq
            (w.1.own p (omega arith) (omega (arith, lp))
            ∙ sym (w.1.own q (omega arith) (omega (arith, lq)))) d e;
        validity = λ inputs s hs p x lp d. (let v = c.0.validity inputs s hs p x lp d in
            (v.0, v.1, v.3));
        wait_freedom = c.0.wait_freedom;
      })
