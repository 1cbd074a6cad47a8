-- One process of a recoverable round moves at one node: what holds, holds still.
use Rattle.std.proofs.Common.{◌≡◌, ◌≢◌, ℕ, ◌<◌, inl, inr, length, refl, sym, ap, ◌∙◌, subst, Bool}
use Rattle.std.proofs.Common.{Some}
use Rattle.std.proofs.lemmas.Bool.{cases_eq}
use Rattle.cn_choice.specs.declared.team.Team.{Team}
use Rattle.cn_consensus.specs.Configuration.{put}
use Rattle.cn_consensus.proofs.Alike.{put-same, put-other}
use Rattle.cn_crashes.specs.RecoverableRound.{RecoverableLocal}
use Rattle.cn_crashes.proofs.NodeStatus.{Ghost, Grows, Held, Status, winner_of}
use Rattle.cn_crashes.proofs.Ranks.{rank}
use Rattle.cn_crashes.proofs.RoundInvariant.{HeldBy, Holds, LocalHolds, Setting, StatusHolds}
use Rattle.cn_crashes.proofs.RoundInvariant.{StillMay, World, at, fed_grows, local_grows}
use Rattle.cn_crashes.proofs.RoundInvariant.{status_grows}

-- only the local state of p changes
abbrev pub quiet : World → ℕ → RecoverableLocal → World
quiet c p mine = record {
  locals = put c.locals p mine;
  registers = c.registers;
  objects = c.objects;
}

module _ (S : Setting) where
  -- process p moves at node v to its local state mine, and the status of the node becomes st
  pub record Moves (p v : ℕ) (mine : RecoverableLocal) (st : Status) (g : Ghost)
      (c c' : World) : Type 0 where
    pub locals : (q : ℕ) → c'.locals q ≡ put c.locals p mine q
    pub objects : (u : ℕ) → u ≢ v → c'.objects u ≡ c.objects u
    pub held : (u : ℕ) (side : Team) (x : Bool) → Held c.registers u side x
        → Held c'.registers u side x
    pub new_held : (u : ℕ) (side : Team) (x : Bool) → Held c'.registers u side x
        → HeldBy S g c.registers u side x
    pub status : StatusHolds S st (c'.objects v) c'.registers v
    pub winner : (side : Team) → winner_of (g v) ≡ Some side → winner_of st ≡ Some side
    pub others : (q j : ℕ) → q < S.count → q ≢ p → j < length (S.plan.round.path q)
        → (at S q j).node ≡ v
        → StillMay S (g v) st (at S q j)
    pub own : Grows g c.registers (put g v st) c'.registers
        → LocalHolds S (put g v st) c'.registers p mine

  pub moved_grows : (p v : ℕ) (mine : RecoverableLocal) (st : Status) (g : Ghost)
      (c c' : World) → Moves p v mine st g c c'
      → Grows g c.registers (put g v st) c'.registers
  moved_grows p v mine st g c c' m = record {
    held = m.held;
    winner = λ u side e. elim (cases_eq u v) [
      | inl s ↦ ap winner_of (ap (put g v st) s ∙ put-same g v st)
          ∙ m.winner side (ap (λ (z : ℕ). winner_of (g z)) (sym s) ∙ e)
      | inr d ↦ ap winner_of (put-other g v st u d) ∙ e
    ];
  }

  pub moved : (p v : ℕ) (mine : RecoverableLocal) (st : Status) (g : Ghost)
      (c c' : World) → Holds S g c → Moves p v mine st g c c'
      → Holds S (put g v st) c'
  moved p v mine st g c c' h m =
      let grown = moved_grows p v mine st g c c' m in
      record {
        status = λ u. elim (cases_eq u v) [
          | inl s ↦ subst (λ (z : ℕ). StatusHolds S (put g v st z) (c'.objects z) c'.registers z)
              (sym s)
              (subst (λ (z : Status). StatusHolds S z (c'.objects v) c'.registers v)
              (sym (put-same g v st)) m.status)
          | inr d ↦ subst (λ (z : Status). StatusHolds S z (c'.objects u) c'.registers u)
              (sym (put-other g v st u d))
              (status_grows S (g u) (c.objects u) (c'.objects u) c.registers c'.registers u
              (m.held u) (m.objects u d) (h.status u))
        ];
        held = λ u side x k. (let o = m.new_held u side x k in (
          o.0,
          o.1,
          o.2,
          o.3,
          o.4,
          o.5,
          fed_grows S g (put g v st) c.registers c'.registers o.0 o.1 x grown o.6,
        ));
        local = λ q l. elim (cases_eq q p) [
          | inl s ↦ subst (λ (z : ℕ). LocalHolds S (put g v st) c'.registers z (c'.locals z))
              (sym s)
              (subst (LocalHolds S (put g v st) c'.registers p) (sym (m.locals p
              ∙ put-same c.locals p mine)) (m.own grown))
          | inr d ↦ subst (LocalHolds S (put g v st) c'.registers q) (sym (m.locals q
              ∙ put-other c.locals p mine q d))
              (local_grows S g (put g v st) c.registers c'.registers q (c.locals q) grown (λ j lj.
              still q j l d lj) (h.local q l))
        ];
      }
    where
      still : (q j : ℕ) → q < S.count → q ≢ p → j < length (S.plan.round.path q)
          → StillMay S (g (at S q j).node) (put g v st (at S q j).node) (at S q j)
      still q j l d lj = elim (cases_eq (at S q j).node v) [
        | inl s ↦ subst (λ (z : ℕ). StillMay S (g z) (put g v st z) (at S q j)) (sym s)
            (subst (λ (z : Status). StillMay S (g v) z (at S q j)) (sym (put-same g v st))
            (m.others q j l d lj s))
        | inr a ↦ subst (λ (z : Status). StillMay S (g (at S q j).node) z (at S q j))
            (sym (put-other g v st (at S q j).node a)) (λ k. k, λ k. k)
      ]

  -- what a step of process p from this local state leads to
  pub record Led (g : Ghost) (c : World) (p : ℕ) (old : RecoverableLocal) (c' : World) : Type 0
    where
      pub ghost : Ghost
      pub holds : Holds S ghost c'
      pub grows : Grows g c.registers ghost c'.registers
      pub nearer : rank S.plan p (c'.locals p) < rank S.plan p old

  pub led : (g : Ghost) (c : World) (p v : ℕ) (old mine : RecoverableLocal) (st : Status)
      (c' : World)
      → Holds S g c → Moves p v mine st g c c'
      → rank S.plan p mine < rank S.plan p old → Led g c p old c'
  led g c p v old mine st c' h m less = record {
    ghost = put g v st;
    holds = moved p v mine st g c c' h m;
    grows = moved_grows p v mine st g c c' m;
    nearer = subst (λ (l : RecoverableLocal). rank S.plan p l < rank S.plan p old) (sym (m.locals p
        ∙ put-same c.locals p mine)) less;
  }

  -- a move that changes no register and no object
  pub quietly : (g : Ghost) (c : World) (p v : ℕ) (old mine : RecoverableLocal) (st : Status)
      → Holds S g c
      → StatusHolds S st (c.objects v) c.registers v
      → ((side : Team) → winner_of (g v) ≡ Some side → winner_of st ≡ Some side)
      → ((q j : ℕ) → q < S.count → q ≢ p → j < length (S.plan.round.path q)
      → (at S q j).node ≡ v
      → StillMay S (g v) st (at S q j))
      → (Grows g c.registers (put g v st) c.registers
      → LocalHolds S (put g v st) c.registers p mine)
      → rank S.plan p mine < rank S.plan p old → Led g c p old (quiet c p mine)
  quietly g c p v old mine st h s w o own less =
      led g c p v old mine st (quiet c p mine) h
      (record {
        locals = λ q. refl;
        objects = λ u d. refl;
        held = λ u side x k. k;
        new_held =
            h.held;
        status = s;
        winner = w;
        others = o;
        own = own;
      }) less

  -- the status stays
  pub still : (g : Ghost) (c : World) (p v : ℕ) (old mine : RecoverableLocal) → Holds S g c
      → (Grows g c.registers (put g v (g v)) c.registers
      → LocalHolds S (put g v (g v)) c.registers p mine)
      → rank S.plan p mine < rank S.plan p old → Led g c p old (quiet c p mine)
  still g c p v old mine h own less = quietly g c p v old mine (g v) h (h.status v) (λ side e.
      e) (λ q j l d lj e. (λ k. k, λ k. k)) own less
