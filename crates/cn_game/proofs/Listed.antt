-- A listed trap is a trap.
use Rattle.std.proofs.Common.{◌≡◌, ℕ, ◌<◌, ◌≤◌, inl, inr, refl, sym, ap, ◌∙◌}
use Rattle.std.proofs.Common.{subst, arith, List, length, All}
use Rattle.std.specs.Prelude.{Contains}
use Rattle.cn_table.specs.TypeTable.{TypeTable, transition}
use Rattle.cn_choice.specs.Canonical.{Choice, IsCanonical, raw_choice_of}
use Rattle.cn_choice.specs.Discerning.{IsWitness}
use Rattle.cn_choice.specs.Live.{IsLive, live_choices}
use Rattle.cn_choice.specs.RawChoices.{IsRawChoice, RawChoice}
use Rattle.cn_unread.specs.Defended.{HoldsWithin, IsDefended, IsDefendedFor, Position, Status}
use Rattle.cn_unread.specs.Defended.{moved_first, moved_second, start}
use Rattle.cn_unread.specs.Defended.Status.{AheadInFirst, AheadInSecond, Lost, Poised}
use Rattle.cn_unread.specs.Functions.{put}
use Rattle.cn_unread.specs.Traps.{IsTrap, SomeMove}
use Rattle.cn_unread.proofs.Functions.{put-same}
use Rattle.cn_unread.proofs.Traps.{trapped}
use Rattle.cn_game.specs.Boards.{position_of, times}
use Rattle.cn_game.specs.TrapLists.{IsBoardOf, IsCaught, IsCaughtStart, IsPart, IsTrapList, LeadsBack}
use Rattle.cn_game.specs.TrapLists.{ThisMove}
use Rattle.cn_game.specs.declared.board.Run.{Run}
use Rattle.cn_game.specs.declared.board.Run.TheVariants.{First, Second}
use Rattle.cn_game.specs.declared.trap.Turn.{Turn}
use Rattle.cn_game.proofs.Counts.{one, some-times, times-put, times-some}

-- among n processes are m others with these statuses
abbrev IsAmong : ℕ → (ℕ → Status) → ℕ → (ℕ → Status) → Type 0
IsAmong m f n g = (s : Status) → times s f m ≤ times s g n

among_put : (m n : ℕ) (f g : ℕ → Status) (i j : ℕ) (u : Status) → i < m → j < n → f i ≡ g j
    → IsAmong m f n g → IsAmong m (put f i u) n (put g j u)
among_put m n f g i j u li lj e h s =
    let a = times-put s f m i u li in
    let b = times-put s g n j u lj in
    let d : one s (f i) ≡ one s (g j) = ap (one s) e in
    let k = h s in omega (arith, a, b, d, k)

found_among : (m n : ℕ) (f g : ℕ → Status) (i : ℕ) (s : Status) → i < m → f i ≡ s
    → IsAmong m f n g → (j : ℕ) × (j < n) × (g j ≡ s)
found_among m n f g i s l e h =
    let a = times-some s f m i l e in
    let k = h s in some-times s g n (omega (arith, a, k))

module _ (t : TypeTable) (n : ℕ) (trap : List Turn)
    (is : All (λ turn. IsBoardOf t turn.board × LeadsBack t trap turn) trap) where
  -- caught, or one move behind a leaf
  data Held (x : Position) : Type 0 where
    Caught : IsCaught trap n x → Held x
    LeafAhead : (j o r : ℕ) → j < n → x.first ≡ (transition t o x.second).1
        → r ≡ (transition t o x.second).0 → x.status j ≡ AheadInFirst o r → Held x

  -- what catches a part of the processes catches all of them
  carried : (m : ℕ) (y x : Position) → y.first ≡ x.first → y.second ≡ x.second
      → IsAmong m y.status n x.status → IsCaught trap m y → Held x
  carried m y x e f h (inl leaf) =
      let r = found_among m n y.status x.status leaf.1.0 (Poised leaf.1.1) leaf.1.2 leaf.1.3 h in
      Caught (inl (sym e ∙ (leaf.0 ∙ f), (r.0, leaf.1.1, r.1, r.2)))
  carried m y x e f h (inr p) = Caught (inr (
    p.0,
    p.1,
    p.2,
    p.3,
    (
      p.4.0 ∙ e,
      p.4.1 ∙ f,
      λ s. (let a = p.4.2 s in let b = h s in omega (arith, a, b)),
    ),
  ))

  module _ (m : ℕ) (y x : Position) (e : y.first ≡ x.first) (f : y.second ≡ x.second)
      (h : IsAmong m y.status n x.status) (i j : ℕ) (li : i < m) (lj : j < n)
      (g : y.status i ≡ x.status j) where
    first_too : (o : ℕ) (u : Status) → IsCaught trap m (moved_first t y i o u)
        → Held (moved_first t x j o u)
    first_too o u = carried m (moved_first t y i o u) (moved_first t x j o u)
        (ap (λ (q : ℕ). (transition t o q).1) e) f
        (among_put m n y.status x.status i j u li lj g h)

    second_too : (o : ℕ) (u : Status) → IsCaught trap m (moved_second t y i o u)
        → Held (moved_second t x j o u)
    second_too o u = carried m (moved_second t y i o u) (moved_second t x j o u) e
        (ap (λ (q : ℕ). (transition t o q).1) f)
        (among_put m n y.status x.status i j u li lj g h)

    first_response : (o : ℕ) → (transition t o y.first).0 ≡ (transition t o x.first).0
    first_response o = ap (λ (q : ℕ). (transition t o q).0) e

    second_response : (o : ℕ) → (transition t o y.second).0 ≡ (transition t o x.second).0
    second_response o = ap (λ (q : ℕ). (transition t o q).0) f

    moves_too : (run : Run) (s : Status) → ThisMove t (IsCaught trap m) y i run s
        → SomeMove t Held x j s
    moves_too First (Poised o) k = inl (subst
        (λ (r : ℕ). Held (moved_first t x j o (AheadInFirst o r))) (first_response o)
        (first_too o _ k))
    moves_too Second (Poised o) k = inr (subst
        (λ (r : ℕ). Held (moved_second t x j o (AheadInSecond o r))) (second_response o)
        (second_too o _ k))
    moves_too run (AheadInFirst o r) k = (
      λ w c l. second_too o _ (k.0 (second_response o ∙ w) c l),
      λ d. second_too o _ (k.1 (λ w. d (sym (second_response o) ∙ w))),
    )
    moves_too run (AheadInSecond o r) k = (
      λ w c l. first_too o _ (k.0 (first_response o ∙ w) c l),
      λ d. first_too o _ (k.1 (λ w. d (sym (first_response o) ∙ w))),
    )
    moves_too run Lost k = k

  by_turn : (x : Position) (turn : Turn) → LeadsBack t trap turn → IsPart turn.board n x
      → (j : ℕ) × (j < n) × SomeMove t Held x j (x.status j)
  by_turn x turn back part =
      let y : Position = position_of turn.board in
      let m : ℕ = length turn.board.standings.items in
      let r = found_among m n y.status x.status turn.process (y.status turn.process) back.0 refl
      part.2 in (
        r.0,
        r.1,
        subst (SomeMove t Held x r.0) (sym r.2) (moves_too m y x part.0 part.1 part.2 turn.process
            r.0 back.0 r.1 (sym r.2) turn.run (y.status turn.process) back.1),
      )

  held : IsTrap t n Held
  held x (Caught (inl leaf)) = (
    leaf.1.0,
    leaf.1.2,
    subst (SomeMove t Held x leaf.1.0) (sym leaf.1.3) (inl (LeafAhead leaf.1.0 leaf.1.1 _ leaf.1.2
        (ap (λ (q : ℕ). (transition t leaf.1.1 q).1) leaf.0)
        (ap (λ (q : ℕ). (transition t leaf.1.1 q).0) leaf.0) (put-same x.status leaf.1.0 _))),
  )
  held x (Caught (inr p)) = by_turn x p.1 (subst (LeadsBack t trap) p.3 (is p.0 p.1 p.2).1) p.4
  held x (LeafAhead j o r l e f s) = (
    j,
    l,
    subst (SomeMove t Held x j) (sym s) (
      λ g m k. Caught (inl (e, (j, m, l, put-same x.status j _))),
      λ d. absurd (d (sym f)),
    ),
  )

  pub caught_never_holds : (k : ℕ) (x : Position) → IsCaught trap n x → HoldsWithin t n k x → ⊥
  caught_never_holds k x h = trapped t n Held held k x (Caught h)

module _ (t : TypeTable) (n : ℕ) (trap : List Turn) (is : IsTrapList t n trap) where
  -- a choice that begins in the trap is not defended
  caught_choice : (c : RawChoice) → length c.operations ≡ n → IsCaughtStart t trap c
      → IsDefended t c → ⊥
  caught_choice c many h d =
      let g = d h.0 h.1 h.2 h.3 h.4 h.5 in
      caught_never_holds t (length c.operations) trap is.leads_back g.0 (start t c h.0 h.1) h.6 g.1

  -- only a live choice is defended
  pub listed_refutes : ((c : RawChoice) → IsRawChoice t n c → IsDefended t c
      → (d : Choice) × IsCanonical d × IsRawChoice t n (raw_choice_of d)
      × IsDefended t (raw_choice_of d))
      → ((c : RawChoice) → IsRawChoice t n c → IsDefended t c → IsWitness t c)
      → ((c : RawChoice) → IsRawChoice t n c → (IsLive t c → ⊥) → IsWitness t c → ⊥)
      → ((c : Choice) → (IsCanonical c × IsRawChoice t n (raw_choice_of c)
      × IsLive t (raw_choice_of c)) → Contains (live_choices t n) c) → IsDefendedFor t n → ⊥
  listed_refutes cover witness live listed h =
      let d = cover h.0 h.1 h.2 in
      live (raw_choice_of d.0) d.2
      (λ l. (let k = listed d.0 (d.1, d.2, l) in caught_choice (raw_choice_of d.0)
      d.2.one_operation_each (subst (λ (c : Choice). IsCaughtStart t trap (raw_choice_of c)) k.2
      (is.catches_all k.0 d.0 k.1)) d.3))
      (witness (raw_choice_of d.0) d.2 d.3)
