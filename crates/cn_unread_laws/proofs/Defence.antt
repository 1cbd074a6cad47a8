-- Two configurations of different valences, which differ in one object alone, with processes that
-- are about to move in both, have moved in one of them, or are lost: the object is defended.
use Rattle.std.proofs.Common.{◌≡◌, ◌≢◌, ℕ, zero, suc, ◌+◌, ◌<◌, inl, inr, [], ◌∷◌, length}
use Rattle.std.proofs.Common.{refl, sym, ap, ◌∙◌, subst, arith, true, false, true≢false}
use Rattle.std.proofs.Common.{None}
use Rattle.std.proofs.lemmas.Bool.{cases_eq}
use Rattle.cn_table.specs.TypeTable.{TypeTable, transition}
use Rattle.cn_consensus.specs.Protocol.{Action, IsActionOf, IsProtocolOf, Protocol}
use Rattle.cn_consensus.specs.Protocol.Action.{Decide, ReadRegister, WriteRegister, ApplyOperation}
use Rattle.cn_consensus.specs.Protocol.Action.{ReadObject}
use Rattle.cn_consensus.specs.Configuration.{Configuration, perform, put, step, decided_by}
use Rattle.cn_consensus.specs.Valence.{IsValent}
use Rattle.cn_consensus.proofs.Alike.{others_stepped, put-other, put-same}
use Rattle.cn_consensus.proofs.CriticalConfigurations.{valent_later}
use Rattle.cn_unread_laws.specs.Reads.{NeverReads, LeavesUnread}
use Rattle.cn_unread.specs.Defended.{EachMove, HoldsWithin, Position, Status, moved_first}
use Rattle.cn_unread.specs.Defended.{moved_second}
use Rattle.cn_unread.specs.Defended.Status.{AheadInFirst, AheadInSecond, Lost, Poised}
use Rattle.cn_unread_laws.proofs.FewSteps.{EndsIn}
use Rattle.cn_unread_laws.proofs.Split.{Split, split_elsewhere, split_here, split_look}
use Rattle.cn_unread_laws.proofs.Split.{split_read, split_there, split_write}

-- ---- more moves

each_more : (t : TypeTable) (H G : Position → Type 0) → ((y : Position) → H y → G y)
    → (x : Position) (j : ℕ) (s : Status) → EachMove t H x j s → EachMove t G x j s
each_more t H G up x j (Poised o) h = (up _ h.0, up _ h.1)
each_more t H G up x j (AheadInFirst o r) h =
    (λ e. (let m = h.0 e in (m.0, m.1, up _ m.2)), λ e. up _ (h.1 e))
each_more t H G up x j (AheadInSecond o r) h =
    (λ e. (let m = h.0 e in (m.0, m.1, up _ m.2)), λ e. up _ (h.1 e))
each_more t H G up x j Lost h = tt

pub holds_more : (t : TypeTable) (n k : ℕ) (x : Position) → HoldsWithin t n k x
    → HoldsWithin t n (suc k) x
holds_more t n zero x h = absurd h
holds_more t n (suc k) x h = λ j l.
    each_more t (HoldsWithin t n k) (HoldsWithin t n (suc k)) (holds_more t n k) x j (x.status j)
    (h j l)

module _ {L V : Type 0} (t : ℕ → TypeTable) (object n : ℕ) (P : Protocol L V)
    (known : IsProtocolOf t n P) (spared : NeverReads n P object) where
  -- what a status says of process j in two configurations
  abbrev pub Alongside : Configuration L V → Configuration L V → ℕ → Status → Type 0
  Alongside d e j (Poised o) =
      (k : ℕ → L) × (P.action j (d.locals j) ≡ ApplyOperation object o k)
      × (P.action j (e.locals j) ≡ ApplyOperation object o k)
  Alongside d e j (AheadInFirst o r) = (k : ℕ → L) × (d.locals j ≡ k r)
      × (P.action j (e.locals j) ≡ ApplyOperation object o k)
  Alongside d e j (AheadInSecond o r) = (k : ℕ → L) × (e.locals j ≡ k r)
      × (P.action j (d.locals j) ≡ ApplyOperation object o k)
  Alongside d e j Lost = Unit {0}

  alongside_kept : (d e f g : Configuration L V) (j : ℕ) (s : Status) → f.locals j ≡ d.locals j
      → g.locals j ≡ e.locals j → Alongside d e j s → Alongside f g j s
  alongside_kept d e f g j (Poised o) u v h =
      (h.0, ap (P.action j) u ∙ h.1, ap (P.action j) v ∙ h.2)
  alongside_kept d e f g j (AheadInFirst o r) u v h = (h.0, u ∙ h.1, ap (P.action j) v ∙ h.2)
  alongside_kept d e f g j (AheadInSecond o r) u v h = (h.0, v ∙ h.1, ap (P.action j) u ∙ h.2)
  alongside_kept d e f g j Lost u v h = tt

  pub put_status : (d e : Configuration L V) (x : ℕ → Status) (j : ℕ) (new : Status) (i : ℕ)
      → (i ≡ j → Alongside d e j new) → (i ≢ j → Alongside d e i (x i))
      → Alongside d e i (put x j new i)
  put_status d e x j new i here other = elim (cases_eq i j) [
    | inl s ↦ subst (λ (q : ℕ). Alongside d e q (put x j new q)) (sym s)
        (subst (Alongside d e j) (sym (put-same x j new)) (here s))
    | inr m ↦ subst (Alongside d e i) (sym (put-other x j new i m)) (other m)
  ]

  -- the position tells the two configurations
  pub record Tracks (x : Position) (d e : Configuration L V) : Type 0 where
    pub split : Split object x.first x.second d e
    pub here : IsValent t n P false d
    pub there : IsValent t n P true e
    pub status : (i : ℕ) → i < n → Alongside d e i (x.status i)

  -- it does so for all processes but j
  record Almost (x : Position) (j : ℕ) (d e : Configuration L V) : Type 0 where
    pub split : Split object x.first x.second d e
    pub here : IsValent t n P false d
    pub there : IsValent t n P true e
    pub status : (i : ℕ) → i < n → i ≢ j → Alongside d e i (x.status i)

  abbrev with_status : Position → ℕ → Status → Position
  with_status x j new = record {
    first = x.first;
    second = x.second;
    status = put x.status j new;
  }

  tracked : (x : Position) (j : ℕ) (d e : Configuration L V) (new : Status) → Almost x j d e
      → Alongside d e j new → Tracks (with_status x j new) d e
  tracked x j d e new h here = record {
    split = h.split;
    here = h.here;
    there = h.there;
    status = λ i l. put_status d e x.status j new i (λ s. here) (h.status i l);
  }

  abbrev first_after : Position → ℕ → Position
  first_after x o = record {
    first = (transition (t object) o x.first).1;
    second = x.second;
    status = x.status;
  }

  abbrev second_after : Position → ℕ → Position
  second_after x o = record {
    first = x.first;
    second = (transition (t object) o x.second).1;
    status = x.status;
  }

  -- a step of process j in one of the two
  module _ (x : Position) (d e : Configuration L V) (h : Tracks x d e) (j : ℕ) (l : j < n) (o : ℕ)
      (k : ℕ → L) where
    step_first : P.action j (d.locals j) ≡ ApplyOperation object o k
        → Almost (first_after x o) j (step t P d j) e
    step_first f = record {
      split = subst (λ (z : Configuration L V). Split object (transition (t object) o x.first).1
          x.second z e) (sym (ap (perform t d j) f))
          (split_here t object x.first x.second d e h.split j o k);
      here = valent_later t n P false d (j ∷ []) (l, tt) h.here;
      there = h.there;
      status = λ i li m. alongside_kept d e (step t P d j) e i (x.status i)
          (others_stepped t P j i d m) refl (h.status i li);
    }

    step_second : P.action j (e.locals j) ≡ ApplyOperation object o k
        → Almost (second_after x o) j d (step t P e j)
    step_second f = record {
      split = subst (λ (z : Configuration L V). Split object x.first
          (transition (t object) o x.second).1 d z) (sym (ap (perform t e j) f))
          (split_there t object x.first x.second d e h.split j o k);
      here = h.here;
      there = valent_later t n P true e (j ∷ []) (l, tt) h.there;
      status = λ i li m. alongside_kept d e d (step t P e j) i (x.status i) refl
          (others_stepped t P j i e m) (h.status i li);
    }

    told_first : P.action j (d.locals j) ≡ ApplyOperation object o k
        → (step t P d j).locals j ≡ k (transition (t object) o x.first).0
    told_first f = ap (λ (z : Configuration L V). z.locals j) (ap (perform t d j) f)
        ∙ (put-same d.locals j _ ∙ ap (λ (q : ℕ). k (transition (t object) o q).0) h.split.here)

    told_second : P.action j (e.locals j) ≡ ApplyOperation object o k
        → (step t P e j).locals j ≡ k (transition (t object) o x.second).0
    told_second f = ap (λ (z : Configuration L V). z.locals j) (ap (perform t e j) f)
        ∙ (put-same e.locals j _ ∙ ap (λ (q : ℕ). k (transition (t object) o q).0) h.split.there)

  -- ---- the protocol holds out

  abbrev Holds : ℕ → Position → Type 0
  Holds m x = HoldsWithin (t object) n m x

  -- from two configurations in which fewer than m steps are left
  abbrev pub AllHold : ℕ → Type 0
  AllHold m = (a b : ℕ) (d e : Configuration L V) → a + b < m → EndsIn t n P a d
      → EndsIn t n P b e → (x : Position) → Tracks x d e → Holds m x

  abbrev GoesOn : ℕ → Position → ℕ → Type 0
  GoesOn m x j = (o : ℕ) × (o < length (t object).operations)
      × Holds m (with_status x j (Poised o))

  -- and where process j has seen the same in both, it comes to an operation on the object
  abbrev AllGoOn : ℕ → Type 0
  AllGoOn m = (a b : ℕ) (d e : Configuration L V) → a + b < m → EndsIn t n P a d
      → EndsIn t n P b e → (x : Position) (j : ℕ) → j < n → Almost x j d e
      → d.locals j ≡ e.locals j → GoesOn m x j

  hold_more : (m : ℕ) → AllHold m → AllGoOn m → AllHold (suc m)
  hold_more m hold go a b d e less ea eb x h j l = by_status (x.status j) (h.status j l)
    where
      -- process j moves in the first run
      first : (o : ℕ) (k : ℕ → L) → P.action j (d.locals j) ≡ ApplyOperation object o k
          → (new : Status) → Alongside (step t P d j) e j new
          → Holds m (moved_first (t object) x j o new)
      first o k f new here = by_steps a less ea
        where
          by_steps : (a : ℕ) → a + b < suc m → EndsIn t n P a d
              → Holds m (moved_first (t object) x j o new)
          by_steps zero less ea = absurd (ea j l (ap decided_by f))
          by_steps (suc a) less ea = hold a b (step t P d j) e (omega (arith, less))
              (ea j l (ap decided_by f)) eb (moved_first (t object) x j o new)
              (tracked (first_after x o) j (step t P d j) e new (step_first x d e h j l o k f) here)

      second : (o : ℕ) (k : ℕ → L) → P.action j (e.locals j) ≡ ApplyOperation object o k
          → (new : Status) → Alongside d (step t P e j) j new
          → Holds m (moved_second (t object) x j o new)
      second o k f new here = by_steps b less eb
        where
          by_steps : (b : ℕ) → a + b < suc m → EndsIn t n P b e
              → Holds m (moved_second (t object) x j o new)
          by_steps zero less eb = absurd (eb j l (ap decided_by f))
          by_steps (suc b) less eb = hold a b d (step t P e j) (omega (arith, less)) ea
              (eb j l (ap decided_by f)) (moved_second (t object) x j o new)
              (tracked (second_after x o) j d (step t P e j) new (step_second x d e h j l o k f)
              here)

      -- process j moves in the first run, and has then seen the same in both
      first_even : (o : ℕ) (k : ℕ → L) → P.action j (d.locals j) ≡ ApplyOperation object o k
          → (step t P d j).locals j ≡ e.locals j
          → (i : ℕ) × (i < length (t object).operations)
          × Holds m (moved_first (t object) x j o (Poised i))
      first_even o k f same = by_steps a less ea
        where
          by_steps : (a : ℕ) → a + b < suc m → EndsIn t n P a d
              → (i : ℕ) × (i < length (t object).operations)
              × Holds m (moved_first (t object) x j o (Poised i))
          by_steps zero less ea = absurd (ea j l (ap decided_by f))
          by_steps (suc a) less ea = go a b (step t P d j) e (omega (arith, less))
              (ea j l (ap decided_by f)) eb (first_after x o) j l (step_first x d e h j l o k f) same

      second_even : (o : ℕ) (k : ℕ → L) → P.action j (e.locals j) ≡ ApplyOperation object o k
          → d.locals j ≡ (step t P e j).locals j
          → (i : ℕ) × (i < length (t object).operations)
          × Holds m (moved_second (t object) x j o (Poised i))
      second_even o k f same = by_steps b less eb
        where
          by_steps : (b : ℕ) → a + b < suc m → EndsIn t n P b e
              → (i : ℕ) × (i < length (t object).operations)
              × Holds m (moved_second (t object) x j o (Poised i))
          by_steps zero less eb = absurd (eb j l (ap decided_by f))
          by_steps (suc b) less eb = go a b d (step t P e j) (omega (arith, less)) ea
              (eb j l (ap decided_by f)) (second_after x o) j l (step_second x d e h j l o k f)
              same

      by_status : (s : Status) → Alongside d e j s → EachMove (t object) (Holds m) x j s
      by_status (Poised o) u = (
        first o u.0 u.1 (AheadInFirst o (transition (t object) o x.first).0)
            (u.0, told_first x d e h j l o u.0 u.1, u.2),
        second o u.0 u.2 (AheadInSecond o (transition (t object) o x.second).0)
            (u.0, told_second x d e h j l o u.0 u.2, u.1),
      )
      by_status (AheadInFirst o r) u = (
        λ q. second_even o u.0 u.2 (u.1 ∙ (ap u.0 (sym q)
            ∙ sym (told_second x d e h j l o u.0 u.2))),
        λ q. second o u.0 u.2 Lost tt,
      )
      by_status (AheadInSecond o r) u = (
        λ q. first_even o u.0 u.2 (told_first x d e h j l o u.0 u.2 ∙ (ap u.0 q ∙ sym u.1)),
        λ q. first o u.0 u.2 Lost tt,
      )
      by_status Lost u = tt

  go_more : (m : ℕ) → AllHold (suc m) → AllGoOn m → AllGoOn (suc m)
  go_more m hold go a b d e less ea eb x j l h same =
      by_action (P.action j (d.locals j)) refl (ap (P.action j) (sym same))
      (spared j (d.locals j) l) (known.operations_known j (d.locals j) l)
    where
      -- a step in both that does not touch the object
      silent : (act : Action L V) → P.action j (d.locals j) ≡ act → P.action j (e.locals j) ≡ act
          → decided_by act ≡ None
          → Split object x.first x.second (perform t d j act) (perform t e j act)
          → (perform t d j act).locals j ≡ (perform t e j act).locals j → GoesOn (suc m) x j
      silent act f g none split local =
          by_steps a b less ea eb
        where
          by_steps : (a b : ℕ) → a + b < suc m → EndsIn t n P a d → EndsIn t n P b e → GoesOn (suc m) x j
          by_steps zero b less ea eb = absurd (ea j l (ap decided_by f ∙ none))
          by_steps (suc a) zero less ea eb = absurd (eb j l (ap decided_by g ∙ none))
          by_steps (suc a) (suc b) less ea eb =
              let here : step t P d j ≡ perform t d j act = ap (perform t d j) f in
              let there : step t P e j ≡ perform t e j act = ap (perform t e j) g in
              let next = go a b (step t P d j) (step t P e j) (omega (arith, less))
              (ea j l (ap decided_by f ∙ none)) (eb j l (ap decided_by g ∙ none)) x j l
              (record {
                split = subst (λ (z : Configuration L V).
                    Split object x.first x.second z (step t P e j)) (sym here)
                    (subst (λ (z : Configuration L V).
                    Split object x.first x.second (perform t d j act) z) (sym there) split);
                here = valent_later t n P false d (j ∷ []) (l, tt) h.here;
                there = valent_later t n P true e (j ∷ []) (l, tt) h.there;
                status = λ i li ne. alongside_kept d e (step t P d j) (step t P e j) i
                    (x.status i) (others_stepped t P j i d ne) (others_stepped t P j i e ne)
                    (h.status i li ne);
              }) (ap (λ (z : Configuration L V). z.locals j) here ∙ (local
              ∙ ap (λ (z : Configuration L V). z.locals j) (sym there))) in
              (next.0, next.1, holds_more (t object) n m (with_status x j (Poised next.0)) next.2)

      at_object : (o : ℕ) (k : ℕ → L) → P.action j (d.locals j) ≡ ApplyOperation object o k
          → P.action j (e.locals j) ≡ ApplyOperation object o k → GoesOn (suc m) x j
      at_object o k f g = (
        o,
        subst (IsActionOf t) f (known.operations_known j (d.locals j) l),
        hold a b d e less ea eb (with_status x j (Poised o))
            (tracked x j d e (Poised o) h (k, f, g)),
      )

      by_action : (act : Action L V) → P.action j (d.locals j) ≡ act
          → P.action j (e.locals j) ≡ act → LeavesUnread object (P.action j (d.locals j))
          → IsActionOf t (P.action j (d.locals j)) → GoesOn (suc m) x j
      by_action (Decide y) f g u v = absurd (true≢false (sym (h.there [] tt j l y (ap decided_by g))
          ∙ h.here [] tt j l y (ap decided_by f)))
      by_action (ReadRegister i k) f g u v = silent (ReadRegister i k) f g refl
          (split_read t object x.first x.second d e h.split j i k)
          (put-same d.locals j _ ∙ (ap k (h.split.registers i) ∙ sym (put-same e.locals j _)))
      by_action (WriteRegister i w y) f g u v = silent (WriteRegister i w y) f g refl
          (split_write t object x.first x.second d e h.split j i w y)
          (put-same d.locals j y ∙ sym (put-same e.locals j y))
      by_action (ReadObject i k) f g u v = silent (ReadObject i k) f g refl
          (split_look t object x.first x.second d e h.split j i k)
          (put-same d.locals j _ ∙ (ap k (h.split.others i (subst (LeavesUnread object) f u))
          ∙ sym (put-same e.locals j _)))
      by_action (ApplyOperation i o k) f g u v = elim (cases_eq i object) [
        | inr ne ↦ silent (ApplyOperation i o k) f g refl
            (split_elsewhere t object x.first x.second d e h.split j i o k ne)
            (put-same d.locals j _ ∙ (ap (λ (q : ℕ). k (transition (t i) o q).0)
            (h.split.others i ne) ∙ sym (put-same e.locals j _)))
        | inl here ↦ at_object o k (f ∙ ap (λ (z : ℕ). ApplyOperation z o k) here)
            (g ∙ ap (λ (z : ℕ). ApplyOperation z o k) here)
      ]

  both : (m : ℕ) → AllHold m × AllGoOn m
  both zero = (
    λ a b d e less ea eb x h. absurd (omega (arith, less)),
    λ a b d e less ea eb x j l h same. absurd (omega (arith, less)),
  )
  both (suc m) =
      let r = both m in
      let hold = hold_more m r.0 r.1 in
      (hold, go_more m hold r.1)

  pub all_hold : (m : ℕ) → AllHold m
  all_hold m = (both m).0
