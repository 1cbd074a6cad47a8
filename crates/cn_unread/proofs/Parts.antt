-- Some of the processes of a choice are defended as well as all of them.
use Rattle.std.proofs.Common.{◌≡◌, ℕ, zero, suc, ◌-◌, ◌<◌, ◌≤◌, inl, inr, length, refl, sym, ap}
use Rattle.std.proofs.Common.{◌∙◌, subst}
use Rattle.std.specs.Prelude.{slice_index}
use Rattle.std.proofs.lemmas.Bool.{cases_eq}
use Rattle.cn_table.specs.TypeTable.{TypeTable, transition}
use Rattle.cn_choice.specs.RawChoices.{RawChoice}
use Rattle.cn_choice.specs.Renumbering.{Embeds}
use Rattle.cn_choice.proofs.NumberLemmas.FewerProcesses.{one_less}
use Rattle.cn_unread.specs.Functions.{put}
use Rattle.cn_unread.proofs.Functions.{put-other, put-same}
use Rattle.cn_unread.specs.Defended.{EachMove, HoldsWithin, IsDefended, IsDefendedFor, Position}
use Rattle.cn_unread.specs.Defended.{Status, start}
use Rattle.cn_unread.specs.Defended.Status.{AheadInFirst, AheadInSecond, Lost, Poised}

-- the position with these statuses
abbrev with_statuses : Position → (ℕ → Status) → Position
with_statuses x s = record { first = x.first; second = x.second; status = s }

module _ (f : ℕ → ℕ) (m n : ℕ) (inside : (i : ℕ) → i < m → f i < n)
    (apart : (i j : ℕ) → i < m → j < m → f i ≡ f j → i ≡ j) where
  put_part : (s x : ℕ → Status) (j i : ℕ) (new other : Status) → i < m → j < m → new ≡ other
      → s i ≡ x (f i) → put s j new i ≡ put x (f j) other (f i)
  put_part s x j i new other li lj e same = elim (cases_eq i j) [
    | inl here ↦ ap (put s j new) here ∙ (put-same s j new ∙ (e ∙ sym (ap (put x (f j) other)
        (ap f here) ∙ put-same x (f j) other)))
    | inr d ↦ put-other s j new i d ∙ (same ∙ sym (put-other x (f j) other (f i)
        (λ g. d (apart i j li lj g))))
  ]

  module _ (t : TypeTable) where
    -- a move of a part of the processes is a move of all of them
    part_moves : (H G : Position → Type 0) (x : Position) (s : ℕ → Status) (j : ℕ)
        → ((p q : ℕ) (new : Status) → H (record {
          first = p;
          second = q;
          status = put x.status (f j) new;
        }) → G (record { first = p; second = q; status = put s j new }))
        → (u : Status) → EachMove t H x (f j) u → EachMove t G (with_statuses x s) j u
    part_moves H G x s j up (Poised o) h = (up _ _ _ h.0, up _ _ _ h.1)
    part_moves H G x s j up (AheadInFirst o r) h =
        (λ e. (let r = h.0 e in (r.0, r.1, up _ _ _ r.2)), λ e. up _ _ _ (h.1 e))
    part_moves H G x s j up (AheadInSecond o r) h =
        (λ e. (let r = h.0 e in (r.0, r.1, up _ _ _ r.2)), λ e. up _ _ _ (h.1 e))
    part_moves H G x s j up Lost h = tt

    pub part_holds : (k : ℕ) (x : Position) (s : ℕ → Status)
        → ((i : ℕ) → i < m → s i ≡ x.status (f i)) → HoldsWithin t n k x
        → HoldsWithin t m k (with_statuses x s)
    part_holds zero x s same h = absurd h
    part_holds (suc k) x s same h = λ j l.
        subst (EachMove t (HoldsWithin t m k) (with_statuses x s) j) (sym (same j l))
        (part_moves (HoldsWithin t n k) (HoldsWithin t m k) x s j (λ p q new g.
        part_holds k (record { first = p; second = q; status = put x.status (f j) new })
        (put s j new) (λ i li. put_part s x.status j i new new li l refl (same i li)) g)
        (x.status (f j)) (h (f j) (inside j l)))

module _ (f : ℕ → ℕ) (d c : RawChoice) (e : Embeds f d c) (t : TypeTable) where
  abbrev op : ℕ → ℕ
  op i = slice_index d.operations i

  abbrev whole_op : ℕ → ℕ
  whole_op i = slice_index c.operations i

  same_move : (a : ℕ) → a < length d.operations
      → transition t (op a) d.state ≡ transition t (whole_op (f a)) c.state
  same_move a l = ap (λ (o : ℕ). transition t o d.state) (e.operation a l)
      ∙ ap (transition t (whole_op (f a))) e.same_state

  abbrev firsts : ℕ → ℕ → Status
  firsts a = put (λ j. Poised (op j)) a (AheadInFirst (op a) (transition t (op a) d.state).0)

  abbrev whole_firsts : ℕ → ℕ → Status
  whole_firsts a = put (λ j. Poised (whole_op j)) (f a) (AheadInFirst (whole_op (f a))
      (transition t (whole_op (f a)) c.state).0)

  same_firsts : (a : ℕ) → a < length d.operations → (i : ℕ) → i < length d.operations
      → firsts a i ≡ whole_firsts a (f i)
  same_firsts a la i l =
      put_part f (length d.operations) (length c.operations) e.inside e.apart
      (λ j. Poised (op j)) (λ j. Poised (whole_op j)) a i
      (AheadInFirst (op a) (transition t (op a) d.state).0)
      (AheadInFirst (whole_op (f a)) (transition t (whole_op (f a)) c.state).0) l la
      (ap (λ (o : ℕ). AheadInFirst o (transition t (op a) d.state).0) (e.operation a la)
      ∙ ap (λ (q : ℕ × ℕ). AheadInFirst (whole_op (f a)) q.0) (same_move a la))
      (ap Poised (e.operation i l))

  same_status : (a b : ℕ) → a < length d.operations → b < length d.operations → (i : ℕ)
      → i < length d.operations
      → (start t d a b).status i ≡ (start t c (f a) (f b)).status (f i)
  same_status a b la lb i l =
      put_part f (length d.operations) (length c.operations) e.inside e.apart (firsts a)
      (whole_firsts a) b i (AheadInSecond (op b) (transition t (op b) d.state).0)
      (AheadInSecond (whole_op (f b)) (transition t (whole_op (f b)) c.state).0) l lb
      (ap (λ (o : ℕ). AheadInSecond o (transition t (op b) d.state).0) (e.operation b lb)
      ∙ ap (λ (q : ℕ × ℕ). AheadInSecond (whole_op (f b)) q.0) (same_move b lb))
      (same_firsts a la i l)

  part_starts : (k a b : ℕ) → a < length d.operations → b < length d.operations
      → HoldsWithin t (length c.operations) k (start t c (f a) (f b))
      → HoldsWithin t (length d.operations) k (start t d a b)
  part_starts k a b la lb h =
      subst (λ (p : ℕ). HoldsWithin t (length d.operations) k (record {
        first = p;
        second = (transition t (op b) d.state).1;
        status = (start t d a b).status;
      })) (sym (ap (λ (q : ℕ × ℕ). q.1) (same_move a la)))
      (subst (λ (p : ℕ). HoldsWithin t (length d.operations) k (record {
        first = (transition t (whole_op (f a)) c.state).1;
        second = p;
        status = (start t d a b).status;
      })) (sym (ap (λ (q : ℕ × ℕ). q.1) (same_move b lb)))
      (part_holds f (length d.operations) (length c.operations) e.inside e.apart t k
      (start t c (f a) (f b)) (start t d a b).status (same_status a b la lb) h))

  pub part_defended : IsDefended t c → IsDefended t d
  part_defended h a b la lb in_a in_b =
      let r = h (f a) (f b) (e.inside a la) (e.inside b lb) (sym (e.team a la) ∙ in_a)
      (sym (e.team b lb) ∙ in_b) in
      (r.0, part_starts r.0 a b la lb r.1)

pub defended_below : (t : TypeTable) (n : ℕ) → 3 ≤ n → IsDefendedFor t n → IsDefendedFor t (n - 1)
defended_below t = one_less (IsDefended t) (λ f d c e. part_defended f d c e t) t
