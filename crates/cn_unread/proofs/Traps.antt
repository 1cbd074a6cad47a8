-- In a trap no protocol holds out.
use Rattle.std.proofs.Common.{◌≡◌, ℕ, zero, suc, ◌<◌, inl, inr, length, sym, subst}
use Rattle.std.proofs.lemmas.Bool.{cases_eq}
use Rattle.cn_table.specs.TypeTable.{TypeTable, transition}
use Rattle.cn_choice.specs.RawChoices.{RawChoice}
use Rattle.cn_unread.specs.Defended.{EachMove, HoldsWithin, IsDefendedFor, Position}
use Rattle.cn_unread.specs.Defended.{Status, start}
use Rattle.cn_unread.specs.Defended.Status.{AheadInFirst, AheadInSecond, Lost, Poised}
use Rattle.cn_unread.specs.Traps.{CatchesAll, IsTrap, SomeMove}

module _ (t : TypeTable) (n : ℕ) (H : Position → Type 0) where
  -- a move into the trap is among all moves
  caught : (G : Position → Type 0) → ((y : Position) → H y → G y → ⊥) → (x : Position) (j : ℕ)
      → (s : Status) → SomeMove t H x j s → EachMove t G x j s → ⊥
  caught G never x j (Poised o) (inl h) g = never _ h g.0
  caught G never x j (Poised o) (inr h) g = never _ h g.1
  caught G never x j (AheadInFirst o r) h g = elim (cases_eq (transition t o x.second).0 r) [
    | inl e ↦ (let m = g.0 e in never _ (h.0 e m.0 m.1) m.2)
    | inr d ↦ never _ (h.1 d) (g.1 d)
  ]
  caught G never x j (AheadInSecond o r) h g = elim (cases_eq (transition t o x.first).0 r) [
    | inl e ↦ (let m = g.0 e in never _ (h.0 e m.0 m.1) m.2)
    | inr d ↦ never _ (h.1 d) (g.1 d)
  ]
  caught G never x j Lost h g = h

  pub trapped : IsTrap t n H → (k : ℕ) (x : Position) → H x → HoldsWithin t n k x → ⊥
  trapped trap zero x h g = g
  trapped trap (suc k) x h g = let r = trap x h in
      caught (HoldsWithin t n k) (trapped trap k) x r.0 (x.status r.0) r.2 (g r.0 r.1)

  pub not_defended : IsTrap t n H → CatchesAll t n H → IsDefendedFor t n → ⊥
  not_defended trap all d =
      let c : RawChoice = d.0 in
      let many : length c.operations ≡ n = d.1.one_operation_each in
      let r = all c d.1 in
      let g = d.2 r.0 r.1 (subst (λ (m : ℕ). r.0 < m) (sym many) r.2)
      (subst (λ (m : ℕ). r.1 < m) (sym many) r.3) r.4 r.5 in
      trapped trap g.0 (start t c r.0 r.1) r.6
      (subst (λ (m : ℕ). HoldsWithin t m g.0 (start t c r.0 r.1)) many g.1)
