-- What processes keep, and the tests of it.
use Rattle.std.proofs.Common.{◌≡◌, ℕ, zero, suc, ◌<◌, inl, inr, List, [], ◌∷◌, length, refl}
use Rattle.std.proofs.Common.{sym, ap}
use Rattle.std.proofs.Common.{◌∙◌, arith, Bool, true, ◌&&◌, nat_eq, set, get_or, All}
use Rattle.std.specs.Prelude.{Some, None, Decides}
use Rattle.std.proofs.lemmas.Bool.{cases_Bool, cases_eq, cond-false, cond-true, eq-eqb, ne_eqb}
use Rattle.std.proofs.lemmas.Bool.Decides.{Decides-and, Decides-below_and, Decides-eqb, Decides-like}
use Rattle.std.proofs.lemmas.List.{get_or-set_other, get_or-set_same, get_or_default}
use Rattle.std.proofs.lemmas.List.Elements.{All-head, All-tail}
use Rattle.std.proofs.lemmas.Option.{same_Some}
use Rattle.cn_table.specs.TypeTable.{TypeTable}
use Rattle.cn_unread.specs.Functions.{put}
use Rattle.cn_unread.specs.Nodes.{Scene}
use Rattle.cn_further.specs.FurtherNodes.{further_of, next_by}
use Rattle.cn_further.specs.SceneLists.{AgreeFor, kept_at, kept_of, same_kept}
use Rattle.cn_further.specs.declared.follow_up.FollowUp.{FollowUp}
use Rattle.cn_further.specs.declared.stage.Stage.{Stage}
use Rattle.cn_further.specs.declared.stage.Stage.TheVariants.{Waiting}

pair_same : (x y : ℕ × ℕ) → (x.0 ≡ y.0) × (x.1 ≡ y.1) → x ≡ y
pair_same x y p = λ i. (p.0 i, p.1 i)

pub pair_parts : (x y : ℕ × ℕ) → x ≡ y → (x.0 ≡ y.0) × (x.1 ≡ y.1)
pair_parts x y e = (ap (λ (z : ℕ × ℕ). z.0) e, ap (λ (z : ℕ × ℕ). z.1) e)

pub same_kept_decides : (x y : ℕ × ℕ) → Decides (same_kept x y) (x ≡ y)
same_kept_decides x y = Decides-like (same_kept x y) (pair_same x y) (pair_parts x y)
    (Decides-and (nat_eq x.0 y.0) (nat_eq x.1 y.1) (Decides-eqb x.0 y.0) (Decides-eqb x.1 y.1))

-- whether two scenes agree
abbrev pub keep_alike : (ℕ → ℕ × ℕ) → (ℕ → ℕ × ℕ) → ℕ → Bool
keep_alike f g zero = true
keep_alike f g (suc n) = same_kept (f n) (g n) && keep_alike f g n

abbrev pub agree : ℕ → Scene → Scene → Bool
agree n v w = nat_eq v.object w.object && keep_alike v.kept w.kept n

pub agree_decides : (n : ℕ) (v w : Scene) → Decides (agree n v w) (AgreeFor n v w)
agree_decides n v w = Decides-and (nat_eq v.object w.object) (keep_alike v.kept w.kept n)
    (Decides-eqb v.object w.object)
    (Decides-below_and (λ j. same_kept (v.kept j) (w.kept j)) (λ j. v.kept j ≡ w.kept j)
    (keep_alike v.kept w.kept) (λ j. same_kept_decides (v.kept j) (w.kept j)) refl (λ _. refl) n)

-- another stage in a place of the list
pub kept_at-set : (xs : List Stage) (i : ℕ) (s : Stage) → i < length xs → (j : ℕ)
    → kept_at (set xs i s) j ≡ put (kept_at xs) i (kept_of s) j
kept_at-set xs i s l j = elim (cases_eq j i) [
  | inl e ↦ ap kept_of (ap (λ (k : ℕ). get_or (set xs i s) k Waiting) e
      ∙ get_or-set_same xs i s Waiting l)
      ∙ sym (cond-true (nat_eq j i) (kept_of s) (kept_at xs j) (eq-eqb j i e))
  | inr d ↦ ap kept_of (get_or-set_other xs i j s Waiting d)
      ∙ sym (cond-false (nat_eq j i) (kept_of s) (kept_at xs j) (ne_eqb j i d))
]

-- a read at another default
pub read_kept : (xs : List Stage) (i : ℕ) (d : Stage) → i < length xs
    → kept_of (get_or xs i d) ≡ kept_at xs i
read_kept xs i d l = ap kept_of (get_or_default xs i d Waiting l)

-- a further operation is one of the list
pub further_known : (t : TypeTable) (fs : List FollowUp)
    → All (λ f. f.further.0 < length t.operations) fs → (o r x : ℕ) → further_of fs o r ≡ Some x
    → x < length t.operations
further_known t [] known o r x e = absurd (none_some x e)
  where
    none_some : (y : ℕ) → None ≡ Some y → ⊥
    none_some y z = cc z
further_known t (f ∷ fs) known o r x e =
    let b : Bool = nat_eq f.operation.0 o && nat_eq f.response.0 r in elim (cases_Bool b) [
      | inl y ↦ below (same_Some f.further.0 x
          (sym (cond-true b (Some f.further.0) (further_of fs o r) y) ∙ e))
          (All-head (λ (g : FollowUp). g.further.0 < length t.operations) f fs known)
      | inr z ↦ further_known t fs
          (All-tail (λ (g : FollowUp). g.further.0 < length t.operations) f fs known) o r x
          (sym (cond-false b (Some f.further.0) (further_of fs o r) z) ∙ e)
    ]
  where
    below : {y z : ℕ} → y ≡ z → y < length t.operations → z < length t.operations
    below p l = omega (arith, p, l)

-- so is the next operation
pub next_known : (t : TypeTable) (fs : List FollowUp)
    → All (λ f. f.further.0 < length t.operations) fs → (own : ℕ) → own < length t.operations
    → (first second x : ℕ) → next_by (further_of fs) own first second ≡ Some x
    → x < length t.operations
next_known t fs known own l zero second x e =
    let p = same_Some own x e in omega (arith, p, l)
next_known t fs known own l (suc r) zero x e = further_known t fs known own r x e
next_known t fs known own l (suc r) (suc s) x e = absurd (none_some e)
  where
    none_some : None ≡ Some x → ⊥
    none_some z = cc z
