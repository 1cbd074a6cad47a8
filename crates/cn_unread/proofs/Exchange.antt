-- The game with the two runs exchanged: so a choice is defended with its teams exchanged, and in
-- its canonical form.
use Rattle.std.proofs.Common.{◌≡◌, ◌≢◌, ℕ, zero, suc, ◌⊎◌, inl, inr, length, map, refl, sym, ap}
use Rattle.std.proofs.Common.{◌∙◌, subst, Option, Some, None}
use Rattle.std.specs.Prelude.{slice_get, slice_index}
use Rattle.std.specs.Option.{option_map}
use Rattle.std.proofs.lemmas.Bool.{cases_eq}
use Rattle.std.proofs.lemmas.Option.{slice_get-map}
use Rattle.cn_table.specs.TypeTable.{TypeTable, transition}
use Rattle.cn_choice.specs.Canonical.{Choice, IsCanonical, IsCanonicalForm, raw_choice_of}
use Rattle.cn_choice.specs.RawChoices.{IsRawChoice, RawChoice}
use Rattle.cn_choice.specs.Renumbering.{IsRenumbering, other, with_other_teams}
use Rattle.cn_choice.specs.declared.team.Team.{Team}
use Rattle.cn_choice.specs.declared.team.Team.TheVariants.{A, B}
use Rattle.cn_unread.specs.Functions.{put}
use Rattle.cn_unread.proofs.Functions.{put-other, put-same}
use Rattle.cn_unread.specs.Defended.{EachMove, HoldsWithin, IsDefended, Position, Status, start}
use Rattle.cn_unread.specs.Defended.Status.{AheadInFirst, AheadInSecond, Lost, Poised}
use Rattle.cn_unread.proofs.Parts.{part_defended}

-- the status with the runs exchanged
abbrev swapped : Status → Status
swapped (Poised o) = Poised o
swapped (AheadInFirst o r) = AheadInSecond o r
swapped (AheadInSecond o r) = AheadInFirst o r
swapped Lost = Lost

abbrev exchanged : Position → (ℕ → Status) → Position
exchanged x s = record { first = x.second; second = x.first; status = s }

put_swapped : (s x : ℕ → Status) (j i : ℕ) (new : Status) → s i ≡ swapped (x i)
    → put s j (swapped new) i ≡ swapped (put x j new i)
put_swapped s x j i new same = elim (cases_eq i j) [
  | inl here ↦ ap (put s j (swapped new)) here ∙ (put-same s j (swapped new)
      ∙ sym (ap (λ (k : ℕ). swapped (put x j new k)) here ∙ ap swapped (put-same x j new)))
  | inr apart ↦ put-other s j (swapped new) i apart
      ∙ (same ∙ sym (ap swapped (put-other x j new i apart)))
]

module _ (t : TypeTable) (n : ℕ) where
  exchanged_moves : (H : Position → Type 0) (x : Position) (s : ℕ → Status) (j : ℕ)
      → ((p q : ℕ) (new : Status) → H (record {
        first = p;
        second = q;
        status = put x.status j new;
      }) → H (record { first = q; second = p; status = put s j (swapped new) }))
      → (u : Status) → EachMove t H x j u → EachMove t H (exchanged x s) j (swapped u)
  exchanged_moves H x s j up (Poised o) h = (
    up x.first (transition t o x.second).1 (AheadInSecond o (transition t o x.second).0) h.1,
    up (transition t o x.first).1 x.second (AheadInFirst o (transition t o x.first).0) h.0,
  )
  exchanged_moves H x s j up (AheadInFirst o r) h = (
    λ e. (let m = h.0 e in (m.0, m.1, up x.first (transition t o x.second).1 (Poised m.0) m.2)),
    λ e. up x.first (transition t o x.second).1 Lost (h.1 e),
  )
  exchanged_moves H x s j up (AheadInSecond o r) h = (
    λ e. (let m = h.0 e in (m.0, m.1, up (transition t o x.first).1 x.second (Poised m.0) m.2)),
    λ e. up (transition t o x.first).1 x.second Lost (h.1 e),
  )
  exchanged_moves H x s j up Lost h = tt

  exchange_holds : (k : ℕ) (x : Position) (s : ℕ → Status)
      → ((i : ℕ) → s i ≡ swapped (x.status i)) → HoldsWithin t n k x
      → HoldsWithin t n k (exchanged x s)
  exchange_holds zero x s same h = absurd h
  exchange_holds (suc k) x s same h = λ j l.
      subst (EachMove t (HoldsWithin t n k) (exchanged x s) j) (sym (same j))
      (exchanged_moves (HoldsWithin t n k) x s j (λ p q new g.
      exchange_holds k (record { first = p; second = q; status = put x.status j new })
      (put s j (swapped new)) (λ i. put_swapped s x.status j i new (same i)) g)
      (x.status j) (h j l))

module _ (t : TypeTable) (c : RawChoice) where
  abbrev op : ℕ → ℕ
  op i = slice_index c.operations i

  abbrev in_first : ℕ → Status
  in_first a = AheadInFirst (op a) (transition t (op a) c.state).0

  abbrev in_second : ℕ → Status
  in_second a = AheadInSecond (op a) (transition t (op a) c.state).0

  abbrev poised : ℕ → Status
  poised i = Poised (op i)

  same_start : (a b : ℕ) → a ≢ b → (i : ℕ)
      → put (put poised a (in_first a)) b (in_second b) i
      ≡ swapped (put (put poised b (in_first b)) a (in_second a) i)
  same_start a b apart i = elim (cases_eq i b) [
    | inl at_b ↦ ap (put (put poised a (in_first a)) b (in_second b)) at_b
        ∙ (put-same (put poised a (in_first a)) b (in_second b)
        ∙ sym (ap swapped (ap (put (put poised b (in_first b)) a (in_second a)) at_b
        ∙ (put-other (put poised b (in_first b)) a (in_second a) b (λ e. apart (sym e))
        ∙ put-same poised b (in_first b)))))
    | inr not_b ↦ put-other (put poised a (in_first a)) b (in_second b) i not_b
        ∙ (put_swapped poised poised a i (in_second a) refl
        ∙ ap swapped (sym (put_over i not_b)))
  ]
    where
      put_over : (i : ℕ) → i ≢ b
          → put (put poised b (in_first b)) a (in_second a) i ≡ put poised a (in_second a) i
      put_over i not_b = elim (cases_eq i a) [
        | inl at_a ↦ ap (put (put poised b (in_first b)) a (in_second a)) at_a
            ∙ (put-same (put poised b (in_first b)) a (in_second a)
            ∙ sym (ap (put poised a (in_second a)) at_a ∙ put-same poised a (in_second a)))
        | inr not_a ↦ put-other (put poised b (in_first b)) a (in_second a) i not_a
            ∙ (put-other poised b (in_first b) i not_b
            ∙ sym (put-other poised a (in_second a) i not_a))
      ]

  other_mark : (i : ℕ) (team : Team) → slice_get (map other c.marks) i ≡ Some team
      → slice_get c.marks i ≡ Some (other team)
  other_mark i team e = by_mark (slice_get c.marks i) team (sym (slice_get-map other c.marks i) ∙ e)
    where
      by_mark : (o : Option Team) (team : Team) → option_map other o ≡ Some team
          → o ≡ Some (other team)
      by_mark None team e = absurd (cc e)
      by_mark (Some A) A e = absurd (cc e)
      by_mark (Some A) B e = refl
      by_mark (Some B) A e = refl
      by_mark (Some B) B e = absurd (cc e)

  two_teams : (a b : ℕ) → slice_get c.marks a ≡ Some B → slice_get c.marks b ≡ Some A → a ≢ b
  two_teams a b in_b in_a e = differ (sym in_a ∙ (ap (slice_get c.marks) (sym e) ∙ in_b))
    where
      differ : Some A ≡ Some B → ⊥
      differ s = absurd (cc s)

  pub exchange_defended : IsDefended t c → IsDefended t (with_other_teams c)
  exchange_defended d a b la lb in_a in_b =
      let of_a = other_mark a A in_a in
      let of_b = other_mark b B in_b in
      let h = d b a lb la of_b of_a in (
        h.0,
        exchange_holds t (length c.operations) h.0 (start t c b a)
            (put (put poised a (in_first a)) b (in_second b))
            (same_start a b (two_teams a b of_a of_b)) h.1,
      )

-- what the law `coverage` of `cn_choice` says
abbrev pub Coverage : Type 0
Coverage = (t : TypeTable) (n : ℕ) (c : RawChoice) → IsRawChoice t n c
    → (d : Choice) × IsCanonicalForm t n d c

pub canonical_defended : Coverage → (t : TypeTable) (n : ℕ) (c : RawChoice) → IsRawChoice t n c
    → IsDefended t c → (d : Choice) × IsCanonical d × IsRawChoice t n (raw_choice_of d)
    × IsDefended t (raw_choice_of d)
canonical_defended coverage t n c is h =
    let f = coverage t n c is in
    (f.0, f.1.canonical, f.1.for_n, by_form f.0 f.1.renumbered)
  where
    by_form : (d : Choice) → IsRenumbering (raw_choice_of d) c
        ⊎ IsRenumbering (raw_choice_of d) (with_other_teams c) → IsDefended t (raw_choice_of d)
    by_form d (inl r) = part_defended r.0 (raw_choice_of d) c r.1 t h
    by_form d (inr r) = part_defended r.0 (raw_choice_of d) (with_other_teams c) r.1 t
        (exchange_defended t c h)
