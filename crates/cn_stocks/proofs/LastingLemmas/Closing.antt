-- Sets of states that an operation leads to, any number of times.
use Rattle.std.proofs.Common.{◌≡◌, ◌≢◌, ℕ, zero, suc, ◌+◌, ◌⊎◌, inl, inr, ◌↔◌, ◌∷◌, refl, sym, ap, ◌∙◌, subst, Option, Some, None}
use Rattle.std.specs.Prelude.{replicate}
use Rattle.std.proofs.lemmas.List.{replicate_more}
use Rattle.cn_table.specs.TypeTable.{TypeTable, transition}
use Rattle.cn_table.specs.Run.{state_after}
use Rattle.cn_outcomes.proofs.LastProcess.{state_last}
use Rattle.cn_stocks.specs.Lasting.{ManyFirst, SingleFirst}
use Rattle.cn_stocks.specs.Repeats.{FirstOnward, Onward}
use Rattle.cn_stocks.proofs.LastingLemmas.Forms.{state_join}

module _ (t : TypeTable) (many : ℕ) where
  -- what is closed and has some states has those to which the operation leads
  stays : (set : ℕ → Type 0) → ((found : ℕ) → set found → set (transition t many found).1) → (k found : ℕ) → set found → set (state_after t found (replicate k many))
  stays set closed zero found s = s
  stays set closed (suc k) found s = stays set closed k (transition t many found).1 (closed found s)

  pub all_onward : (set from : ℕ → Type 0) → ((q : ℕ) → from q → set q) → ((found : ℕ) → set found → set (transition t many found).1) → (q : ℕ) → Onward t many from q → set q
  all_onward set from has closed q o = subst set o.2.1 (stays set closed o.2.0 o.0 (has o.0 o.1))

  pub onward_first : (from : ℕ → Type 0) (q : ℕ) → from q → Onward t many from q
  onward_first from q f = (q, f, (0, refl))

  pub onward_more : (from : ℕ → Type 0) (found q : ℕ) → Onward t many from found → (transition t many found).1 ≡ q → Onward t many from q
  onward_more from found q o e = (
    o.0,
    o.1,
    (
      o.2.0 + 1,
      ap (state_after t o.0) (sym (replicate_more o.2.0 many)) ∙ (state_last t o.0 (replicate o.2.0 many) many ∙ (ap (λ (s : ℕ). (transition t many s).1) o.2.1 ∙ e)),
    ),
  )

  -- by one operation first
  pub first_onward : (first : ℕ) (from moved : ℕ → Type 0) → ((q : ℕ) → moved q ↔ ((found : ℕ) × from found × ((transition t first found).1 ≡ q))) → (q : ℕ)
      → Onward t many moved q ↔ FirstOnward t first many from q
  first_onward first from moved m q = (
    λ o. (let f = (m o.0).0 o.1 in (f.0, f.1, (o.2.0, ap (λ (s : ℕ). state_after t s (replicate o.2.0 many)) f.2 ∙ o.2.1))),
    λ o. ((transition t first o.0).1, (m (transition t first o.0).1).1 (o.0, o.1, refl), (o.2.0, o.2.1)),
  )

module _ (t : TypeTable) (start many single : ℕ) where
  -- the states of words that begin with once
  pub single_first : (from : ℕ → Type 0) → ((q : ℕ) → from q ↔ (q ≡ start)) → (q : ℕ) → FirstOnward t single many from q ↔ SingleFirst t start many single q
  single_first from f q = (
    λ o. (o.2.0, ap (λ (s : ℕ). state_after t s (single ∷ replicate o.2.0 many)) (sym ((f o.0).0 o.1)) ∙ o.2.1),
    λ o. (start, (f start).1 refl, (o.0, o.1)),
  )

  -- the states of the other words
  pub many_first : (from alone begun mixed all : ℕ → Type 0) → ((q : ℕ) → from q ↔ (q ≡ start)) → ((q : ℕ) → alone q ↔ Onward t many from q) → ((q : ℕ) → begun q ↔ FirstOnward t many many from q)
      → ((q : ℕ) → mixed q ↔ FirstOnward t single many begun q) → ((q : ℕ) → all q ↔ (alone q ⊎ mixed q)) → (q : ℕ) → all q ↔ ManyFirst t start many single q
  many_first from alone begun mixed all f al be mi whole q = (
    λ h. elim ((whole q).0 h) [
      | inl a ↦ (let o = (al q).0 a in inl (o.2.0, ap (λ (s : ℕ). state_after t s (replicate o.2.0 many)) (sym ((f o.0).0 o.1)) ∙ o.2.1))
      | inr m ↦ (
          let o = (mi q).0 m in
          let b = (be o.0).0 o.1 in
          let reached : state_after t start (many ∷ replicate b.2.0 many) ≡ o.0 = ap (λ (s : ℕ). state_after t s (many ∷ replicate b.2.0 many)) (sym ((f b.0).0 b.1)) ∙ b.2.1 in
          inr (
            b.2.0,
            o.2.0,
            state_join t start (many ∷ replicate b.2.0 many) (single ∷ replicate o.2.0 many) ∙ (ap (λ (s : ℕ). state_after t s (single ∷ replicate o.2.0 many)) reached ∙ o.2.1),
          )
          )
    ],
    λ h. (whole q).1 (elim h [
      | inl a ↦ inl ((al q).1 (start, (f start).1 refl, (a.0, a.1)))
      | inr m ↦ inr ((mi q).1 (
        state_after t start (many ∷ replicate m.0 many),
        (be (state_after t start (many ∷ replicate m.0 many))).1 (start, (f start).1 refl, (m.0, refl)),
        (m.1, sym (state_join t start (many ∷ replicate m.0 many) (single ∷ replicate m.1 many)) ∙ m.2),
      ))
    ]),
  )

-- ---- options

pub not_some : {X : Type 0} (o : Option X) → ((x : X) → o ≢ Some x) → o ≡ None
not_some None n = refl
not_some (Some x) n = absurd (n x refl)
