-- The states in which words of the operations of a table end, by the first operation.
use Rattle.std.proofs.Common.{◌≡◌, ◌∙◌, ℕ, ◌+◌, ◌<◌, ◌↔◌, inl, inr, List, [], ◌∷◌, length, refl, sym, subst, arith, All, IsBitSet}
use Rattle.std.proofs.lemmas.List.Elements.{All-cons, All-head, All-nil, All-tail}
use Rattle.cn_table.specs.TypeTable.{TypeTable, transition}
use Rattle.cn_table.specs.Run.{state_after}
use Rattle.cn_reasons.specs.Onward.{EndsIn}

-- words of one operation more that begin with this one
abbrev pub Part : TypeTable → ℕ → ℕ → ℕ → ℕ → Type 0
Part t start count q o = EndsIn t (transition t o start).1 count q

module _ (t : TypeTable) (start count q : ℕ) where
  abbrev Known : ℕ → Type 0
  Known o = o < length t.operations

  pub to_part : EndsIn t start (count + 1) q → (o : ℕ) × (o < length t.operations) × Part t start count q o
  to_part h = by_word h.0 h.1 h.2 h.3
    where
      by_word : (word : List ℕ) → All Known word → length word ≡ count + 1 → state_after t start word ≡ q → (o : ℕ) × (o < length t.operations) × Part t start count q o
      by_word [] known long ends = absurd (omega (arith, long))
      by_word (o ∷ os) known long ends = (o, All-head Known o os known, (os, All-tail Known o os known, omega (arith, long), ends))

  pub from_part : (o : ℕ) → o < length t.operations → Part t start count q o → EndsIn t start (count + 1) q
  from_part o l h = (o ∷ h.0, All-cons Known o h.0 l h.1, (let e = h.2 in omega (arith, e)), h.3)

pub no_word : (t : TypeTable) (start q : ℕ) → (q ≡ start) ↔ EndsIn t start 0 q
no_word t start q = (λ e. ([], All-nil (λ o. o < length t.operations), refl, sym e), λ h. by_word h.0 h.2 h.3)
  where
    by_word : (word : List ℕ) → length word ≡ 0 → state_after t start word ≡ q → q ≡ start
    by_word [] l e = sym e
    by_word (o ∷ os) l e = absurd (omega (arith, l))
