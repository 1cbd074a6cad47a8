-- The entries of one process in a batch.
use Rattle.std.proofs.Common.{ℕ, zero, suc, ◌≡◌, ◌≢◌, inl, inr, true, false, ◌+◌, ◌<◌, ◌≤◌, ◌==◌, List, [], ◌∷◌, Option, Some, None, refl, sym, ap, ◌∙◌, arith}
use Rattle.std.proofs.lemmas.Bool.{cases_eq}
use Rattle.std.proofs.lemmas.Bool.Decides.{nat_tests}
use Rattle.cn_log.specs.declared.batch.Batch.{Batch}
use Rattle.cn_log.specs.declared.entry.Entry.{Entry}
use Rattle.cn_log.specs.Batches.{entry_at, and_entry, members}
use Rattle.cn_log.specs.Callers.{entries_by}
use Rattle.cn_log.proofs.InvariantLemmas.Invariant.{IsShaped}

front_other : (p : ℕ) (e : Entry) (rest : List Entry) → e.process ≢ p → entries_by p (e ∷ rest) ≡ entries_by p rest
front_other p e rest ne = let t : (e.process == p) ≡ false = grind (arith, nat_tests) in rw t refl

front_own : (p : ℕ) (e : Entry) (rest : List Entry) → e.process ≡ p → entries_by p (e ∷ rest) ≡ e ∷ entries_by p rest
front_own p e rest own = let t : (e.process == p) ≡ true = grind (arith, nat_tests) in rw t refl

-- the process has no entry
pub own_none : (many q p : ℕ) (b : Batch) → IsShaped b → entry_at b p ≡ None → entries_by p (members many q b) ≡ []
own_none zero q p b shaped none = refl
own_none (suc many) q p b shaped none = go (entry_at b q) refl (own_none many (suc q) p b shaped none)
  where
    go : (o : Option Entry) → entry_at b q ≡ o → entries_by p (members many (suc q) b) ≡ [] → entries_by p (and_entry o (members many (suc q) b)) ≡ []
    go None is rest = rest
    go (Some e) is rest = front_other p e (members many (suc q) b)
        (λ own. (let w = shaped q e is in let g : entry_at b p ≡ Some e = ap (entry_at b) (sym own ∙ w) ∙ is in absurd (cc (none, g)))) ∙ rest

-- no entry behind its place
own_behind : (many q p : ℕ) (b : Batch) → IsShaped b → p < q → entries_by p (members many q b) ≡ []
own_behind zero q p b shaped low = refl
own_behind (suc many) q p b shaped low = go (entry_at b q) refl (own_behind many (suc q) p b shaped (omega (arith, low)))
  where
    go : (o : Option Entry) → entry_at b q ≡ o → entries_by p (members many (suc q) b) ≡ [] → entries_by p (and_entry o (members many (suc q) b)) ≡ []
    go None is rest = rest
    go (Some e) is rest = front_other p e (members many (suc q) b) (λ own. (let w = shaped q e is in absurd (omega (arith, own, w, low)))) ∙ rest

pub own_one : (many q p : ℕ) (b : Batch) (mine : Entry) → IsShaped b → q ≤ p → p < q + many → entry_at b p ≡ Some mine → entries_by p (members many q b) ≡ mine ∷ []
own_one zero q p b mine shaped low high at = absurd (omega (arith, low, high))
own_one (suc many) q p b mine shaped low high at = elim (cases_eq q p) [
  | inl same ↦ (let is : entry_at b q ≡ Some mine = ap (entry_at b) same ∙ at in
      let w = shaped p mine at in
      ap (λ o. entries_by p (and_entry o (members many (suc q) b))) is ∙ front_own p mine (members many (suc q) b) w ∙ ap (λ l. mine ∷ l) (own_behind many (suc q) p b shaped (omega (arith, same))))
  | inr ne ↦ go ne (entry_at b q) refl (own_one many (suc q) p b mine shaped (grind arith) (omega (arith, high)) at)
]
  where
    go : q ≢ p → (o : Option Entry) → entry_at b q ≡ o → entries_by p (members many (suc q) b) ≡ mine ∷ [] → entries_by p (and_entry o (members many (suc q) b)) ≡ mine ∷ []
    go ne None is rest = rest
    go ne (Some e) is rest = front_other p e (members many (suc q) b) (λ own. (let w = shaped q e is in absurd (ne (sym w ∙ own)))) ∙ rest
