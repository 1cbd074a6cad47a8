-- The entries of the empty batch, and of a batch with one more entry.
use Rattle.std.proofs.Common.{ℕ, ◌≡◌, ◌≢◌, ◌⊎◌, inl, inr, ◌<◌, ◌==◌, ◌^◌, bit_or, max, if◌then◌else◌, length, slice_index_or, Option, Some, None, sym, ap, ◌∙◌, subst, arith, length-set, get_or-set_same, get_or-set_other}
use Rattle.std.proofs.lemmas.Bool.{cases_eq}
use Rattle.std.proofs.lemmas.Nat.Bits.{bit_at-lt, bit_at-zero, bit_at_or, bit_at-pow_same, bit_at-pow_other}
use Rattle.std.specs.Int.{bit_at}
use Rattle.cn_table.specs.declared.elements.Operation.{Operation}
use Rattle.cn_log.specs.declared.batch.Batch.{Batch}
use Rattle.cn_log.specs.declared.entry.Entry.{Entry}
use Rattle.cn_log.specs.Batches.{entry_at, no_entries, with_entry}

-- the entry of process p in a batch, by its bit, its operation and its number
abbrev by_bit : ℕ → ℕ → Operation → ℕ → Option Entry
by_bit bit p operation call = if bit == 1 then Some (record { process = p; operation = operation; call = call }) else None

by_parts : (p : ℕ) (i j : ℕ) (o u : Operation) (c d : ℕ) → i ≡ j → o ≡ u → c ≡ d → by_bit i p o c ≡ by_bit j p u d
by_parts p i j o u c d a b e = ap (λ x. by_bit x p o c) a ∙ ap (λ x. by_bit j p x c) b ∙ ap (by_bit j p u) e

none_at : (i : ℕ) → entry_at no_entries i ≡ None
none_at i = ap (λ x. by_bit x i (slice_index_or no_entries.operations i (record { 0 = 0 })) (slice_index_or no_entries.calls i 0)) (bit_at-zero i)

pub none_there : (i : ℕ) (e : Entry) → entry_at no_entries i ≡ Some e → ⊥
none_there i e at = let n = none_at i in cc (n, at)

-- the batch has a place for the call of each process
pub record HasPlaces (batch : Batch) : Type 0 where
  pub operations : length batch.operations ≡ 8
  pub calls : length batch.calls ≡ 8

module _ (batch : Batch) (q : ℕ) (other : Entry) where
  bit_new : bit_at (bit_or batch.callers (2 ^ q)) q ≡ 1
  bit_new =
      let a = bit_at-lt batch.callers q in
      let o = bit_at_or batch.callers (2 ^ q) q in
      let s = bit_at-pow_same q in
      o ∙ ap (max (bit_at batch.callers q)) s ∙ omega (arith, a)

  bit_old : (i : ℕ) → i ≢ q → bit_at (bit_or batch.callers (2 ^ q)) i ≡ bit_at batch.callers i
  bit_old i ne = bit_at_or batch.callers (2 ^ q) i ∙ ap (max (bit_at batch.callers i)) (bit_at-pow_other q i ne) ∙ omega arith

  pub with_new : other.process ≡ q → HasPlaces batch → q < 8 → entry_at (with_entry batch q other) q ≡ Some other
  with_new whose places low =
      by_parts q _ 1 _ other.operation _ other.call bit_new
      (get_or-set_same batch.operations q other.operation (record { 0 = 0 }) (let n = places.operations in omega (arith, n, low)))
      (get_or-set_same batch.calls q other.call 0 (let n = places.calls in omega (arith, n, low)))
      ∙ ap (λ p. Some (record { process = p; operation = other.operation; call = other.call })) (sym whose)

  pub with_old : (i : ℕ) → i ≢ q → entry_at (with_entry batch q other) i ≡ entry_at batch i
  with_old i ne =
      by_parts i _ _ _ _ _ _ (bit_old i ne)
      (get_or-set_other batch.operations q i other.operation (record { 0 = 0 }) ne)
      (get_or-set_other batch.calls q i other.call 0 ne)

  pub places_after : HasPlaces batch → HasPlaces (with_entry batch q other)
  places_after places = record {
    operations = length-set batch.operations q other.operation ∙ places.operations;
    calls = length-set batch.calls q other.call ∙ places.calls;
  }

  pub with_cases : other.process ≡ q → HasPlaces batch → q < 8 → (i : ℕ) (e : Entry) → entry_at (with_entry batch q other) i ≡ Some e → ((i ≡ q) × (other ≡ e)) ⊎ (entry_at batch i ≡ Some e)
  with_cases whose places low i e h = elim (cases_eq i q) [
    | inl same ↦ (
        let n = with_new whose places low in
        let g : entry_at (with_entry batch q other) q ≡ Some e = subst (λ z. entry_at (with_entry batch q other) z ≡ Some e) same h in
        let s : other ≡ e = cc (n, g) in
        inl (same, s)
        )
    | inr ne ↦ inr (sym (with_old i ne) ∙ h)
  ]
