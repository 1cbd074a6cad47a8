-- One search serves for the changes of an entry to one next state.
use Rattle.std.proofs.Common.{◌≡◌, ◌≢◌, inl, inr, ℕ, List, All, ap, refl, subst, sym, ◌∙◌}
use Rattle.std.specs.Prelude.{Option, slice_index_or}
use Rattle.std.proofs.lemmas.List.{length-set}
use Rattle.cn_table.specs.OtherEntry.{IsEntry, with_entry}
use Rattle.cn_table.specs.TypeTable.{IsTypeTable, TypeTable, transition}
use Rattle.cn_stocks.proofs.Times.{same_or}
use Rattle.cn_telling.specs.LastSearches.{HaveSameNexts}
use Rattle.cn_search.specs.Nexts.{Serves}
use Rattle.cn_search.specs.declared.nexts.NextsSearch.{NextsSearch}
use Rattle.cn_changes.specs.Changes.{IsChange, with_change}
use Rattle.cn_changes.specs.Served.{AreServed, LeadsTo}
use Rattle.cn_changes.specs.declared.change.Change.{Change}
use Rattle.cn_changes.specs.declared.targets.Target.{Target}

-- two changes of one entry to one next state
module _ (t : TypeTable) (table : IsTypeTable t)
    (there : (t : TypeTable) (o s r q : ℕ) → IsTypeTable t → IsEntry t o s r q → transition (with_entry t o s r q) o s ≡ (r, q))
    (other_operation : (t : TypeTable) (p s r n o q : ℕ) → o ≢ p → transition (with_entry t p s r n) o q ≡ transition t o q)
    (other_state : (t : TypeTable) (p s r n o q : ℕ) → q ≢ s → transition (with_entry t p s r n) o q ≡ transition t o q) where
  next_is : (x : Target) (r : ℕ) (c : Change) → c.target ≡ x → IsChange t c → (transition (with_change t c) x.operation.0 x.state.0).1 ≡ x.next.0
  next_is x r c e is = rw (← e) (ap (λ p. p.1) (there t c.target.operation.0 c.target.state.0 c.response.0 c.target.next.0 table is))

  nexts_are : (x : Target) (c d : Change) → c.target ≡ x → d.target ≡ x → IsChange t c → IsChange t d → (o q : ℕ)
      → (transition (with_change t c) o q).1 ≡ (transition (with_change t d) o q).1
  nexts_are x c d a b known_c known_d o q = elim (same_or o x.operation.0) [
    | inr n ↦ ap (λ p. p.1) (elsewhere c a n) ∙ sym (ap (λ p. p.1) (elsewhere d b n))
    | inl e ↦ elim (same_or q x.state.0) [
      | inr n ↦ ap (λ p. p.1) (in_other c a n) ∙ sym (ap (λ p. p.1) (in_other d b n))
      | inl f ↦ rw (e, f) (next_is x 0 c a known_c ∙ sym (next_is x 0 d b known_d))
    ]
  ]
    where
      elsewhere : (c : Change) → c.target ≡ x → o ≢ x.operation.0 → transition (with_change t c) o q ≡ transition t o q
      elsewhere c e n = other_operation t c.target.operation.0 c.target.state.0 c.response.0 c.target.next.0 o q (λ i. n (i ∙ ap (λ (y : Target). y.operation.0) e))

      in_other : (c : Change) → c.target ≡ x → q ≢ x.state.0 → transition (with_change t c) o q ≡ transition t o q
      in_other c e n = other_state t c.target.operation.0 c.target.state.0 c.response.0 c.target.next.0 o q (λ i. n (i ∙ ap (λ (y : Target). y.state.0) e))

  same_nexts : (x : Target) (c d : Change) → c.target ≡ x → d.target ≡ x → IsChange t c → IsChange t d → HaveSameNexts (with_change t c) (with_change t d)
  same_nexts x c d a b known_c known_d = record {
    states = refl;
    operations = length-set t.operations c.target.operation.0 _ ∙ sym (length-set t.operations d.target.operation.0 _);
    nexts = nexts_are x c d a b known_c known_d;
  }

  pub all_served : ((t u : TypeTable) (searched : Option NextsSearch) → HaveSameNexts t u → Serves t searched → Serves u searched)
      → (x : Target) (first : Change) (searched : Option NextsSearch) → first.target ≡ x → IsChange t first → Serves (with_change t first) searched
      → (changes : List Change) → All (IsChange t) changes → All (LeadsTo x) changes → AreServed t changes searched
  all_served law x first searched e known is changes all lead k d l =
      let here = slice_index_or changes k d in
      law (with_change t first) (with_change t here) searched (same_nexts x first here e (lead k d l) known (all k d l)) is
