-- The entries of one more process.
use Rattle.std.proofs.Common.{ℕ, zero, suc, ◌≡◌, ◌≢◌, false, ◌+◌, ◌==◌, List, [], ◌∷◌, ◌++◌, length, Option, Some, None, refl, sym, ap, ◌∙◌, arith, append-nil}
use Rattle.std.proofs.lemmas.Bool.Decides.{nat_tests}
use Rattle.cn_log.specs.declared.batch.Batch.{Batch}
use Rattle.cn_log.specs.declared.entry.Entry.{Entry}
use Rattle.cn_table.specs.TypeTable.{TypeTable, transition}
use Rattle.cn_table.specs.Run.{state_after}
use Rattle.cn_log.specs.Log.{operations_of}
use Rattle.cn_log.specs.Batches.{entry_at, and_entry, each_slot, members}
use Rattle.cn_log.specs.Fields.{next_batch}

push_from : (many q : ℕ) (b : Batch) → members (suc many) q b ≡ members many q b ++ and_entry (entry_at b (q + many)) []
push_from zero q b = let z : q + 0 ≡ q = omega arith in ap (λ i. and_entry (entry_at b i) []) (sym z)
push_from (suc many) q b = go (entry_at b q) (push_from many (suc q) b ∙ ap (λ i. members many (suc q) b ++ and_entry (entry_at b i) []) (let z : suc q + many ≡ q + suc many = omega arith in z))
  where
    go : (o : Option Entry) → members (suc many) (suc q) b ≡ members many (suc q) b ++ and_entry (entry_at b (q + suc many)) []
        → and_entry o (members (suc many) (suc q) b) ≡ and_entry o (members many (suc q) b) ++ and_entry (entry_at b (q + suc many)) []
    go None r = r
    go (Some e) r = ap (λ l. e ∷ l) r

pub members_push : (q : ℕ) (b : Batch) → members (q + 1) 0 b ≡ members q 0 b ++ and_entry (entry_at b q) []
members_push q b = let z : q + 1 ≡ suc q = omega arith in let y : 0 + q ≡ q = omega arith in ap (λ i. members i 0 b) z ∙ push_from q 0 b ∙ ap (λ i. members q 0 b ++ and_entry (entry_at b i) []) y

-- with an entry of process q, and without
pub next_some : (q : ℕ) (b : Batch) (e : Entry) → entry_at b q ≡ Some e → members (q + 1) 0 b ≡ members q 0 b ++ e ∷ []
next_some q b e h = members_push q b ∙ ap (λ o. members q 0 b ++ and_entry o []) h

pub next_none : (q : ℕ) (b : Batch) → entry_at b q ≡ None → members (q + 1) 0 b ≡ members q 0 b
next_none q b h = members_push q b ∙ ap (λ o. members q 0 b ++ and_entry o []) h ∙ append-nil (members q 0 b)

pub slots_push : (k : ℕ) (es : List Entry) (e : Entry) → each_slot k (es ++ e ∷ []) ≡ each_slot k es ++ k ∷ []
slots_push k [] e = refl
slots_push k (f ∷ es) e = ap (λ l. k ∷ l) (slots_push k es e)

pub slots_many : (k : ℕ) (es : List Entry) → length (each_slot k es) ≡ length es
slots_many k [] = refl
slots_many k (e ∷ es) = ap suc (slots_many k es)

pub run_push : (t : TypeTable) (state : ℕ) (es : List Entry) (e : Entry) → state_after t state (operations_of (es ++ e ∷ [])) ≡ (transition t e.operation.0 (state_after t state (operations_of es))).1
run_push t state [] e = refl
run_push t state (f ∷ es) e = run_push t (transition t f.operation.0 state).1 es e

-- no batch follows if the slot is not the next one
pub not_next : (many k : ℕ) (o : Option Batch) → many ≢ k → next_batch many k o ≡ []
not_next many k None ne = refl
not_next many k (Some b) ne = let t : (many == k) ≡ false = grind (arith, nat_tests) in rw t refl
