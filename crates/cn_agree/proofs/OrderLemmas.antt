-- One more role at the end of an order.
use Rattle.std.proofs.Common.{ℕ, suc, ◌≡◌, ◌≢◌, List, [], ◌∷◌, ◌++◌, length, slice_get, Some, refl, ap, ◌∙◌}
use Rattle.std.specs.List.{AllPairs}
use Rattle.std.proofs.lemmas.List.Quantifiers.{all_pairs_push}
use Rattle.std.proofs.lemmas.Option.{slice_get-get_or}
use Rattle.cn_proto.specs.Order.{after, answers, IsAnswered}
use Rattle.cn_table.proofs.Lists.{get_front, get_push_new}

pub after_push : (act : ℕ → ℕ → ℕ × ℕ) (start : ℕ) (order : List ℕ) (role : ℕ) → after act start (order ++ role ∷ []) ≡ (act role (after act start order)).1
after_push act start [] role = refl
after_push act start (x ∷ order) role = after_push act (act x start).1 order role

pub answers_push : (act : ℕ → ℕ → ℕ × ℕ) (start : ℕ) (order : List ℕ) (role : ℕ) → answers act start (order ++ role ∷ []) ≡ answers act start order ++ (act role (after act start order)).0 ∷ []
answers_push act start [] role = refl
answers_push act start (x ∷ order) role = ap (λ r. (act x start).0 ∷ r) (answers_push act (act x start).1 order role)

pub length-answers : (act : ℕ → ℕ → ℕ × ℕ) (start : ℕ) (order : List ℕ) → length (answers act start order) ≡ length order
length-answers act start [] = refl
length-answers act start (x ∷ order) = ap suc (length-answers act (act x start).1 order)

-- the response of the last role is that of its act
pub answered_last : (act : ℕ → ℕ → ℕ × ℕ) (start : ℕ) (order : List ℕ) (role : ℕ) → IsAnswered act start (order ++ role ∷ []) role (act role (after act start order)).0
answered_last act start order role = (
  length order,
  get_push_new order role,
  rw (answers_push act start order role, ← length-answers act start order) (get_push_new (answers act start order) (act role (after act start order)).0),
)

pub distinct_push : (order : List ℕ) (role : ℕ) → AllPairs (λ (x : ℕ) y. x ≢ y) order → ((k : ℕ) → slice_get order k ≢ Some role) → AllPairs (λ (x : ℕ) y. x ≢ y) (order ++ role ∷ [])
distinct_push order role h new =
    all_pairs_push (λ (x : ℕ) y. x ≢ y) order role h (λ k d lt e. new k (slice_get-get_or order k d lt ∙ ap Some e))

-- a response stays, whichever roles come after
pub answers_append : (act : ℕ → ℕ → ℕ × ℕ) (start : ℕ) (order more : List ℕ) (j r : ℕ) → IsAnswered act start order j r → IsAnswered act start (order ++ more) j r
answers_append act start order more j r h =
    (h.0, get_front order more h.0 j h.1, rw (answers_of_append act start order more) (get_front (answers act start order) (answers act (after act start order) more) h.0 r h.2))
  where
    answers_of_append : (act : ℕ → ℕ → ℕ × ℕ) (start : ℕ) (order more : List ℕ) → answers act start (order ++ more) ≡ answers act start order ++ answers act (after act start order) more
    answers_of_append act start [] more = refl
    answers_of_append act start (x ∷ order) more = ap (λ r. (act x start).0 ∷ r) (answers_of_append act (act x start).1 order more)
