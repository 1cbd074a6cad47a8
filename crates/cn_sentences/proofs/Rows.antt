-- Lists that are made of a value for each number of a range, one after another.
use Rattle.std.proofs.Common.{◌≡◌, ◌∙◌, ℕ, ◌+◌, List, [], ◌∷◌, ◌++◌, ap, append_assoc, arith, map, sym}
use Rattle.std.specs.List.{range_with_len}
use Rattle.std.proofs.lemmas.List.{map-append}
use Rattle.std.proofs.lemmas.List.FromFn.{map-range_with_len_more}

-- one value more
pub value_more : {X Y : Type 0} (f : X → Y) (g : ℕ → Y) (old new : List X) (x : X) (front : List Y) (n : ℕ) → new ≡ old ++ x ∷ [] → map f old ≡ front ++ map g (range_with_len 0 n) → f x ≡ g n
    → map f new ≡ front ++ map g (range_with_len 0 (n + 1))
value_more f g old new x front n pushed so_far own =
    ap (map f) pushed
    ∙ (map-append f old (x ∷ [])
    ∙ (ap (λ ys. ys ++ f x ∷ []) so_far
    ∙ (append_assoc front (map g (range_with_len 0 n)) (f x ∷ [])
    ∙ (ap (λ y. front ++ (map g (range_with_len 0 n) ++ y ∷ [])) own
    ∙ ap (λ ys. front ++ ys) (sym (map-range_with_len_more g 0 n n (omega arith)))))))
