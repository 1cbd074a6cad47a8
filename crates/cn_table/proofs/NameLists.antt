-- Things of which two have the same name.
use Rattle.std.proofs.Common.{◌≡◌, ℕ, ◌<◌, ◌+◌, List, length, drop, get_or, map, ◌||◌, refl}
use Rattle.std.specs.List.{list_any}
use Rattle.std.specs.Str.{bytes_eq}
use Rattle.std.proofs.lemmas.List.{drop_more}
use Rattle.cn_table.specs.Names.{has_repeat}
use Rattle.cn_table.proofs.Lists.{list_any-map}

-- a name repeats from a place on exactly if the thing at this place has a namesake behind it, or a name repeats behind it
pub repeat_next : {V : Type 0} (f : V → List ℕ) (vs : List V) (i : ℕ) (d : V) → i < length vs
    → has_repeat (map f (drop i vs)) ≡ (list_any (λ u. bytes_eq (f u) (f (get_or vs i d))) (drop (i + 1) vs) || has_repeat (map f (drop (i + 1) vs)))
repeat_next f vs i d within = rw (drop_more vs i d within, list_any-map (λ t. bytes_eq t (f (get_or vs i d))) f (drop (i + 1) vs)) refl
