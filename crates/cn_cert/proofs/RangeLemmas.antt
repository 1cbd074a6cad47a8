-- Collisions that are looked at one by one.
use Rattle.std.proofs.Common.{◌≡◌, List, [], ◌∷◌, Bool, true, false, ◌&&◌, Some, None, refl}
use Rattle.std.specs.List.{list_all}
use Rattle.std.specs.Prelude.{if◌then◌else◌}
use Rattle.cn_table.specs.Draft.{◌>>=◌}
use Rattle.cn_choice.specs.Collisions.{Collision}
use Rattle.cn_cert.specs.Ranges.{collision_within, is_collision_in_range, collisions_within}

next : (test : Bool) (x : Collision) (rest : Bool) (xs : List Collision)
    → ((if test then Some x else None) >>= (λ y. (if rest then Some xs else None) >>= (λ ys. Some (y ∷ ys)))) ≡ (if (test && rest) then Some (x ∷ xs) else None)
next true x true xs = refl
next true x false xs = refl
next false x rest xs = refl

-- all of them pass where each does
pub each_within : (xs : List Collision) → collisions_within xs ≡ (if list_all is_collision_in_range xs then Some xs else None)
unfolding collision_within
each_within [] = refl
each_within (x ∷ xs) = rw (each_within xs) (next (is_collision_in_range x) x (list_all is_collision_in_range xs) xs)
