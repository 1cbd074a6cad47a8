use Rattle.std.proofs.Common.{◌<◌, ℕ, List, length, All, subst, sym}
use Rattle.cn_table.proofs.Lists.{All-parts}
use Rattle.cn_collisions.specs.Places.{HasPlace}
use Rattle.cn_collisions.proofs.places.place_of.Goals as goal

pub merged_place-requires-clause-second : goal.merged_place-requires-clause-second
merged_place-requires-clause-second c =
    let known : ℕ → Type 0 = λ o. o < length c.args.sets.now.table.now.operations in
    (All-parts known c.args.a.now c.args.b.now (subst (All known) c.requires.teams c.requires.known)).1

pub returns-in-Some : goal.returns-in-Some
returns-in-Some c = subst (λ (list : List ℕ). HasPlace c.args.sets.now list c.in-Some.place) (sym c.requires.teams) c.in-Some.ensures
