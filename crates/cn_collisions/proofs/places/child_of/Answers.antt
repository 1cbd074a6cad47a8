use Rattle.std.proofs.Common.{ℕ, List, [], ◌+◌, ◌∷◌, ◌++◌, arith, length, refl, subst, sym}
use Rattle.std.specs.Prelude.{slice_index}
use Rattle.std.proofs.lemmas.List.{get_or_read}
use Rattle.std.proofs.lemmas.Option.{slice_get_read}
use Rattle.cn_collisions.specs.Stands.{StandsAt}
use Rattle.cn_collisions.proofs.PlaceLemmas.{stands_child}
use Rattle.cn_collisions.proofs.places.child_of.Goals as goal

pub index-level-requires : goal.index-level-requires
index-level-requires c = omega (arith, c.requires.sets.levels.long, c.requires.room.3, c.args.sets.now.stocks.ok.0)

pub index-children-requires : goal.index-children-requires
index-children-requires c =
    let s = c.args.sets.now in
    let levels = s.stocks.items in
    let from = c.args.from in
    let x = c.index-level.result.now in
    let room = c.requires.room in
    let at = slice_get_read levels (length levels) (from.size + 1) x refl (omega (arith, c.requires.sets.levels.long, room.3)) c.index-level.ensures in
    let child = stands_child (length s.table.now.operations) (s.n + 1) levels c.requires.sets.levels from.size from.place c.args.operation room.0 x room.1 at c.requires.operation room.2 in
    omega (arith, child.0, x.children.ok.0)

pub returns : goal.returns
returns c stock stands up =
    let s = c.args.sets.now in
    let levels = s.stocks.items in
    let from = c.args.from in
    let x = c.index-level.result.now in
    let row = c.index-children.result.now in
    let at = slice_get_read levels (length levels) (from.size + 1) x refl (omega (arith, c.requires.sets.levels.long, c.requires.room.3)) c.index-level.ensures in
    let child = stands_child (length s.table.now.operations) (s.n + 1) levels c.requires.sets.levels from.size from.place c.args.operation stock x stands at c.requires.operation up in
    let same = get_or_read x.children.items _ _ child.0 c.index-children.ensures [] in
    subst (λ (r : List ℕ). StandsAt s (from.size + 1) (slice_index r c.args.operation) (stock ++ c.args.operation ∷ [])) (sym same) child.1
