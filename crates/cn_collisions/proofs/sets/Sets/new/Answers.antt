use Rattle.std.proofs.Common.{◌+◌, ℕ, refl, subst}
use Rattle.cn_collisions.specs.Levels.{AreLevels}
use Rattle.cn_collisions.proofs.sets.Sets.new.Goals as goal

pub all_shown-requires-clause-ends : goal.all_shown-requires-clause-ends
all_shown-requires-clause-ends g c κs within = rw c.as_slice-rows.ensures.value c.in_ok-ends.ensures

pub returns : goal.returns
returns g c =
    let t = c.args.table.now in
    let n = c.args.n in (
      refl,
      refl,
      record {
        some = c.requires.some;
        few = c.requires.few;
        levels = subst (λ (k : ℕ). AreLevels k (n + 1) c.in_ok-stocks.stocks.items) c.operations.ensures.number c.in_ok-stocks.ensures;
        ends_are = rw c.as_slice-levels.ensures.value at c.in_ok-ends.ensures;
        shown_are = rw c.as_slice-levels.ensures.value at c.in_ok-shown.ensures;
      },
    )
