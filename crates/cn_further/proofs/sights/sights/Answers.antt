use Rattle.std.proofs.Common.{◌<◌, ◌++◌, ℕ, ◌≡◌, ◌≢◌, ◌∙◌, ap, arith, length, All, [], List, get_or, subst, sym}
use Rattle.std.specs.Prelude.{AllPairs}
use Rattle.std.proofs.lemmas.List.Elements.{All-nil}
use Rattle.cn_choice.specs.Canonical.{Choice}
use Rattle.cn_choice.specs.declared.team.Team.TheVariants.{A, B}
use Rattle.cn_further.specs.FurtherNodes.{AreKnown, further_of}
use Rattle.cn_further.specs.FurtherSights.{AreScenesOf, HasEndsOf, IsSight}
use Rattle.cn_further.specs.declared.scene.Scene.{Scene}
use Rattle.cn_further.specs.declared.sight.FurtherSight.{FurtherSight}
use Rattle.cn_further.proofs.AllSights.{all_sights, ends_more}
use Rattle.cn_further.proofs.KnownSights.{known_sight}
use Rattle.cn_further.proofs.ReachedScenes.{reached_fits}
use Rattle.cn_further.proofs.sights.sights.Goals as goal

pub push_all_ends-requires-clause-fits : goal.push_all_ends-requires-clause-fits
push_all_ends-requires-clause-fits c =
    let t = c.args.table.now in
    let state = c.choice.inside.state.0 in
    let size = c.len-size.result in
    let os = c.as_slice-operations.result.now in
    let further = further_of c.args.follow_ups.now in
    let are : AreScenesOf t state size os further A c.as_slice.result.now = subst (λ (xs : List Scene). AreScenesOf t state size os further A xs) (sym c.as_slice.ensures.value) c.in_ok-after_a.ensures in
    λ k d less. reached_fits t state os further size A 0 (get_or c.as_slice.result.now k d) (are.reached k d less)

pub push_all_ends-requires-2-clause-fits : goal.push_all_ends-requires-2-clause-fits
push_all_ends-requires-2-clause-fits c =
    let t = c.args.table.now in
    let state = c.choice.inside.state.0 in
    let size = c.len-size.result in
    let os = c.as_slice-operations.result.now in
    let further = further_of c.args.follow_ups.now in
    let are : AreScenesOf t state size os further B c.as_slice-2.result.now = subst (λ (xs : List Scene). AreScenesOf t state size os further B xs) (sym c.as_slice-2.ensures.value) c.in_ok-after_b.ensures in
    λ k d less. reached_fits t state os further size B 0 (get_or c.as_slice-2.result.now k d) (are.reached k d less)

pub returns-clause-sights : goal.returns-clause-sights
returns-clause-sights c =
    let t = c.args.table.now in
    let fs = c.args.follow_ups.now in
    let further = further_of fs in
    let state = c.choice.inside.state.0 in
    let size = c.len-size.result in
    let os = c.as_slice-operations.result.now in
    let front : List FurtherSight = c.push_all_ends.new.list.items in
    let list : List FurtherSight = c.push_all_ends-2.new.list.items in
    let one = c.in_ok-push_all_ends.ensures in
    let two = c.in_ok-push_all_ends-2.ensures in
    let are_a : AreScenesOf t state size os further A c.as_slice.result.now = subst (λ (xs : List Scene). AreScenesOf t state size os further A xs) (sym c.as_slice.ensures.value) c.in_ok-after_a.ensures in
    let are_b : AreScenesOf t state size os further B c.as_slice-2.result.now = subst (λ (xs : List Scene). AreScenesOf t state size os further B xs) (sym c.as_slice-2.ensures.value) c.in_ok-after_b.ensures in
    let empty : c.new-sights.result.items ≡ [] = c.new-sights.ensures.items in
    let ends_a : All (HasEndsOf os further A list) c.as_slice.result.now = λ k d less. ends_more os further A front list two.more (get_or c.as_slice.result.now k d) (one.ends k d less) in
    let sound : All (IsSight t state size os further) list = two.sound t state size are_b.reached (one.sound t state size are_a.reached (rw empty (All-nil _))) in
    all_sights t c.args.choice.now fs state size os c.as_slice.result.now c.as_slice-2.result.now list
    (ap (λ (d : Choice). d.state) c.choice.view_is) (c.len-size.ensures.value ∙ ap (λ (d : Choice). length d.a) c.choice.view_is)
    (c.as_slice-operations.ensures.value ∙ c.operations_of-list.ensures) are_a are_b ends_a two.ends sound
    (two.once (one.once (rw empty nothing)))
  where
    nothing : AllPairs (λ (x y : FurtherSight). x ≢ y) []
    nothing = λ i j d less short. absurd (omega (arith, short))

pub returns-clause-known : goal.returns-clause-known
returns-clause-known c =
    let t = c.args.table.now in
    let fs = c.args.follow_ups.now in
    let further = further_of fs in
    let size = c.len-size.result in
    let state = c.choice.inside.state.0 in
    let os = c.as_slice-operations.result.now in
    let list : List FurtherSight = c.push_all_ends-2.new.list.items in
    let one = c.in_ok-push_all_ends.ensures in
    let two = c.in_ok-push_all_ends-2.ensures in
    let are_a : AreScenesOf t state size os further A c.as_slice.result.now = subst (λ (xs : List Scene). AreScenesOf t state size os further A xs) (sym c.as_slice.ensures.value) c.in_ok-after_a.ensures in
    let are_b : AreScenesOf t state size os further B c.as_slice-2.result.now = subst (λ (xs : List Scene). AreScenesOf t state size os further B xs) (sym c.as_slice-2.ensures.value) c.in_ok-after_b.ensures in
    let empty : c.new-sights.result.items ≡ [] = c.new-sights.ensures.items in
    let sound : All (IsSight t state size os further) list = two.sound t state size are_b.reached (one.sound t state size are_a.reached (rw empty (All-nil _))) in
    let is : c.args.choice.now.a ++ c.args.choice.now.b ≡ os = sym (c.as_slice-operations.ensures.value ∙ c.operations_of-list.ensures) in
    let known : AreKnown t os fs = subst (λ (xs : List ℕ). AreKnown t xs fs) is c.requires.known in
    let state_known : state < length t.states = subst (λ (q : ℕ). q < length t.states) (sym (ap (λ (d : Choice). d.state) c.choice.view_is)) c.requires.choice.known_state in
    λ k d less. known_sight t c.tables_are_valid.ensures.table state os fs state_known known size (get_or list k d) (sound k d less)
