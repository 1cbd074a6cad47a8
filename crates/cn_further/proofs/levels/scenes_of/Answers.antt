use Rattle.std.proofs.Common.{◌≡◌, ◌++◌, ℕ, List, All, arith, subst, sym}
use Rattle.cn_choice.specs.declared.team.Team.{Team}
use Rattle.cn_further.specs.FurtherNodes.{further_of}
use Rattle.cn_further.specs.FurtherSights.{HasFirsts, IsReached, LeadsTo}
use Rattle.cn_further.specs.SceneLists.{LeadsOn}
use Rattle.cn_further.specs.declared.scene.Scene.{Scene}
use Rattle.cn_further.proofs.ReachedScenes.{closed_more, firsts_more, levels_end, reached_more}
use Rattle.cn_further.proofs.levels.scenes_of.Goals as goal

pub loop-done-preserved : goal.loop-done-preserved
loop-done-preserved c =
    let t = c.args.table.now in
    let state : ℕ = c.args.state.0 in
    let size : ℕ = c.args.size in
    let os = c.args.operations.now in
    let further = further_of c.args.follow_ups.now in
    let team : Team = c.args.team in
    let i = c.loop-done.invariant in
    let count : ℕ = c.loop-done._done in
    let done : List Scene = c.loop-done.scenes.items in
    let level : List Scene = c.loop-done.level.items in
    let next : List Scene = c.in_ok-next.next.items in
    let joined : done ++ level ≡ c.append.new.self.items = sym c.in_ok-append.ensures.items in
    let leads : All (LeadsTo t os further next) level = subst (λ (xs : List Scene). All (LeadsTo t os further next) xs) c.as_slice.ensures.value c.in_ok-next.ensures.next in record {
      firsts = subst (λ (xs : List Scene). HasFirsts t state size os further team (xs ++ next)) joined (firsts_more t state size os further team done level next i.firsts);
      closed = subst (λ (xs : List Scene). All (LeadsOn t os further (xs ++ next)) xs) joined (closed_more t state size os further team done level next i.closed leads);
      reached = subst (λ (xs : List Scene). All (IsReached t state size os further team 0) xs) joined (reached_more t state size os further team done level count i.reached i.level);
      level = c.in_ok-next.ensures.reached state size count team
          (subst (λ (xs : List Scene). All (IsReached t state size os further team count) xs) (sym c.as_slice.ensures.value) i.level);
    }

pub returns : goal.returns
returns c =
    let i = c.loop-done.invariant in
    levels_end c.args.table.now c.args.state.0 c.args.size c.args.operations.now (further_of c.args.follow_ups.now) c.args.team c.loop-done.scenes.items c.loop-done.level.items c.loop-done._done
    (let few = c.requires.few in let late = c.loop-done-test.false in omega (arith, few, late)) i.firsts i.closed i.reached i.level
