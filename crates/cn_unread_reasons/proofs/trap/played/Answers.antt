use Rattle.std.proofs.Common.{◌≤◌, List, length, length-take, take, Bool, true, false, arith, refl}
use Rattle.std.specs.List.{AllZip}
use Rattle.std.proofs.lemmas.Slice.Zip.{AllZip-long}
use Rattle.cn_choice.specs.Live.{live_choices}
use Rattle.cn_unread_reasons.specs.PlayedTraps.{told_choices}
use Rattle.cn_unread_reasons.specs.Plays.{IsPlayOf}
use Rattle.cn_unread_reasons.specs.declared.play.Play.{Play}
use Rattle.cn_choice.specs.Canonical.{Choice}
use Rattle.cn_unread_reasons.proofs.trap.played.Goals as goal

-- no more are told than there are
told_few : (R : Choice → Play → Type 0) (all : Bool) (choices : List Choice) (plays : List Play) → AllZip R (told_choices all choices) plays → length plays ≤ length choices
told_few R true choices plays told = omega (arith, AllZip-long R choices plays told)
told_few R false choices plays told = omega (arith, AllZip-long R (take 1 choices) plays told, length-take 1 choices)

pub overflow_sub-more : goal.overflow_sub-more
overflow_sub-more c =
    let t = c.args.table.now in
    omega (arith, c.len.ensures, c.count_live-count.ensures, told_few (IsPlayOf t) c.args.all (live_choices t c.args.n) c.in_ok-plays.plays.items c.in_ok-plays.ensures.plays)

pub returns-clause-played : goal.returns-clause-played
returns-clause-played c =
    let t = c.args.table.now in
    let few = told_few (IsPlayOf t) c.args.all (live_choices t c.args.n) c.in_ok-plays.plays.items c.in_ok-plays.ensures.plays in record {
      processes = refl;
      turns = c.args.trap.now.turns.items;
      trap = c.requires.trap;
      positions = omega (arith, c.len-2.ensures, c.args.trap.now.turns.ok.0);
      count = c.count_live-count.ensures;
      plays = c.in_ok-plays.ensures.plays;
      more = omega (arith, c.len.ensures, c.count_live-count.ensures, few);
    }

pub returns-clause-known : goal.returns-clause-known
returns-clause-known c =
    let t = c.args.table.now in
    let few = told_few (IsPlayOf t) c.args.all (live_choices t c.args.n) c.in_ok-plays.plays.items c.in_ok-plays.ensures.plays in record {
      some = c.requires.some;
      few = c.requires.few;
      plays = c.in_ok-plays.ensures.known;
      count = omega (arith, c.len.ensures, c.count_live-count.ensures, few);
    }
