use Rattle.std.proofs.Common.{◌≡◌, ◌∙◌, List, ◌++◌, ap, append-nil, append_assoc, subst, sym}
use Rattle.std.specs.List.{AllZip}
use Rattle.cn_table.proofs.Lists.{Contains-between}
use Rattle.cn_choice.specs.Canonical.{Choice}
use Rattle.cn_choice.specs.Live.{live_choices}
use Rattle.cn_unread_reasons.specs.Plays.{IsPlayOf}
use Rattle.cn_unread_reasons.proofs.trap.all_plays.Goals as goal

pub push_play-requires-clause-fits : goal.push_play-requires-clause-fits
push_play-requires-clause-fits c =
    let t = c.args.table.now in
    let d = c.in-Some.choice in
    let listed = Contains-between (live_choices t c.args.n) c.loop-choice.yielded c.next.new.self d (rw c.in-Some.ensures.steps at c.loop-choice.invariant.all) in
    ((c.live_list.ensures.listed t c.args.n d).0 listed).1

pub loop-choice-preserved : goal.loop-choice-preserved
loop-choice-preserved c =
    let i = c.loop-choice.invariant in record {
      can_next = tt;
      is_finite = tt;
      all = rw append_assoc (rw c.in-Some.ensures.steps at i.all);
      plays = c.in_ok-push_play.ensures.plays c.loop-choice.yielded i.plays;
      known = c.in_ok-push_play.ensures.known;
    }

pub returns-clause-plays : goal.returns-clause-plays
returns-clause-plays c =
    let i = c.loop-choice.invariant in
    let whole : c.loop-choice.yielded ≡ live_choices c.args.table.now c.args.n =
    sym (append-nil c.loop-choice.yielded) ∙ (ap (λ (cs : List Choice). c.loop-choice.yielded ++ cs) (sym c.in-None.ensures.steps.0) ∙ i.all) in
    subst (λ (cs : List Choice). AllZip (IsPlayOf c.args.table.now) cs c.loop-choice.plays.items) whole i.plays
