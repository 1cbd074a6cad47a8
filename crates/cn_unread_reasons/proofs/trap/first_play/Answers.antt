use Rattle.std.proofs.Common.{◌≡◌, ◌∙◌, List, [], ◌∷◌, take, ap, subst, sym}
use Rattle.std.specs.List.{AllZip}
use Rattle.cn_table.proofs.Lists.{Contains-between}
use Rattle.cn_choice.specs.Canonical.{Choice}
use Rattle.cn_choice.specs.Live.{live_choices}
use Rattle.cn_unread_reasons.specs.Plays.{IsPlayOf}
use Rattle.cn_unread_reasons.proofs.trap.first_play.Goals as goal

pub push_play-requires-clause-fits : goal.push_play-requires-clause-fits
push_play-requires-clause-fits c =
    let t = c.args.table.now in
    let d = c.in-Some.choice in
    let listed = Contains-between (live_choices t c.args.n) [] c.next.new.self d (sym (sym c.new.ensures ∙ c.in-Some.ensures.steps)) in
    ((c.live_list.ensures.listed t c.args.n d).0 listed).1

pub returns-clause-plays : goal.returns-clause-plays
returns-clause-plays c =
    let t = c.args.table.now in
    let first : take 1 (live_choices t c.args.n) ≡ c.in-Some.choice ∷ [] = ap (λ (cs : List Choice). take 1 cs) (sym c.new.ensures ∙ c.in-Some.ensures.steps) in
    subst (λ (cs : List Choice). AllZip (IsPlayOf t) cs c.push_play.new.plays.items) (sym first)
    (c.in_ok-push_play.ensures.plays [] (rw c.new-plays.ensures.items tt))
