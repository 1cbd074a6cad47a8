use Rattle.std.proofs.Common.{◌≡◌, arith, false, subst, sym, true≢false}
use Rattle.cn_meetings.specs.Meeting.{IsSightOf}
use Rattle.cn_divisions.specs.Looks.{AreSeenAlike}
use Rattle.cn_meetings.specs.Sights.{reads, sight_of}
use Rattle.cn_meetings.specs.declared.sight.Sight.{Sight}
use Rattle.cn_meetings.specs.declared.sight.Sight.TheVariants.{Nothing}
use Rattle.cn_divisions.proofs.Alike.{all_alike, answers_alike}
use Rattle.cn_divisions.proofs.looks.alike.Goals as goal

pub returns-in-State : goal.returns-in-State
returns-in-State c h = absurd (true≢false (subst (λ (s : Sight). reads s ≡ false) c.in-State.is h))

pub returns-in-Nothing : goal.returns-in-Nothing
returns-in-Nothing c h =
    let t = c.args.table.now in
    subst (λ (s : Sight). AreSeenAlike t s c.all_states.result.items) (sym c.in-Nothing.is)
    (subst (AreSeenAlike t Nothing) (sym c.all_states.ensures) (all_alike t (omega (arith, c.states-states.ensures.number, c.states-states.ensures.range.1))))

pub answers-requires : goal.answers-requires
answers-requires c = (subst (λ (s : Sight). IsSightOf c.args.table.now (sight_of s)) c.in-Response.is c.requires).known

pub returns-in-Response : goal.returns-in-Response
returns-in-Response c h =
    let t = c.args.table.now in
    subst (λ (s : Sight). AreSeenAlike t s c.answers.result.items) (sym c.in-Response.is) (answers_alike t c.in-Response.operation c.answers.result.items c.states-states.ensures.table c.answers.ensures)
