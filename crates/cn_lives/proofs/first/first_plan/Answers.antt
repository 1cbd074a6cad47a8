use Rattle.std.proofs.Common.{Option, subst}
use Rattle.cn_choice.specs.Canonical.{Choice}
use Rattle.cn_choice.specs.Live.{live_choices}
use Rattle.cn_finding.specs.Evidence.{IsFirst, IsFirstAmong, NoneIs}
use Rattle.cn_recover.specs.Recording.{IsRecordingWitness}
use Rattle.cn_lives.proofs.FirstPlans.{found_fits, home_many, stands}
use Rattle.cn_lives.proofs.first.first_plan.Goals as goal

pub returns-in-None : goal.returns-in-None
returns-in-None g c =
    let t = c.args.table.now in
    let none : NoneIs (IsRecordingWitness t) (live_choices t c.args.n) =
    subst (λ (o : Option Choice). IsFirstAmong (IsRecordingWitness t) (live_choices t c.args.n) o)
    c.in-None.is c.in_ok-first_recording_witness.ensures in
    c.live_choices_decide.ensures.refuted t c.args.n none

pub plan_of_witness-requires-clause-fits : goal.plan_of_witness-requires-clause-fits
plan_of_witness-requires-clause-fits g c =
    let t = c.args.table.now in
    let n = c.args.n in
    let w = c.in-Some.witness in
    let first : IsFirst (IsRecordingWitness t) (live_choices t n) w =
    subst (λ (o : Option Choice). IsFirstAmong (IsRecordingWitness t) (live_choices t n) o)
    c.in-Some.is c.in_ok-first_recording_witness.ensures in
    let raw = ((c.live_list.ensures.listed t n w).0 (stands t n w first)).1 in
    found_fits t n w first raw c.requires.some c.requires.few

pub returns-in_ok-plan_of_witness-in-Some : goal.returns-in_ok-plan_of_witness-in-Some
returns-in_ok-plan_of_witness-in-Some g c =
    let t = c.args.table.now in
    let n = c.args.n in
    let w = c.in-Some.witness in
    let first : IsFirst (IsRecordingWitness t) (live_choices t n) w =
    subst (λ (o : Option Choice). IsFirstAmong (IsRecordingWitness t) (live_choices t n) o)
    c.in-Some.is c.in_ok-first_recording_witness.ensures in
    let raw = ((c.live_list.ensures.listed t n w).0 (stands t n w first)).1 in
    let plan = c.in_ok-plan_of_witness-in-Some in (
      plan.ensures.plan,
      plan.ensures.table,
      home_many t n w first raw plan.field-0.plan.choice plan.ensures.choice,
      (w, first, plan.ensures.choice),
    )
