-- What each event of a schedule does, one event after the other.
use Rattle.std.proofs.Common.{ℕ, zero, suc, ◌≡◌, ◌+◌, ◌<◌, List, [], ◌∷◌, ◌++◌, length, drop, get_or}
use Rattle.std.proofs.Common.{refl, sym, ap, ◌∙◌, arith, append_assoc}
use Rattle.cn_lives.specs.Courses.{event_action, records_from}
use Rattle.cn_lives.specs.Plans.{RecordingPlan}
use Rattle.cn_lives.specs.Runs.{after_event}
use Rattle.cn_lives.specs.Schedules.{process_of}
use Rattle.cn_lives.specs.Steps.{World}
use Rattle.cn_lives.specs.declared.life_action.LifeAction.{LifeAction}
use Rattle.cn_lives.specs.declared.life_action.LifeRecord.{LifeRecord}
use Rattle.cn_lives.specs.declared.schedule.Event.{Event}

-- the record of an event in a world
abbrev pub record_of : RecordingPlan → World → Event → LifeRecord
record_of p w e = record { process = process_of e; action = event_action p w e }

-- the record of one event of a schedule, then those after it
pub drop_records : (p : RecordingPlan) (schedule : List Event) (k : ℕ) (d : Event)
    → k < length schedule → (w : World)
    → records_from p (drop k schedule) w
    ≡ record_of p w (get_or schedule k d) ∷ records_from p (drop (suc k) schedule)
    (after_event p w (get_or schedule k d))
drop_records p [] k d less w = absurd (omega arith)
drop_records p (e ∷ schedule) zero d less w = refl
drop_records p (e ∷ schedule) (suc k) d less w = drop_records p schedule k d (omega arith) w

-- one record more
pub one_more_record : (p : RecordingPlan) (schedule : List Event) (k : ℕ) (e : Event)
    (done done' all : List LifeRecord) (told : LifeAction) (w w' : World) → k < length schedule
    → e ≡ get_or schedule k e → done ++ records_from p (drop k schedule) w ≡ all
    → told ≡ event_action p w e
    → done' ≡ done ++ record { process = process_of e; action = told } ∷ []
    → w' ≡ after_event p w e → done' ++ records_from p (drop (k + 1) schedule) w' ≡ all
one_more_record p schedule k e done done' all told w w' less read h a more next =
    let one : LifeRecord = record { process = process_of e; action = told } in
    let rest : List LifeRecord = records_from p (drop (suc k) schedule)
    (after_event p w e) in
    let suc_is : k + 1 ≡ suc k = omega arith in
    let tail : records_from p (drop (k + 1) schedule) w' ≡ rest = rw (suc_is, next) refl in
    let told_is : one ∷ rest ≡ record_of p w e ∷ rest =
    ap (λ (t : LifeAction). record { process = process_of e; action = t } ∷ rest) a in
    let read_is : record_of p w e ∷ rest
    ≡ record_of p w (get_or schedule k e) ∷ records_from p (drop (suc k) schedule)
    (after_event p w (get_or schedule k e)) =
    ap (λ (z : Event). record_of p w z ∷ records_from p (drop (suc k) schedule)
    (after_event p w z)) read in
    let head : one ∷ rest ≡ records_from p (drop k schedule) w =
    told_is ∙ (read_is ∙ sym (drop_records p schedule k e less w)) in
    ap (λ (l : List LifeRecord). l ++ records_from p (drop (k + 1) schedule) w') more
    ∙ (ap (λ (l : List LifeRecord). (done ++ one ∷ []) ++ l) tail
    ∙ (append_assoc done (one ∷ []) rest ∙ (ap (λ (l : List LifeRecord). done ++ l) head ∙ h)))
