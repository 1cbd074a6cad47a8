-- The action of a step before the step.
use Rattle.std.proofs.Common.{ℕ, zero, suc, ◌≡◌, ◌+◌, ◌<◌, ◌↔◌, List, [], ◌∷◌, ◌++◌, length, drop, get_or, IsNone, IsSome, Option, None, option_map, refl, sym, ap, ◌∙◌, subst, arith, append_assoc}
use Rattle.cn_choice.specs.declared.team.Team.{Team}
use Rattle.cn_proto.specs.Plan.{Plan, processes_of, nodes_of, protocol_of}
use Rattle.cn_proto.specs.Protocol.{place_of}
use Rattle.cn_proto.specs.Tournament.{team_of}
use Rattle.cn_proto.specs.declared.place.Place.{Place}
use Rattle.cn_agree.specs.declared.action.Turn.{Turn}
use Rattle.cn_agree.specs.declared.local.Stage.{Stage}
use Rattle.cn_agree.specs.declared.local.Stage.TheVariants.{Write, Apply, Read, Take}
use Rattle.cn_agree.specs.declared.local.Local.{Local}
use Rattle.cn_agree.specs.declared.local.Local.TheVariants.{NotBegun, Active, Decided}
use Rattle.cn_agree.specs.declared.next_action.Action.{Action}
use Rattle.cn_agree.specs.declared.next_action.StepRecord.{StepRecord}
use Rattle.cn_agree.specs.declared.node.Node.{Node}
use Rattle.cn_agree.specs.Actions.{action_at, action_from, action_of, records_from, taking}
use Rattle.cn_agree.specs.Reached.{HasBegun}
use Rattle.cn_agree.specs.Rounds.{IsRoundOf, decision_at, decision_of}
use Rattle.cn_agree.specs.Steps.{after_step}
use Rattle.cn_agree.specs.World.{World, local_at, node_at}
use Rattle.cn_agree.proofs.Actions.{found_is}
use Rattle.cn_agree.proofs.PlanRounds.{IsTurn}
use Rattle.cn_agree.proofs.Reaching.{reached_kept}

-- the action at a turn is that of the next step
pub action_is : {V : Type 0} (plan : Plan) {self : World V} {p : ℕ} {x : V} {turn : Turn} (t : IsTurn plan self p x turn) {node : Node V} {told : Option (Action V)}
    → node ≡ node_at (protocol_of plan) self turn.here.node
    → told ≡ action_at plan turn.places turn.place turn.here x turn.stage node → told ≡ action_of plan self p
action_is plan {self = self} {p = p} {x = x} {turn = turn} t {told = told} n a =
    let acts : told ≡ action_from plan self p (Active turn.place x turn.stage) = rw (a, n, t.places, t.here) refl in
    acts ∙ sym (ap (action_from plan self p) t.local)

-- a process that has begun has no action exactly if it has decided
pub none_if_decided : {V : Type 0} (plan : Plan) (schedule : List ℕ) (w : World V) → IsRoundOf plan schedule w → (p : ℕ) → p < processes_of plan → HasBegun w p
    → IsNone (action_of plan w p) ↔ IsSome (decision_at w p)
none_if_decided {V = V} plan schedule w r p lt begun = go (local_at w p) refl
  where
    staged : (i : ℕ) (x : V) (stage : Stage) → local_at w p ≡ Active i x stage → IsNone (action_from plan w p (Active i x stage)) ↔ IsSome (decision_of (Active i x stage))
    staged i x Write e = (λ h. sym h, λ h. sym h)
    staged i x Apply e = (λ h. sym h, λ h. sym h)
    staged i x (Read response) e = (λ h. sym h, λ h. sym h)
    staged i x (Take response state) e =
        let team = team_of (length plan.choice.a) in
        let k = reached_kept (protocol_of plan) (processes_of plan) (nodes_of plan) team r.sound r.reached in
        let mine = rw e at (k.1.local_holds p lt) in
        let here : Place = place_of (protocol_of plan) p i in
        let judged : Team = (protocol_of plan).judge here.role response.0 state.0 in
        let found = found_is (protocol_of plan) (processes_of plan) (nodes_of plan) team r.sound w k.0 k.1 p i lt x here.node here.role response.0 state.0 (k.0 here.node) refl mine.2 in
        let T : Option V → Type 0 = λ o. IsNone (option_map (taking (length ((protocol_of plan).path p)) i here.node judged) o) ↔ IsSome {T = V} None in
        subst T (sym found.1) (λ h. sym h, λ h. sym h)

    go : (here : Local V) → local_at w p ≡ here → IsNone (action_from plan w p here) ↔ IsSome (decision_of here)
    go NotBegun e = absurd (begun e)
    go (Active i x stage) e = staged i x stage e
    go (Decided y) e = (λ h. refl, λ h. refl)

-- the record of one item of a schedule, then those after it
pub drop_records : {V : Type 0} (plan : Plan) (schedule : List ℕ) (k d : ℕ) → k < length schedule → (w : World V)
    → records_from plan (drop k schedule) w
    ≡ record { process = get_or schedule k d; action = action_of plan w (get_or schedule k d) } ∷ records_from plan (drop (suc k) schedule) (after_step (protocol_of plan) (get_or schedule k d) w)
drop_records plan [] k d less w = absurd (omega arith)
drop_records plan (q ∷ schedule) zero d less w = refl
drop_records plan (q ∷ schedule) (suc k) d less w = drop_records plan schedule k d (omega arith) w

-- one record more
pub one_more_record : {V : Type 0} (plan : Plan) (schedule : List ℕ) (k p : ℕ) (done done' all : List (StepRecord V)) (told : Option (Action V)) (w w' : World V)
    → k < length schedule → p ≡ get_or schedule k 0
    → done ++ records_from plan (drop k schedule) w ≡ all → told ≡ action_of plan w p → done' ≡ done ++ record { process = p; action = told } ∷ [] → w' ≡ after_step (protocol_of plan) p w
    → done' ++ records_from plan (drop (k + 1) schedule) w' ≡ all
one_more_record {V = V} plan schedule k p done done' all told w w' less read h a more next =
    let one : StepRecord V = record { process = p; action = told } in
    let rest : List (StepRecord V) = records_from plan (drop (suc k) schedule) (after_step (protocol_of plan) p w) in
    let suc_is : k + 1 ≡ suc k = omega arith in
    let tail : records_from plan (drop (k + 1) schedule) w' ≡ rest = rw (suc_is, next) refl in
    let head : one ∷ rest ≡ records_from plan (drop k schedule) w =
    ap (λ t. record { process = p; action = t } ∷ rest) a
    ∙ ap (λ q. record { process = q; action = action_of plan w q } ∷ records_from plan (drop (suc k) schedule) (after_step (protocol_of plan) q w)) read
    ∙ sym (drop_records plan schedule k 0 less w) in
    ap (λ l. l ++ records_from plan (drop (k + 1) schedule) w') more ∙ ap (λ l. (done ++ one ∷ []) ++ l) tail ∙ append_assoc done (one ∷ []) rest ∙ ap (λ l. done ++ l) head ∙ h
