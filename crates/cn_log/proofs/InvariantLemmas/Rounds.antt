-- The rounds of a plan agree, as the log needs it.
use Rattle.std.proofs.Common.{ℕ, zero, suc, ◌≡◌, ◌≢◌, ◌⊎◌, inl, inr, ◌+◌, ◌-◌, ◌*◌, ◌<◌, ◌≤◌, ◌↔◌, min, IsSome, true≢false, sym, ◌∙◌, List, [], ◌∷◌, ◌++◌, length, replicate, Option, Some, None, refl, ap, arith, slice_index_or, get_or-set_same, get_or-set_other}
use Rattle.cn_choice.specs.declared.team.Team.{Team}
use Rattle.cn_proto.specs.Plan.{Plan, IsPlan, protocol_of, processes_of, nodes_of}
use Rattle.cn_proto.specs.Protocol.{ProtocolOfRounds}
use Rattle.cn_proto.specs.Sound.{IsSound}
use Rattle.cn_proto.specs.Tournament.{team_of}
use Rattle.cn_agree.specs.declared.local.Local.{Local}
use Rattle.cn_agree.specs.declared.local.Local.TheVariants.{NotBegun, Active, Decided}
use Rattle.cn_agree.specs.declared.local.Stage.TheVariants.{Write}
use Rattle.cn_agree.specs.Reached.{IsReached, Opens, Begins, Steps, HasBegun}
use Rattle.cn_agree.specs.Rounds.{decision_of, fixed_value, steps_taken, RunsBy, KeepsConsensus}
use Rattle.cn_agree.specs.Consensus.{occurrences}
use Rattle.cn_agree.proofs.Lists.{count_here}
use Rattle.cn_agree.specs.Steps.{after_step, after_step_from}
use Rattle.cn_agree.specs.World.{World, local_at, input_at}
use Rattle.cn_log.specs.declared.batch.Batch.{Batch}
use Rattle.cn_log.specs.Agreement.{RoundsAgree}
use Rattle.cn_log.specs.Opening.{Opening, setting_of}

min_low : (a b : ℕ) → a ≤ b → min a b ≡ a
min_low a b h = grind arith

-- the laws of all rounds and plans
pub record RoundLaw : Type 0 where
  pub consensus : (P : ProtocolOfRounds) (n nodes : ℕ) (team : ℕ → Team) (schedule : List ℕ) (w : World Batch) → IsSound P n nodes team → IsReached P n nodes schedule w → KeepsConsensus P n schedule w
  pub fixed : (P : ProtocolOfRounds) (n nodes : ℕ) (team : ℕ → Team) (schedule : List ℕ) (w : World Batch) → IsSound P n nodes team → IsReached P n nodes schedule w → (p : ℕ) (x : Batch) → p < n
      → fixed_value w ≡ Some x → fixed_value (after_step P p w) ≡ Some x
  pub begun : (P : ProtocolOfRounds) (n nodes : ℕ) (team : ℕ → Team) (schedule : List ℕ) (w : World Batch) → IsSound P n nodes team → IsReached P n nodes schedule w → (p : ℕ)
      → p < n → (local_at w p ≡ NotBegun) ↔ (input_at w p ≡ None)
  pub sizes : (P : ProtocolOfRounds) (n nodes : ℕ) (team : ℕ → Team) (schedule : List ℕ) (w : World Batch) → IsSound P n nodes team → IsReached P n nodes schedule w
      → (length w.nodes ≡ nodes) × (length w.locals ≡ n) × (length w.inputs ≡ n)
  pub sound_plans : (p : Plan) → IsPlan p → IsSound (protocol_of p) (processes_of p) (nodes_of p) (team_of (length p.choice.a))
  pub short_paths : (p : Plan) → IsPlan p → (process : ℕ) → process < processes_of p → length ((protocol_of p).path process) ≤ nodes_of p

none_in : (n q : ℕ) → slice_index_or (replicate n (let o : Option Batch = None in o)) q None ≡ None
none_in zero q = refl
none_in (suc n) zero = refl
none_in (suc n) (suc q) = none_in n q

inputs_step : (P : ProtocolOfRounds) (p : ℕ) (w : World Batch) (l : Local Batch) → (after_step_from P p w l).inputs ≡ w.inputs
inputs_step P p w NotBegun = refl
inputs_step P p w (Active i x stage) = refl
inputs_step P p w (Decided y) = refl

others_step : (P : ProtocolOfRounds) (p q : ℕ) (w : World Batch) → q ≢ p → (l : Local Batch) → local_at (after_step_from P p w l) q ≡ local_at w q
others_step P p q w ne NotBegun = refl
others_step P p q w ne (Active i x stage) = get_or-set_other w.locals p q _ NotBegun ne
others_step P p q w ne (Decided y) = refl

module _ (law : RoundLaw) (o : Opening) (plan : IsPlan o.plan) where
  sound : IsSound (protocol_of o.plan) (processes_of o.plan) (nodes_of o.plan) (team_of (length o.plan.choice.a))
  sound = law.sound_plans o.plan plan

  abbrev P : ProtocolOfRounds
  P = protocol_of o.plan

  abbrev n : ℕ
  n = processes_of o.plan

  abbrev Good : World Batch → Type 0
  Good w = RunsBy o.plan w

  abbrev round_at : (schedule : List ℕ) (w : World Batch) → IsReached P n (nodes_of o.plan) schedule w → Good w
  round_at schedule w reached = (schedule, record { is_plan = plan; sound = sound; reached = reached })

  keeps_of : (w : World Batch) (good : Good w) → KeepsConsensus P n good.0 w
  keeps_of w good = law.consensus P n (nodes_of o.plan) (team_of (length o.plan.choice.a)) good.0 w sound good.1.reached

  pub sizes_of : (w : World Batch) → Good w → (length w.nodes ≡ nodes_of o.plan) × (length w.locals ≡ n) × (length w.inputs ≡ n)
  sizes_of w good = law.sizes P n (nodes_of o.plan) (team_of (length o.plan.choice.a)) good.0 w sound good.1.reached

  pub begun_of : (w : World Batch) → Good w → (p : ℕ) → p < n → (local_at w p ≡ NotBegun) ↔ (input_at w p ≡ None)
  begun_of w good p lt = law.begun P n (nodes_of o.plan) (team_of (length o.plan.choice.a)) good.0 w sound good.1.reached p lt

  pub has_begun : (w : World Batch) → Good w → (p : ℕ) → p < n → (v : Batch) → input_at w p ≡ Some v → HasBegun w p
  has_begun w good p lt v h = λ none. (let e = (begun_of w good p lt).0 none in absurd (cc (e, h)))

  -- a process that has not decided has taken as many steps as it occurs, fewer than four for each place of its path
  not_some : (o : Option Batch) → o ≡ None → IsSome o → ⊥
  not_some None h s = true≢false (sym s)
  not_some (Some x) h s = absurd (cc h)

  taken_is : (w : World Batch) (good : Good w) → (p : ℕ) → p < n → decision_of (local_at w p) ≡ None
      → (steps_taken P p (local_at w p) ≡ occurrences good.0 p) × (occurrences good.0 p < 4 * length (P.path p))
  taken_is w good p lt none =
      let k = keeps_of w good in
      let s = k.steps p lt in
      let u : occurrences good.0 p < 4 * length (P.path p) = (let cases : (4 * length (P.path p) ≤ occurrences good.0 p) ⊎ (occurrences good.0 p < 4 * length (P.path p)) = grind arith in
      elim cases [ inl all ↦ absurd (not_some (decision_of (local_at w p)) none ((k.in_time p lt).1 all)) | inr few ↦ few ]) in
      (s ∙ min_low (occurrences good.0 p) (4 * length (P.path p)) (omega (arith, u)), u)

  taken_more : (w : World Batch) (good : Good w) → (p : ℕ) (v : Batch) → p < n → input_at w p ≡ Some v → decision_of (local_at w p) ≡ None
      → steps_taken P p (local_at (after_step P p w) p) ≡ steps_taken P p (local_at w p) + 1
  taken_more w good p v lt some none =
      let t = taken_is w good p lt none in
      let u = t.1 in
      let w' : World Batch = after_step P p w in
      let good' : Good w' = round_at (good.0 ++ p ∷ []) w' (Steps p lt (has_begun w good p lt v some) good.1.reached) in
      let s = (keeps_of w' good').steps p lt in
      let c : occurrences (good.0 ++ p ∷ []) p ≡ occurrences good.0 p + 1 = count_here p p good.0 refl in
      s ∙ min_low (occurrences (good.0 ++ p ∷ []) p) (4 * length (P.path p)) (omega (arith, u, c)) ∙ c ∙ ap (λ z. z + 1) (sym t.0)

  pub agrees_of : RoundsAgree (setting_of o) (RunsBy o.plan)
  agrees_of = record {
    good_untouched = round_at [] _ Opens;
    good_begin = λ r p v lt good none. round_at good.0 _ (Begins p v lt ((begun_of r good p lt).1 none) good.1.reached);
    good_step = λ r p v lt good some. round_at (good.0 ++ p ∷ []) _ (Steps p lt (has_begun r good p lt v some) good.1.reached);
    unfixed = refl;
    keeps = λ r p y lt good h. law.fixed P n (nodes_of o.plan) (team_of (length o.plan.choice.a)) good.0 r sound good.1.reached p y lt h;
    quiet = λ r p v. refl;
    decides = λ r p y lt good h. (keeps_of r good).decisions p y h;
    valid = λ r y good h. (let v = (keeps_of r good).valid y h in (v.0, v.3));
    empty = none_in n;
    input_mine = λ r p v lt good. get_or-set_same r.inputs p (Some v) None (let s = (sizes_of r good).2 in omega arith);
    input_other = λ r p q v ne. get_or-set_other r.inputs p q (Some v) None ne;
    input_step = λ r p q. ap (λ (is : List (Option Batch)). slice_index_or is q None) (inputs_step P p r (local_at r p));
    undecided_begin = λ r p v lt good. ap decision_of (get_or-set_same r.locals p (Active 0 v Write) NotBegun (let s = (sizes_of r good).1 in omega arith));
    decided_begin = λ r p q v ne. ap decision_of (get_or-set_other r.locals p q (Active 0 v Write) NotBegun ne);
    decided_step = λ r p q ne. ap decision_of (others_step P p q r ne (local_at r p));
    taken_begin = λ r p v lt good. ap (steps_taken P p) (get_or-set_same r.locals p (Active 0 v Write) NotBegun (let s = (sizes_of r good).1 in omega arith));
    taken_step = λ r p v lt good some none. taken_more r good p v lt some none;
    taken_low = λ r p v lt good some none.
        (let t = taken_is r good p lt none in let a = t.0 in let b = t.1 in let s : length (P.path p) ≤ n - 1 = law.short_paths o.plan plan p lt in omega (arith, a, b, s));
    taken_begin_other = λ r p q v ne. ap (steps_taken P q) (get_or-set_other r.locals p q (Active 0 v Write) NotBegun ne);
    taken_step_other = λ r p q ne. ap (steps_taken P q) (others_step P p q r ne (local_at r p));
    few = plan.fits.few;
  }
