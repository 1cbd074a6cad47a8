-- Facts of witnesses.
use Rattle.std.proofs.Common.{ℕ, zero, suc, ◌≡◌, ◌≢◌, ◌↔◌, ◌<◌, ◌⊎◌, inl, inr, Bool, List, [], ◌∷◌, AllPairs, slice_get, Some, refl, sym, ap, ◌∙◌, subst, arith}
use Rattle.cn_table.specs.TypeTable.{TypeTable, transition}
use Rattle.cn_proto.specs.Order.{after}
use Rattle.cn_choice.proofs.ListLemmas.Members.{IsIn}
use Rattle.cn_meetings.specs.Division.{AreJoined}
use Rattle.cn_meetings.specs.Meeting.{Meeting, Sight, act, see}
use Rattle.cn_meetings.specs.Witness.{Has, BeginsIn, IsOrderOf, IsShown, IsTeamWitness, JudgesRight}
use Rattle.cn_meetings.proofs.Tellings.{IsSame, IsTold, Telling, decide_same, if_so, in_tellings, telling_in, tellings}

pub joined_decide : (t : TypeTable) (M : Meeting) (processes : ℕ → Bool) (team : ℕ → ℕ) → IsTeamWitness t M processes team ↔ ((p q : ℕ) → AreJoined t M processes p q → team p ≡ team q)
joined_decide t M processes team = (
  λ witness p q j. witness (team p) (team q) j.to j.response j.saw (p ∷ j.behind_p) (q ∷ j.behind_q) j.shown_p j.shown_q refl refl,
  λ together g h p response saw alpha beta a b bg bh. begin together g h p response saw alpha beta a b bg bh,
)
  where
    begin : ((p q : ℕ) → AreJoined t M processes p q → team p ≡ team q) → (g h j response saw : ℕ) (alpha beta : List ℕ) → IsShown t M processes alpha j response saw → IsShown t M processes beta j response saw
        → BeginsIn team g alpha → BeginsIn team h beta → g ≡ h
    begin together g h j response saw [] beta a b bg bh = elim bg [ ]
    begin together g h j response saw (p ∷ alpha) [] a b bg bh = elim bh [ ]
    begin together g h j response saw (p ∷ alpha) (q ∷ beta) a b bg bh =
        sym bg ∙ (together p q (record { behind_p = alpha; behind_q = beta; to = j; response = response; saw = saw; shown_p = a; shown_q = b }) ∙ bh)

pub judged : (t : TypeTable) (M : Meeting) (processes : ℕ → Bool) (team : ℕ → ℕ) (judge : ℕ → ℕ → ℕ → ℕ) → JudgesRight t M processes team judge → IsTeamWitness t M processes team
judged t M processes team judge right g h p response saw alpha beta a b bg bh =
    sym (right g p response saw alpha a bg) ∙ right h p response saw beta b bh

-- ---- the judgement of a witness: the team of the first telling that is the same
abbrev judge_by : (ℕ → ℕ) → List Telling → ℕ → ℕ → ℕ → ℕ
judge_by team [] p response saw = 0
judge_by team (x ∷ told) p response saw = if_so (decide_same x (0, p, response, saw)) (team x.0) (judge_by team told p response saw)

judge_is : (team : ℕ → ℕ) (told : List Telling) (g p response saw : ℕ) → IsIn (g, p, response, saw) told
    → ((x : Telling) → IsIn x told → IsSame x (0, p, response, saw) → team x.0 ≡ team g)
    → judge_by team told p response saw ≡ team g
judge_is team [] g p response saw i same = absurd i
judge_is team (x ∷ told) g p response saw i same = go (decide_same x (0, p, response, saw)) (λ j. judge_is team told g p response saw j (λ y k. same y (inr k)))
  where
    go : (d : IsSame x (0, p, response, saw) ⊎ ¬ IsSame x (0, p, response, saw)) → (IsIn (g, p, response, saw) told → judge_by team told p response saw ≡ team g)
        → if_so d (team x.0) (judge_by team told p response saw) ≡ team g
    go (inl h) on = same x (inl refl) h
    go (inr other) on = elim i [
      | inl e ↦ absurd (other (ap (λ (z : Telling). z.1) e, ap (λ (z : Telling). z.2) e, ap (λ (z : Telling). z.3) e))
      | inr j ↦ on j
    ]

pub judgement : (t : TypeTable) (M : Meeting) (processes : ℕ → Bool) (n : ℕ) (team : ℕ → ℕ) → ((p : ℕ) → Has processes p → p < n) → IsTeamWitness t M processes team
    → (judge : ℕ → ℕ → ℕ → ℕ) × JudgesRight t M processes team judge
judgement t M processes n team few witness = (judge_by team (tellings t M processes n), right)
  where
    same_team : (x : Telling) (q first : ℕ) (order : List ℕ) (r s : ℕ) → IsTold t M processes x → IsShown t M processes (first ∷ order) q r s → x.1 ≡ q → x.2 ≡ r → x.3 ≡ s → team x.0 ≡ team first
    same_team x q first order r s told shown e f h =
        let now : IsShown t M processes (x.0 ∷ told.behind) q r s = rw (e, f, h) at told.shown in
        witness (team x.0) (team first) q r s (x.0 ∷ told.behind) (first ∷ order) now shown refl refl

    right : JudgesRight t M processes team (judge_by team (tellings t M processes n))
    right g p response saw [] shown begins = elim begins [ ]
    right g p response saw (first ∷ order) shown begins =
        judge_is team (tellings t M processes n) first p response saw (telling_in t M processes n few first order p response saw shown)
        (λ x i same. same_team x p first order response saw (in_tellings t M processes n x i) shown same.0 same.1 same.2)
        ∙ begins

-- ---- what keeps a witness
shown_among_more : (t : TypeTable) (M : Meeting) (fewer processes : ℕ → Bool) → ((p : ℕ) → Has fewer p → Has processes p) → (order : List ℕ) (p response saw : ℕ) → IsShown t M fewer order p response saw → IsShown t M processes order p response saw
shown_among_more t M fewer processes within order p response saw shown = record {
  is_order = record { distinct = shown.is_order.distinct; members = λ k q e. within q (shown.is_order.members k q e) };
  answered = shown.answered;
  last_state = shown.last_state;
}

pub fewer_processes : (t : TypeTable) (M : Meeting) (fewer processes : ℕ → Bool) (team : ℕ → ℕ) → ((p : ℕ) → Has fewer p → Has processes p) → IsTeamWitness t M processes team → IsTeamWitness t M fewer team
fewer_processes t M fewer processes team within witness g h p response saw alpha beta a b =
    witness g h p response saw alpha beta (shown_among_more t M fewer processes within alpha p response saw a) (shown_among_more t M fewer processes within beta p response saw b)

pub fewer_teams : (t : TypeTable) (M : Meeting) (processes : ℕ → Bool) (team merged : ℕ → ℕ) → IsTeamWitness t M processes team → IsTeamWitness t M processes (λ p. merged (team p))
fewer_teams t M processes team merged witness =
    (joined_decide t M processes (λ p. merged (team p))).1 (λ p q joined. ap merged ((joined_decide t M processes team).0 witness p q joined))

pub seeing_more : (t : TypeTable) (M : Meeting) (sight : ℕ → Sight) (blur : ℕ → ℕ → ℕ) (processes : ℕ → Bool) (team : ℕ → ℕ) → ((p q : ℕ) → see t M p q ≡ blur p (see t (record M { sight = sight }) p q))
    → IsTeamWitness t M processes team → IsTeamWitness t (record M { sight = sight }) processes team
seeing_more t M sight blur processes team blurred witness g h p response saw alpha beta a b =
    witness g h p response (blur p saw) alpha beta (blurry alpha a) (blurry beta b)
  where
    blurry : (order : List ℕ) → IsShown t (record M { sight = sight }) processes order p response saw → IsShown t M processes order p response (blur p saw)
    blurry order shown = record {
      is_order = shown.is_order;
      answered = shown.answered;
      last_state = blurred p (after (act t M) M.start order) ∙ ap (blur p) shown.last_state;
    }

pair_order : (processes : ℕ → Bool) (p q : ℕ) → p ≢ q → Has processes p → Has processes q → IsOrderOf processes (p ∷ q ∷ [])
pair_order processes p q ne mp mq = record { distinct = differ; members = each }
  where
    differ : AllPairs (λ (x : ℕ) y. x ≢ y) (p ∷ q ∷ [])
    differ i zero d l m = absurd (omega (arith, l))
    differ zero (suc zero) d l m = ne
    differ zero (suc (suc j)) d l m = absurd (omega (arith, m))
    differ (suc i) (suc zero) d l m = absurd (omega (arith, l))
    differ (suc i) (suc (suc j)) d l m = absurd (omega (arith, m))

    each : (k r : ℕ) → slice_get (p ∷ q ∷ []) k ≡ Some r → Has processes r
    each zero r e = let same : p ≡ r = cc in subst (Has processes) same mp
    each (suc zero) r e = let same : q ≡ r = cc in subst (Has processes) same mq
    each (suc (suc k)) r e = absurd cc

-- a third process is shown the same behind either of two processes with one operation
pub one_operation : (t : TypeTable) (M : Meeting) (processes : ℕ → Bool) (team : ℕ → ℕ) (p q third : ℕ) → IsTeamWitness t M processes team → Has processes p → Has processes q → Has processes third
    → p ≢ third → q ≢ third → M.operation p ≡ M.operation q → team p ≡ team q
one_operation t M processes team p q third witness mp mq mt np nq same =
    let next : ℕ = (act t M q M.start).1 in
    let e : (act t M p M.start).1 ≡ next = ap (λ o. (transition t o M.start).1) same in
    let saw : ℕ = see t M third (act t M third next).1 in
    witness (team p) (team q) third (act t M third next).0 saw (p ∷ third ∷ []) (q ∷ third ∷ [])
    (record {
      is_order = pair_order processes p third np mp mt;
      answered = (1, refl, ap (λ s. Some (act t M third s).0) e);
      last_state = ap (λ s. see t M third (act t M third s).1) e;
    })
    (record { is_order = pair_order processes q third nq mq mt; answered = (1, refl, refl); last_state = refl }) refl refl
