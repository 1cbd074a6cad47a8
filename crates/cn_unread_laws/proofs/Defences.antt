-- A critical configuration of a protocol that reads no object gives a choice that is defended.
use Rattle.std.proofs.Common.{◌≡◌, ◌≢◌, ℕ, suc, ◌+◌, ◌<◌, ◌≤◌, [], ◌∷◌, refl, sym, ap}
use Rattle.std.proofs.Common.{◌∙◌, subst, arith, true, false, Some}
use Rattle.std.specs.Prelude.{slice_get, slice_index}
use Rattle.std.proofs.lemmas.List.FromFn.{length-map-range_with_len}
use Rattle.cn_table.specs.TypeTable.{IsClosed, TypeTable, transition}
use Rattle.cn_choice.specs.Discerning.{IsWitness}
use Rattle.cn_choice.specs.RawChoices.{IsRawChoice, RawChoice}
use Rattle.cn_choice.specs.declared.team.Team.TheVariants.{A, B}
use Rattle.cn_consensus.specs.Configuration.{Configuration, after, initial, perform, put, step}
use Rattle.cn_consensus.specs.Consensus.{IsConsensusProtocol}
use Rattle.cn_consensus.specs.Protocol.{Action, IsProtocolOf, Protocol}
use Rattle.cn_consensus.specs.Protocol.Action.{Decide, ReadRegister, WriteRegister, ApplyOperation}
use Rattle.cn_consensus.specs.Protocol.Action.{ReadObject}
use Rattle.cn_consensus.specs.Valence.{IsCritical}
use Rattle.cn_consensus.proofs.Alike.{others_stepped, put-same}
use Rattle.cn_consensus.proofs.FirstConfiguration.{critical, two_inputs}
use Rattle.cn_consensus.proofs.Witnesses.{is_raw_choice, operation_at, valence_a}
use Rattle.cn_consensus.proofs.Witnesses.{valence_b}
use Rattle.cn_unread_laws.specs.Reads.{IsWithoutReads, ReadsNoObject, NeverReads, LeavesUnread}
use Rattle.cn_unread.specs.Defended.{IsDefended, IsDefendedFor, HoldsWithin, start}
use Rattle.cn_unread.specs.Defended.Status.{AheadInFirst, AheadInSecond, Poised}
use Rattle.cn_unread_laws.proofs.CriticalChoices.{about, begun_valent, chosen, is_witness, place}
use Rattle.cn_unread_laws.proofs.Defence.{Tracks, all_hold, put_status}
use Rattle.cn_unread_laws.proofs.FewSteps.{EndsIn, ends_step, some_end}
use Rattle.cn_unread_laws.proofs.Split.{Split, split_here, split_there}

module _ {L V : Type 0} (t : ℕ → TypeTable) (n : ℕ) (P : Protocol L V) (known : IsProtocolOf t n P)
    (c : Configuration L V) (w : IsCritical t n P c)
    (spared : NeverReads n P (place t n P known c w)) where
  abbrev object : ℕ
  object = place t n P known c w

  abbrev op : ℕ → ℕ
  op j = slice_index (chosen t n P known c w).operations j

  module _ (a b : ℕ) (la : a < n) (lb : b < n) (apart : a ≢ b)
      (in_a : slice_get (chosen t n P known c w).marks a ≡ Some A)
      (in_b : slice_get (chosen t n P known c w).marks b ≡ Some B) where
    abbrev d : Configuration L V
    d = step t P c a

    abbrev e : Configuration L V
    e = step t P c b

    reply : (p : ℕ) → p < n
        → (k : ℕ → L) × (P.action p (c.locals p) ≡ ApplyOperation object (op p) k)
    reply p l = about t n P known c w p l

    is_d : d ≡ perform t c a (ApplyOperation object (op a) (reply a la).0)
    is_d = ap (perform t c a) (reply a la).1

    is_e : e ≡ perform t c b (ApplyOperation object (op b) (reply b lb).0)
    is_e = ap (perform t c b) (reply b lb).1

    unmoved_d : (i : ℕ) → i ≢ a → d.locals i ≡ c.locals i
    unmoved_d i m = others_stepped t P a i c m

    unmoved_e : (i : ℕ) → i ≢ b → e.locals i ≡ c.locals i
    unmoved_e i m = others_stepped t P b i c m

    split : Split object (transition (t object) (op a) (c.objects object)).1
        (transition (t object) (op b) (c.objects object)).1 d e
    split =
        let q = c.objects object in
        let none : Split object q q c c = record {
          registers = λ i. refl;
          others = λ i m. refl;
          here = refl;
          there = refl;
        } in
        let one : Split object (transition (t object) (op a) q).1 q d c =
        subst (λ (z : Configuration L V). Split object (transition (t object) (op a) q).1 q z c)
        (sym is_d) (split_here t object q q c c none a (op a) (reply a la).0) in
        subst (λ (z : Configuration L V). Split object (transition (t object) (op a) q).1
        (transition (t object) (op b) q).1 d z) (sym is_e)
        (split_there t object (transition (t object) (op a) q).1 q d c one b (op b) (reply b lb).0)

    tracks : Tracks t object n P known spared
        (start (t object) (chosen t n P known c w) a b) d e
    tracks = record {
      split = split;
      here = begun_valent t n P known c w A false (a ∷ []) valence_a (la, tt) (a, refl, in_a);
      there = begun_valent t n P known c w B true (b ∷ []) valence_b (lb, tt) (b, refl, in_b);
      status = λ i l. put_status t object n P known spared d e
          (put (λ j. Poised (op j)) a (AheadInFirst (op a)
          (transition (t object) (op a) (c.objects object)).0)) b
          (AheadInSecond (op b) (transition (t object) (op b) (c.objects object)).0) i
          (λ s. (
            (reply b lb).0,
            ap (λ (z : Configuration L V). z.locals b) is_e ∙ put-same c.locals b _,
            ap (P.action b) (unmoved_d b (λ z. apart (sym z))) ∙ (reply b lb).1,
          ))
          (λ not_b. put_status t object n P known spared d e (λ j. Poised (op j)) a
          (AheadInFirst (op a) (transition (t object) (op a) (c.objects object)).0) i
          (λ s. (
            (reply a la).0,
            ap (λ (z : Configuration L V). z.locals a) is_d ∙ put-same c.locals a _,
            ap (P.action a) (unmoved_e a apart) ∙ (reply a la).1,
          ))
          (λ not_a. (
            (reply i l).0,
            ap (P.action i) (unmoved_d i not_a) ∙ (reply i l).1,
            ap (P.action i) (unmoved_e i not_b) ∙ (reply i l).1,
          )));
    }

  is_defended : (m : ℕ) → EndsIn t n P m c → IsDefended (t object) (chosen t n P known c w)
  is_defended m ends a b ka kb in_a in_b =
      let many = length-map-range_with_len (operation_at t n P known c w) 0 n in
      let la : a < n = subst (λ (k : ℕ). a < k) many ka in
      let lb : b < n = subst (λ (k : ℕ). b < k) many kb in
      let apart : a ≢ b = λ s. two_teams (sym in_a
      ∙ (ap (slice_get (chosen t n P known c w).marks) s ∙ in_b)) in
      let da = ends_step t n P m c a la ends in
      let eb = ends_step t n P m c b lb ends in (
        suc (da.0 + eb.0),
        subst (λ (k : ℕ). HoldsWithin (t object) k (suc (da.0 + eb.0))
            (start (t object) (chosen t n P known c w) a b))
            (sym many)
            (all_hold t object n P known spared (suc (da.0 + eb.0)) da.0 eb.0 (step t P c a)
            (step t P c b) (omega arith) da.1 eb.1
            (start (t object) (chosen t n P known c w) a b)
            (tracks a b la lb apart in_a in_b)),
      )
    where
      two_teams : Some A ≡ Some B → ⊥
      two_teams s = absurd (cc s)

-- of the types of the objects, one has a witness, which is defended if no object of it is read
pub some_choice : {L V : Type 0} (t : ℕ → TypeTable) (n : ℕ) (P : Protocol L V)
    → ((i : ℕ) → IsClosed (t i)) → 2 ≤ n → IsProtocolOf t n P → IsConsensusProtocol t n P
    → (i : ℕ) × ((c : RawChoice) × IsRawChoice (t i) n c × IsWitness (t i) c
    × (NeverReads n P i → IsDefended (t i) c))
some_choice t n P closed two known con =
    let found = critical t n P con closed known two in
    let inputs = two_inputs t n P con in
    let c = after t P (initial P inputs) found.0 in
    let few = some_end t n P con.wait_freedom inputs found.0 found.1 in (
      place t n P known c found.2,
      (
        chosen t n P known c found.2,
        is_raw_choice t n P known c found.2,
        is_witness t n P known c found.2,
        λ spared. is_defended t n P known c found.2 spared few.0 few.1,
      ),
    )

-- the action of a protocol that reads no object
pub spares_all : {L V : Type 0} (n : ℕ) (P : Protocol L V) → IsWithoutReads n P → (i : ℕ)
    → NeverReads n P i
spares_all {L} {V} n P unread i p l m = by_action (P.action p l) (unread p l m)
  where
    by_action : (a : Action L V) → ReadsNoObject a → LeavesUnread i a
    by_action (Decide x) b = tt
    by_action (ReadRegister j k) b = tt
    by_action (WriteRegister j v y) b = tt
    by_action (ApplyOperation j o k) b = tt
    by_action (ReadObject j k) b = absurd b

-- so one of them is defended where no object is read
pub some_defended : {L V : Type 0} (t : ℕ → TypeTable) (n : ℕ) (P : Protocol L V)
    → ((i : ℕ) → IsClosed (t i)) → 2 ≤ n → IsProtocolOf t n P → IsWithoutReads n P
    → IsConsensusProtocol t n P → (i : ℕ) × IsDefendedFor (t i) n
some_defended t n P closed two known unread con =
    let r = some_choice t n P closed two known con in
    (r.0, (r.1.0, r.1.1, r.1.3 (spares_all n P unread r.0)))
