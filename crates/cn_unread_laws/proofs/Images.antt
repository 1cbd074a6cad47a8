-- A protocol that does what another does, with silent operations or nothing in place of the reads
-- of objects: it solves consensus as the other does.
use Rattle.std.proofs.Common.{◌≡◌, ℕ, ◌<◌, ◌⊎◌, inl, inr, List, [], ◌∷◌, length, refl, sym, ap}
use Rattle.std.proofs.Common.{◌∙◌, subst, Bool}
use Rattle.std.proofs.lemmas.Bool.{cases_eq}
use Rattle.cn_table.specs.TypeTable.{IsClosed, TypeTable, transition}
use Rattle.cn_consensus.specs.Protocol.{Action, IsActionOf, IsProtocolOf, Protocol}
use Rattle.cn_consensus.specs.Protocol.Action.{Decide, ReadRegister, WriteRegister, ApplyOperation}
use Rattle.cn_consensus.specs.Protocol.Action.{ReadObject}
use Rattle.cn_consensus.specs.Configuration.{Configuration, after, decided_by, decision, initial}
use Rattle.cn_consensus.specs.Configuration.{perform, put, step}
use Rattle.cn_consensus.specs.Consensus.{IsConsensusProtocol, IsSchedule}
use Rattle.cn_consensus.proofs.Alike.{put-alike, put-other, put-same}
use Rattle.cn_consensus.proofs.FirstConfiguration.{states_performed}
use Rattle.cn_unread.specs.Views.{IsSilent}

-- a value that is there already
put-there : {X : Type 0} (f : ℕ → X) (i : ℕ) (x : X) → f i ≡ x → (j : ℕ) → put f i x j ≡ f j
put-there f i x e j = elim (cases_eq j i) [
  | inl s ↦ ap (put f i x) s ∙ (put-same f i x ∙ (sym e ∙ ap f (sym s)))
  | inr n ↦ put-other f i x j n
]

-- an action that does the same, where phi gives the local states
abbrev pub Renders : {K L V : Type 0} → (ℕ → TypeTable) → (K → L) → Action K V → Action L V
    → Type 0
Renders {L = L} {V = V} t phi (Decide x) b = b ≡ Decide x
Renders {L = L} {V = V} t phi (ReadRegister i k) b =
    (h : V → L) × (b ≡ ReadRegister i h) × ((v : V) → h v ≡ phi (k v))
Renders {L = L} {V = V} t phi (WriteRegister i v l) b = b ≡ WriteRegister i v (phi l)
Renders {L = L} {V = V} t phi (ApplyOperation i o k) b =
    (h : ℕ → L) × (b ≡ ApplyOperation i o h) × ((r : ℕ) → h r ≡ phi (k r))
Renders {L = L} {V = V} t phi (ReadObject i k) b =
    ((v : ℕ) × (h : ℕ → L) × (b ≡ ApplyOperation i v h) × IsSilent (t i) v
    × ((q : ℕ) → q < length (t i).states → h (transition (t i) v q).0 ≡ phi (k q)))
    ⊎ ((m : ℕ) × (h : V → L) × (b ≡ ReadRegister m h) × ((y : V) (q : ℕ) → h y ≡ phi (k q)))

same_decided : {K L V : Type 0} (t : ℕ → TypeTable) (phi : K → L) (a : Action K V) (b : Action L V)
    → Renders t phi a b → decided_by b ≡ decided_by a
same_decided t phi (Decide x) b r = ap decided_by r
same_decided t phi (ReadRegister i k) b r = ap decided_by r.1
same_decided t phi (WriteRegister i v l) b r = ap decided_by r
same_decided t phi (ApplyOperation i o k) b r = ap decided_by r.1
same_decided t phi (ReadObject i k) b (inl r) = ap decided_by r.2
same_decided t phi (ReadObject i k) b (inr r) = ap decided_by r.2

-- the second protocol renders the first
pub record IsImage {K L V : Type 0} (t : ℕ → TypeTable) (n : ℕ) (phi : ℕ → K → L)
    (P : Protocol K V) (Q : Protocol L V) : Type 0 where
  pub start : (p : ℕ) (x : Bool) → Q.start p x ≡ phi p (P.start p x)
  pub registers : (i : ℕ) → Q.registers i ≡ P.registers i
  pub objects : (i : ℕ) → Q.objects i ≡ P.objects i
  pub action : (p : ℕ) (l : K) → p < n
      → Renders t (phi p) (P.action p l) (Q.action p (phi p l))

module _ {K L V : Type 0} (t : ℕ → TypeTable) (closed : (i : ℕ) → IsClosed (t i)) (n : ℕ)
    (phi : ℕ → K → L) (P : Protocol K V) (Q : Protocol L V) (known : IsProtocolOf t n P)
    (image : IsImage t n phi P Q) where
  record Image (d : Configuration K V) (e : Configuration L V) : Type 0 where
    pub locals : (p : ℕ) → p < n → e.locals p ≡ phi p (d.locals p)
    pub registers : (i : ℕ) → e.registers i ≡ d.registers i
    pub objects : (i : ℕ) → e.objects i ≡ d.objects i
    pub states_known : (i : ℕ) → d.objects i < length (t i).states

  put_image : (d : Configuration K V) (e : Configuration L V) (p : ℕ) (x : K) (y : L)
      → y ≡ phi p x → Image d e → (q : ℕ) → q < n
      → put e.locals p y q ≡ phi q (put d.locals p x q)
  put_image d e p x y f m q l = elim (cases_eq q p) [
    | inl s ↦ ap (put e.locals p y) s ∙ (put-same e.locals p y ∙ (f
        ∙ (sym (ap (phi p) (put-same d.locals p x))
        ∙ ap (λ (z : ℕ). phi z (put d.locals p x z)) (sym s))))
    | inr a ↦ put-other e.locals p y q a ∙ (m.locals q l
        ∙ ap (phi q) (sym (put-other d.locals p x q a)))
  ]

  performed : (d : Configuration K V) (e : Configuration L V) (p : ℕ) → p < n → (a : Action K V)
      → P.action p (d.locals p) ≡ a → (b : Action L V) → Renders t (phi p) a b → Image d e
      → Image (perform t d p a) (perform t e p b)
  performed d e p l a f b r m = by_action a r (λ i. states_performed t closed p d a
      (subst (IsActionOf t) f (known.operations_known p (d.locals p) l)) m.states_known i)
    where
      as_image : (c : Action L V) → b ≡ c → (u : Configuration K V) → Image u (perform t e p c)
          → Image u (perform t e p b)
      as_image c g u i = subst (λ (z : Action L V). Image u (perform t e p z)) (sym g) i

      by_action : (a : Action K V) → Renders t (phi p) a b
          → ((i : ℕ) → (perform t d p a).objects i < length (t i).states)
          → Image (perform t d p a) (perform t e p b)
      by_action (Decide x) r s = as_image (Decide x) r d m
      by_action (ReadRegister i k) r s = as_image (ReadRegister i r.0) r.1 _ (record {
        locals = put_image d e p _ _ (r.2 (e.registers i)
            ∙ ap (λ (v : V). phi p (k v)) (m.registers i)) m;
        registers = m.registers;
        objects = m.objects;
        states_known = s;
      })
      by_action (WriteRegister i v x) r s = as_image (WriteRegister i v (phi p x)) r _ (record {
        locals = put_image d e p x (phi p x) refl m;
        registers = put-alike e.registers d.registers i v v m.registers refl;
        objects = m.objects;
        states_known = s;
      })
      by_action (ApplyOperation i o k) r s = as_image (ApplyOperation i o r.0) r.1 _ (record {
        locals = put_image d e p _ _ (r.2 (transition (t i) o (e.objects i)).0
            ∙ ap (λ (q : ℕ). phi p (k (transition (t i) o q).0)) (m.objects i)) m;
        registers = m.registers;
        objects = put-alike e.objects d.objects i _ _ m.objects
            (ap (λ (q : ℕ). (transition (t i) o q).1) (m.objects i));
        states_known = s;
      })
      by_action (ReadObject i k) (inl r) s =
          let q_known : e.objects i < length (t i).states =
          subst (λ (q : ℕ). q < length (t i).states) (sym (m.objects i)) (m.states_known i) in
          as_image (ApplyOperation i r.0 r.1) r.2 _ (record {
            locals = put_image d e p _ _ (r.4 (e.objects i) q_known
                ∙ ap (λ (q : ℕ). phi p (k q)) (m.objects i)) m;
            registers = m.registers;
            objects = λ j. put-there e.objects i _ (sym (r.3.same_state (e.objects i) q_known)) j
                ∙ m.objects j;
            states_known = s;
          })
      by_action (ReadObject i k) (inr r) s = as_image (ReadRegister r.0 r.1) r.2 _ (record {
        locals = put_image d e p _ _ (r.3 (e.registers r.0) (d.objects i)) m;
        registers = m.registers;
        objects = m.objects;
        states_known = s;
      })

  stepped : (d : Configuration K V) (e : Configuration L V) (p : ℕ) → p < n → Image d e
      → Image (step t P d p) (step t Q e p)
  stepped d e p l m = performed d e p l (P.action p (d.locals p)) refl (Q.action p (e.locals p))
      (subst (λ (z : L). Renders t (phi p) (P.action p (d.locals p)) (Q.action p z))
      (sym (m.locals p l)) (image.action p (d.locals p) l)) m

  image_after : (s : List ℕ) (d : Configuration K V) (e : Configuration L V) → IsSchedule n s
      → Image d e → Image (after t P d s) (after t Q e s)
  image_after [] d e h m = m
  image_after (p ∷ s) d e h m = image_after s (step t P d p) (step t Q e p) h.1
      (stepped d e p h.0 m)

  same_decision : (inputs : ℕ → Bool) (s : List ℕ) → IsSchedule n s → (p : ℕ) → p < n
      → decision Q (after t Q (initial Q inputs) s) p ≡ decision P (after t P (initial P inputs) s) p
  same_decision inputs s h p l =
      let d = after t P (initial P inputs) s in
      let m = image_after s (initial P inputs) (initial Q inputs) h (record {
        locals = λ q lq. image.start q (inputs q);
        registers = image.registers;
        objects = image.objects;
        states_known = known.states_known;
      }) in
      ap (λ (z : L). decided_by (Q.action p z)) (m.locals p l)
      ∙ same_decided t (phi p) (P.action p (d.locals p)) (Q.action p (phi p (d.locals p)))
      (image.action p (d.locals p) l)

  pub image_solves : IsConsensusProtocol t n P → IsConsensusProtocol t n Q
  image_solves con = record {
    agreement = λ inputs s h p q x y lp lq f g. con.agreement inputs s h p q x y lp lq
        (sym (same_decision inputs s h p lp) ∙ f) (sym (same_decision inputs s h q lq) ∙ g);
    validity = λ inputs s h p x l f. con.validity inputs s h p x l
        (sym (same_decision inputs s h p l) ∙ f);
    wait_freedom = λ inputs. (let w = con.wait_freedom inputs in (
      w.0,
      λ s h p l often. (let r = w.1 s h p l often in (r.0, same_decision inputs s h p l ∙ r.1)),
    ));
  }
