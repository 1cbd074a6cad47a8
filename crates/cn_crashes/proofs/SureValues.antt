-- Executions in which a process may crash only for steps of processes with smaller numbers, and
-- configurations from which these decide one value only.
use Rattle.std.proofs.Common.{◌≡◌, ◌≢◌, ℕ, suc, ◌+◌, ◌-◌, ◌<◌, ◌≤◌, inl, inr, List, [], ◌∷◌, refl}
use Rattle.std.proofs.Common.{sym, ap, ◌∙◌, subst, arith, Bool, true, false, cond, nat_lt, Option}
use Rattle.std.proofs.Common.{Some, None, replicate}
use Rattle.std.proofs.lemmas.Bool.{cases_eq, lt-ltb}
use Rattle.cn_table.specs.TypeTable.{TypeTable}
use Rattle.cn_choice.proofs.ListLemmas.Arrangements.{Differ}
use Rattle.cn_choice.proofs.ListLemmas.Members.{IsIn, each_at}
use Rattle.cn_consensus.specs.Protocol.{Protocol}
use Rattle.cn_consensus.specs.Configuration.{Configuration, after, decided_by, decision, put, step}
use Rattle.cn_consensus.specs.Consensus.{IsSchedule}
use Rattle.cn_consensus.specs.Valence.{IsValent}
use Rattle.cn_consensus.proofs.Alike.{Alike, alike_decided, alike_stepped, others_stepped}
use Rattle.cn_consensus.proofs.Alike.{put-other, put-same, stands}
use Rattle.cn_crashes.specs.Execution.{Event, IsExecution, after_execution, after_crash}
use Rattle.cn_crashes.specs.Execution.Event.{Step, Crash}
use Rattle.cn_crashes.specs.RecoverableWaitFreedom.{EndsFor}
use Rattle.cn_crashes.specs.RecoverableWaitFreedom.EndsFor.{Ending}

-- for each process, how often it may crash
abbrev pub Budget : Type 0
Budget = ℕ → ℕ

-- a step of p lets each process with a greater number crash twice more
abbrev pub grant : Budget → ℕ → Budget
grant b p i = b i + cond (nat_lt p i) 2 0

abbrev pub spend : Budget → ℕ → Budget
spend b p = put b p (b p - 1)

pub grant_more : (b : Budget) (p i : ℕ) → b i ≤ grant b p i
grant_more b p i = by_test (nat_lt p i)
  where
    by_test : (x : Bool) → b i ≤ b i + cond x 2 0
    by_test true = omega arith
    by_test false = omega arith

pub grant_two : (b : Budget) (p i : ℕ) → p < i → b i + 2 ≤ grant b p i
grant_two b p i l = let e : nat_lt p i ≡ true =
    lt-ltb p i l in subst (λ (x : Bool). b i + 2 ≤ b i + cond x 2 0) (sym e) (omega arith)

pub grant_up : (b d : Budget) (p i : ℕ) (k : ℕ) → b i + k ≤ d i → grant b p i + k ≤ grant d p i
grant_up b d p i k h = by_test (nat_lt p i)
  where
    by_test : (x : Bool) → (b i + cond x 2 0) + k ≤ d i + cond x 2 0
    by_test true = omega (arith, h)
    by_test false = omega (arith, h)

pub spend_less : (b : Budget) (p i : ℕ) → b i ≤ spend b p i + 1
spend_less b p i = elim (cases_eq i p) [
  | inl e ↦ (let f : spend b p i ≡ b p - 1 = ap (put b p (b p - 1)) e
      ∙ put-same b p (b p - 1) in let g = ap b e in omega (arith, f, g))
  | inr d ↦ (let f = put-other b p (b p - 1) i d in omega (arith, f))
]

pub spend_up : (b d : Budget) (p i : ℕ) (k : ℕ) → b i + k ≤ d i → 1 ≤ b p
    → spend b p i + k ≤ spend d p i
spend_up b d p i k h l = elim (cases_eq i p) [
  | inl e ↦
      (let f : spend b p i ≡ b p - 1 = ap (put b p (b p - 1)) e ∙ put-same b p (b p - 1) in
      let g : spend d p i ≡ d p - 1 = ap (put d p (d p - 1)) e ∙ put-same d p (d p - 1) in
      let u = ap b e in
      let v = ap d e in
      omega (arith, f, g, u, v, h, l))
  | inr a ↦ (let f = put-other b p (b p - 1) i a in let g =
      put-other d p (d p - 1) i a in omega (arith, f, g, h))
]

pub grants : Budget → List ℕ → Budget
grants b [] = b
grants b (p ∷ ps) = grants (grant b p) ps

pub grants_more : (b : Budget) (s : List ℕ) (i : ℕ) → b i ≤ grants b s i
unfolding grants
grants_more b [] i = omega arith
grants_more b (p ∷ ps) i = omega (arith, grant_more b p i, grants_more (grant b p) ps i)

pub grants_two : (b : Budget) (s : List ℕ) (k i : ℕ) → IsIn k s → k < i → b i + 2 ≤ grants b s i
unfolding grants
grants_two b [] k i h l = absurd h
grants_two b (p ∷ ps) k i h l = elim h [
  | inl e ↦ (let two = grant_two b p i (subst (λ (z : ℕ). z < i) (sym e) l) in omega (
    arith,
    two,
    grants_more (grant b p) ps i,
  ))
  | inr j ↦ omega (arith, grant_more b p i, grants_two (grant b p) ps k i j l)
]

module _ {L V : Type 0} (t : ℕ → TypeTable) (n : ℕ) (P : Protocol L V) (inputs : ℕ → Bool) where
  -- the events are allowed from this configuration with this budget: steps of processes that have
  -- not decided, and crashes that the budget has
  unfoldable pub Allowed : Configuration L V → Budget → List Event → Type 0
  Allowed c b [] = Unit {0}
  Allowed c b (Step p ∷ es) = (p < n) × (decision P c p ≡ None) × Allowed (step t P c p)
      (grant b p) es
  Allowed c b (Crash p ∷ es) = (p < n) × (1 ≤ b p) × Allowed (after_crash P inputs c p) (spend b p)
      es

  pub allowed_execution : (es : List Event) (c : Configuration L V) (b : Budget) → Allowed c b es
      → IsExecution n es
  unfolding Allowed
  allowed_execution [] c b a = tt
  allowed_execution (Step p ∷ es) c b a = (a.0, allowed_execution es (step t P c p) (grant b p) a.2)
  allowed_execution (Crash p ∷ es) c b a = (
    a.0,
    allowed_execution es (after_crash P inputs c p) (spend b p) a.2,
  )

  -- such executions decide no other value
  unfoldable pub Sure : Bool → Configuration L V → Budget → Type 0
  Sure x c b = (es : List Event) → Allowed c b es → (p : ℕ) (y : Bool) → p < n
      → decision P (after_execution t P inputs c es) p ≡ Some y → y ≡ x

  pub sure_now : (x : Bool) (c : Configuration L V) (b : Budget) → Sure x c b → (p : ℕ) (y : Bool)
      → p < n → decision P c p ≡ Some y → y ≡ x
  unfolding Sure Allowed
  sure_now x c b h p y l e = h [] tt p y l e

  pub sure_step : (x : Bool) (c : Configuration L V) (b : Budget) (p : ℕ) → p < n
      → decision P c p ≡ None → Sure x c b → Sure x (step t P c p) (grant b p)
  unfolding Sure Allowed
  sure_step x c b p l u h es a = h (Step p ∷ es) (l, u, a)

  pub sure_crash : (x : Bool) (c : Configuration L V) (b : Budget) (p : ℕ) → p < n → 1 ≤ b p
      → Sure x c b → Sure x (after_crash P inputs c p) (spend b p)
  unfolding Sure Allowed
  sure_crash x c b p l u h es a = h (Crash p ∷ es) (l, u, a)

  -- what is sure with each first event, is sure where nobody has decided
  pub sure_from : (x : Bool) (c : Configuration L V) (b : Budget)
      → ((p : ℕ) → p < n → decision P c p ≡ None)
      → ((p : ℕ) → p < n → Sure x (step t P c p) (grant b p))
      → ((p : ℕ) → p < n → 1 ≤ b p → Sure x (after_crash P inputs c p) (spend b p)) → Sure x c b
  unfolding Sure Allowed
  sure_from x c b none steps crashes [] a p y l e = absurd (cc (none p l, e))
  sure_from x c b none steps crashes (Step q ∷ es) a p y l e = steps q a.0 es a.2 p y l e
  sure_from x c b none steps crashes (Crash q ∷ es) a p y l e = crashes q a.0 a.1 es a.2 p y l e

  allowed_more : (es : List Event) (c : Configuration L V) (b d : Budget) → ((i : ℕ) → b i ≤ d i)
      → Allowed c b es → Allowed c d es
  unfolding Allowed
  allowed_more [] c b d h a = a
  allowed_more (Step p ∷ es) c b d h a = (
    a.0,
    a.1,
    allowed_more es (step t P c p) (grant b p) (grant d p) (λ i.
        (let u = h i in let r = grant_up b d p i 0 (omega (arith, u)) in omega (arith, r))) a.2,
  )
  allowed_more (Crash p ∷ es) c b d h a = (
    a.0,
    (let u = h p in let v = a.1 in omega (arith, u, v)),
    allowed_more es (after_crash P inputs c p) (spend b p) (spend d p) (λ i.
        (let u = h i in let r = spend_up b d p i 0 (omega (arith, u)) a.1 in omega (arith, r))) a.2,
  )

  pub sure_less : (x : Bool) (c : Configuration L V) (b d : Budget) → ((i : ℕ) → b i ≤ d i)
      → Sure x c d → Sure x c b
  unfolding Sure
  sure_less x c b d h k es a = k es (allowed_more es c b d h a)

  -- from here the process decides z if it runs alone
  pub data Runs (p : ℕ) (z : Bool) : Configuration L V → Type 0 where
    Done : {c : Configuration L V} → decision P c p ≡ Some z → Runs p z c
    Next : {c : Configuration L V} → decision P c p ≡ None → Runs p z (step t P c p) → Runs p z c

  pub sure_alone : (x z : Bool) (p : ℕ) (c : Configuration L V) (b : Budget) → p < n → Runs p z c
      → Sure x c b → z ≡ x
  sure_alone x z p c b l (Done e) h = sure_now x c b h p z l e
  sure_alone x z p c b l (Next u r) h = sure_alone x z p (step t P c p) (grant b p) l r
      (sure_step x c b p l u h)

  pub runs_alike : (z : Bool) (p : ℕ) (c d : Configuration L V) → Alike p c d → Runs p z c
      → Runs p z d
  runs_alike z p c d a (Done e) = Done (sym (alike_decided t P p c d a) ∙ e)
  runs_alike z p c d a (Next u r) = Next (sym (alike_decided t P p c d a)
      ∙ u) (runs_alike z p (step t P c p) (step t P d p) (alike_stepped t P p c d a) r)

  -- configurations that look alike to a process which decides alone
  pub sure_clash : (x y z : Bool) (p : ℕ) (c d : Configuration L V) (b e : Budget) → p < n
      → Runs p z c → Alike p c d → Sure x c b → Sure y d e → x ≡ y
  sure_clash x y z p c d b e l r a h k = sym (sure_alone x z p c b l r h)
      ∙ sure_alone y z p d e l (runs_alike z p c d a r) k

  -- how many steps that are
  pub run_steps : (p : ℕ) (z : Bool) (c : Configuration L V) → Runs p z c
      → (k : ℕ) × (decision P (after t P c (replicate k p)) p ≡ Some z)
  run_steps p z c (Done e) = (0, e)
  run_steps p z c (Next u r) = let k = run_steps p z (step t P c p) r in (suc k.0, k.1)

  pub runs_from : (p : ℕ) (c : Configuration L V) → EndsFor t n P inputs p c
      → (z : Bool) × Runs p z c
  runs_from p c (Ending next) = by_decision (λ u.
      runs_from p (step t P c p) (next [] tt tt u)) (decision P c p) refl
    where
      by_decision : (decision P c p ≡ None → (z : Bool) × Runs p z (step t P c p))
          → (o : Option Bool) → decision P c p ≡ o → (z : Bool) × Runs p z c
      by_decision rest None u = let r = rest u in (r.0, Next u r.1)
      by_decision rest (Some y) u = (y, Done u)

  -- what is sure is valent with no crashes
  pub sure_valent : (x : Bool) (c : Configuration L V) (b : Budget) → Sure x c b
      → IsValent t n P x c
  sure_valent x c b h [] k p l y e = sure_now x c b h p y l e
  sure_valent x c b h (q ∷ s) k p l y e =
      by_decision (λ u. sure_valent x (step t P c q) (grant b q) (sure_step x c b q k.0 u h) s k.1
      p l y e) (λ f. sure_valent x c b h s k.1 p l y f) (decision P c q) refl
    where
      by_decision : (decision P c q ≡ None → y ≡ x)
          → (decision P (after t P c s) p ≡ Some y → y ≡ x) → (o : Option Bool)
          → decision P c q ≡ o → y ≡ x
      by_decision moved unmoved None u = moved u
      by_decision moved unmoved (Some z) u = unmoved (ap (λ (d : Configuration L V).
          decision P (after t P d s) p) (sym (stands t P q c z u)) ∙ e)

  -- after processes that have not decided have moved once each
  pub sure_run : (x : Bool) (s : List ℕ) (d : Configuration L V) (b : Budget) → Differ s
      → IsSchedule n s → ((p : ℕ) → IsIn p s → decision P d p ≡ None) → Sure x d b
      → Sure x (after t P d s) (grants b s)
  unfolding grants
  sure_run x [] d b apart k none h = h
  sure_run x (p ∷ ps) d b apart k none h =
      sure_run x ps (step t P d p) (grant b p) apart.1 k.1
      (λ q i. ap (λ (l : L). decided_by (P.action q l)) (others_stepped t P p q d (λ e.
      each_at (λ y. p ≢ y) ps q apart.0 i (sym e))) ∙ none q (inr i))
      (sure_step x d b p k.0 (none p (inl refl)) h)

  pub sure_order : (x : Bool) (p : ℕ) (ps : List ℕ) (d : Configuration L V) (b : Budget)
      → Differ (p ∷ ps) → IsSchedule n (p ∷ ps)
      → ((q : ℕ) → IsIn q (p ∷ ps) → decision P d q ≡ None)
      → Sure x (step t P d p) (grant b p) → Sure x (after t P d (p ∷ ps)) (grants b (p ∷ ps))
  unfolding grants
  sure_order x p ps d b apart k none h =
      sure_run x ps (step t P d p) (grant b p) apart.1 k.1
      (λ q i. ap (λ (l : L). decided_by (P.action q l)) (others_stepped t P p q d (λ e.
      each_at (λ y. p ≢ y) ps q apart.0 i (sym e))) ∙ none q (inr i)) h
