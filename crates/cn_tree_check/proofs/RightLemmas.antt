-- Certificates with faults are not right, and those of plans are.
use Rattle.std.proofs.Common.{ℕ, zero, suc, ◌≡◌, ◌+◌, ◌⊎◌, List, [], Ok, Result, ap, ap₂, inl, inr, length, max, refl, sym, subst, ◌∙◌}
use Rattle.std.specs.Prelude.{IfErr}
use Rattle.std.proofs.lemmas.Result.{IfErr-weaker}
use Rattle.cn_table.specs.TypeTable.{TypeTable}
use Rattle.cn_trees.specs.Consensus.{steps_at, steps_before, steps_of}
use Rattle.cn_trees.specs.Tree.{AreWitnesses, PlanTree, Teams, members, path_in, place_of}
use Rattle.cn_tree_cert.specs.Certificate.{TreeCertificate}
use Rattle.cn_tree_costs.specs.Cost.{cost, greatest}
use Rattle.cn_tree_plans.specs.Made.{IsFirstMeeting, IsMade, IsRefused, IsShownTwice}
use Rattle.cn_tree_plans.specs.Plan.{AreMeetings, IsTreePlan, NodeMeeting, TreePlan, tree_of, tree_with}
use Rattle.cn_tree_plans.specs.declared.fault.TreePlanFault.{TreePlanFault}
use Rattle.cn_tree_plans.specs.declared.fault.TreePlanFault.TheVariants as making
use Rattle.cn_tree_check.proofs.HeadLemmas.{as_many, same_tree, whole}
use Rattle.cn_tree_check.specs.Faults.{IsFirstFault, as_check_fault}
use Rattle.cn_tree_check.specs.Right.{HasMeetings, HasWitnesses, IsCertificateOf, IsPlanOf, IsRight, IsTreeOf, meetings_of, teams_in}
use Rattle.cn_tree_check.specs.declared.fault.TreeCheckFault.{TreeCheckFault}
use Rattle.cn_tree_check.specs.declared.fault.TreeCheckFault.TheVariants.{BadMeeting, BadSteps, Meets, NotATree, OtherType, OutOfMemory}

pub one_tree : (c : TreeCertificate) (s r : Teams) → IsTreeOf c s → IsTreeOf c r → s ≡ r
one_tree c s r one other =
    let here = whole c.processes (teams_in c) s one.proper one.few one.processes one.teams in
    let there = whole c.processes (teams_in c) r other.proper other.few other.processes other.teams in
    (same_tree s r [] [] (here.proper).below (there.proper).below (here.nodes_are ∙ sym there.nodes_are)).teams

no_meeting_twice : (T : PlanTree) (v p : ℕ) → AreWitnesses T → IsFirstMeeting T v p → ⊥
no_meeting_twice T v p witnesses first =
    let twice : IsShownTwice T v p = first.meets in
    twice.apart (witnesses v twice.team twice.other p twice.response twice.saw twice.shown.0 twice.shown_again.0
    twice.shown.1 twice.shown_again.1 twice.shown.2 twice.shown_again.2)

pub wrong : (t : TypeTable) (c : TreeCertificate) (e : TreeCheckFault) → IsFirstFault t c e → ¬ IsRight t c
wrong t c OtherType fault right = fault right.1.type_name
wrong t c NotATree fault right = fault.1 right.0 right.1.tree.fits.tree
wrong t c BadMeeting fault right =
    let same : right.0 ≡ fault.1.0 = one_tree c right.0 fault.1.0 right.1.tree.fits.tree fault.1.1 in
    fault.1.2 (subst (λ (s : Teams). AreMeetings t s (meetings_of c)) same right.1.tree.fits.meetings)
wrong t c (Meets v p) fault right =
    let same : right.0 ≡ fault.1.0 = one_tree c right.0 fault.1.0 right.1.tree.fits.tree fault.1.1.tree in
    no_meeting_twice (tree_with t fault.1.0 (meetings_of c)) v p
    (subst (λ (s : Teams). AreWitnesses (tree_with t s (meetings_of c))) same right.1.tree.witnesses) fault.1.2
wrong t c BadSteps fault right =
    let same : right.0 ≡ fault.1.0 = one_tree c right.0 fault.1.0 right.1.tree.fits.tree fault.1.1.fits.tree in
    fault.1.2 (subst (λ (s : Teams). (cost (tree_with t s (meetings_of c))).steps ≡ c.steps) same right.1.steps)
wrong t c OutOfMemory fault right = fault

-- a certificate that is right has no fault
pub no_fault : {X : Type 0} (t : TypeTable) (c : TreeCertificate) (r : Result X TreeCheckFault)
    → IfErr r (λ e. (e ≡ OutOfMemory) ⊎ IsFirstFault t c e) → IsRight t c → IfErr r (λ e. e ≡ OutOfMemory)
no_fault t c r fault right =
    IfErr-weaker r (λ e. (e ≡ OutOfMemory) ⊎ IsFirstFault t c e) (λ e. e ≡ OutOfMemory) (λ e h. elim h [
      | inl none ↦ none
      | inr first ↦ absurd (wrong t c e first right)
    ]) fault

-- ---- the plan that is made of a certificate

-- the fault where no plan is made
pub refused : (t : TypeTable) (c : TreeCertificate) (s : Teams) (fault : TreePlanFault) (e : TreeCheckFault) → c.type_name ≡ t.name → HasMeetings t c s
    → IsRefused t s (meetings_of c) fault → e ≡ as_check_fault fault → (e ≡ OutOfMemory) ⊎ IsFirstFault t c e
refused t c s (making.Meets v p) e name fits first is = inr (subst (λ (f : TreeCheckFault). IsFirstFault t c f) (sym is) (name, (s, fits, first)))
refused t c s making.OutOfMemory e name fits first is = inl is

pub made : (t : TypeTable) (c : TreeCertificate) (s : Teams) (plan : TreePlan) → HasMeetings t c s → IsMade t s (meetings_of c) (Ok plan)
    → (plan.table ≡ t) × (plan.meetings ≡ meetings_of c) × HasWitnesses t c plan.teams
made t c s plan fits is =
    let here : AreWitnesses (tree_with plan.table plan.teams plan.meetings) = is.3 in
    let of_table : AreWitnesses (tree_with t plan.teams plan.meetings) = subst (λ (u : TypeTable). AreWitnesses (tree_with u plan.teams plan.meetings)) is.0 here in (
      is.0,
      is.2,
      record {
        fits = subst (HasMeetings t c) (sym is.1) fits;
        witnesses = subst (λ (ms : List NodeMeeting). AreWitnesses (tree_with t plan.teams ms)) is.2 of_table;
      },
    )

before_same : (plan : TreePlan) (p i : ℕ) → steps_before (tree_of plan) p i ≡ steps_before (tree_with plan.table plan.teams plan.meetings) p i
before_same plan p zero = refl
before_same plan p (suc i) =
    let T = tree_with plan.table plan.teams plan.meetings in
    ap (λ (k : ℕ). k + steps_at T p (place_of T p i)) (before_same plan p i)

greatest_same : (f g : ℕ → ℕ) → ((p : ℕ) → f p ≡ g p) → (n : ℕ) → greatest f n ≡ greatest g n
greatest_same f g same zero = refl
greatest_same f g same (suc n) = ap₂ max (greatest_same f g same n) (same n)

-- its steps are those of the tree of the certificate, since judgements change none
pub same_steps : (t : TypeTable) (ms : List NodeMeeting) (plan : TreePlan) → plan.table ≡ t → plan.meetings ≡ ms
    → (cost (tree_of plan)).steps ≡ (cost (tree_with t plan.teams ms)).steps
same_steps t ms plan table meetings =
    greatest_same (steps_of (tree_of plan)) (steps_of (tree_with plan.table plan.teams plan.meetings)) (λ p. before_same plan p (length (path_in plan.teams p))) (members plan.teams)
    ∙ ap (λ (u : TypeTable). (cost (tree_with u plan.teams plan.meetings)).steps) table
    ∙ ap (λ (ns : List NodeMeeting). (cost (tree_with t plan.teams ns)).steps) meetings

-- the certificate says what it is
pub says : (t : TypeTable) (c : TreeCertificate) (plan : TreePlan) → IsPlanOf t c plan → IsCertificateOf plan c
says t c plan is =
    let tree = is.right.tree.fits.tree in
    record {
      type_name = is.right.type_name ∙ ap (λ (u : TypeTable). u.name) (sym is.table);
      teams = sym tree.teams;
      meetings = sym is.meetings;
      processes = sym tree.processes;
      objects = as_many c.nodes plan.teams tree.teams;
      steps = sym is.right.steps ∙ sym (same_steps t (meetings_of c) plan is.table is.meetings);
    }

-- ---- the certificate of a plan is right

pub right_of : (plan : TreePlan) (c : TreeCertificate) → IsTreePlan plan → AreWitnesses (tree_of plan) → IsCertificateOf plan c → IsRight plan.table c
right_of plan c is witnesses says =
    let here : AreWitnesses (tree_with plan.table plan.teams plan.meetings) = witnesses in (
      plan.teams,
      record {
        type_name = says.type_name;
        tree = record {
          fits = record {
            tree = record { proper = is.proper; few = is.few; teams = sym says.teams; processes = sym says.processes };
            meetings = subst (AreMeetings plan.table plan.teams) (sym says.meetings) is.fits;
          };
          witnesses = subst (λ (ms : List NodeMeeting). AreWitnesses (tree_with plan.table plan.teams ms)) (sym says.meetings) here;
        };
        steps = sym (says.steps ∙ same_steps plan.table (meetings_of c) plan refl (sym says.meetings));
      },
    )
