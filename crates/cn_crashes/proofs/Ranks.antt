-- How many steps are left at most until a process of a recoverable round decides.
use Rattle.std.proofs.Common.{◌≡◌, ℕ, suc, ◌+◌, ◌*◌, ◌-◌, ◌<◌, ◌≤◌, length, refl, arith, Bool, true}
use Rattle.std.proofs.Common.{false, cond, nat_lt}
use Rattle.std.proofs.lemmas.Bool.{ltb-true}
use Rattle.cn_choice.specs.declared.team.Team.{Team}
use Rattle.cn_choice.specs.declared.team.Team.TheVariants.{A, B}
use Rattle.cn_crashes.specs.RecoverableRound.{RecoverableLocal, RecoverablePlan, RecoverableStage}
use Rattle.cn_crashes.specs.RecoverableRound.{first_stage, onward}
use Rattle.cn_crashes.specs.RecoverableRound.RecoverableLocal.{Active, Decided}
use Rattle.cn_crashes.specs.RecoverableRound.RecoverableStage.{Write, Look, Peek, Act, Again, Take}

-- how many steps are left at a place at most
abbrev pub level : RecoverableStage → ℕ
level Write = 6
level Look = 5
level Peek = 4
level Act = 3
level Again = 2
level (Take side) = 1

level_some : (stage : RecoverableStage) → 1 ≤ level stage
level_some Write = omega arith
level_some Look = omega arith
level_some Peek = omega arith
level_some Act = omega arith
level_some Again = omega arith
level_some (Take side) = omega arith

-- how many steps are left until the decision at most
abbrev pub rank : RecoverablePlan → ℕ → RecoverableLocal → ℕ
rank R p (Active i x stage) = 6 * (length (R.round.path p) - suc i) + level stage
rank R p (Decided y) = 0

pub rank_some : (R : RecoverablePlan) (p i : ℕ) (x : Bool) (stage : RecoverableStage)
    → 1 ≤ rank R p (Active i x stage)
rank_some R p i x stage = omega (arith, level_some stage)

pub rank_few : (R : RecoverablePlan) (p : ℕ) (l : RecoverableLocal)
    → ((i : ℕ) (x : Bool) (stage : RecoverableStage) → l ≡ Active i x stage
    → i < length (R.round.path p)) → rank R p l ≤ 6 * length (R.round.path p)
rank_few R p (Active i x stage) h = omega (arith, h i x stage refl, level_few stage)
  where
    level_few : (stage : RecoverableStage) → level stage ≤ 6
    level_few Write = omega arith
    level_few Look = omega arith
    level_few Peek = omega arith
    level_few Act = omega arith
    level_few Again = omega arith
    level_few (Take side) = omega arith
rank_few R p (Decided y) h = omega arith

pub onward_near : (R : RecoverablePlan) (p i : ℕ) (x z : Bool) (stage : RecoverableStage)
    → rank R p (onward (length (R.round.path p)) i z) < rank R p (Active i x stage)
onward_near R p i x z stage = by_test (nat_lt (suc i) (length (R.round.path p))) refl
  where
    by_test : (b : Bool) → nat_lt (suc i) (length (R.round.path p)) ≡ b
        → rank R p (cond b (Active (suc i) z Write) (Decided z)) < rank R p (Active i x stage)
    by_test true e = omega (arith, ltb-true (suc i) (length (R.round.path p)) e, level_some stage)
    by_test false e = omega (arith, level_some stage)

pub first_level : (lone : Bool) (side : Team) → level (first_stage lone side) ≤ 4
first_level true A = omega arith
first_level true B = omega arith
first_level false A = omega arith
first_level false B = omega arith
