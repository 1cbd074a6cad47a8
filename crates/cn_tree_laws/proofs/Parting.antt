-- Operations that part, at every node of a full tree.
use Rattle.std.proofs.Common.{ℕ, zero, suc, ◌≡◌, ◌+◌, ◌*◌, ◌<◌, ◌≤◌, arith}
use Rattle.cn_table.specs.TypeTable.{TypeTable}
use Rattle.cn_meetings.specs.Parting.{IsPartingOf, Parting}
use Rattle.cn_meetings.specs.Witness.{Has}
use Rattle.cn_trees.specs.FullTrees.{full, parting_tree, power}
use Rattle.cn_trees.specs.Tree.{IsOfType, comes_to, team_in}

twice : (k x : ℕ) → 2 ≤ k → 2 * x ≤ k * x
twice zero x le = absurd (omega arith)
twice (suc zero) x le = absurd (omega arith)
twice (suc (suc k)) x le = grind arith

-- two or more teams at each node are enough for any number of processes
pub many : (k n : ℕ) → 2 ≤ k → n < power k n
many k zero le = omega arith
many k (suc n) le = let h = many k n le in let t = twice k (power k n) le in omega arith

pub enough : (k n : ℕ) → 2 ≤ k → n ≤ power k (n + 1)
enough k n le =
    let e : n + 1 ≡ suc n = omega arith in
    let h = many k (suc n) le in
    rw e (omega arith)

pub parting_of : (t : TypeTable) (k h : ℕ) (w : Parting) → ((node p : ℕ) → Has (comes_to (full k h) node) p → team_in (full k h) node p < k) → IsPartingOf t k w → IsOfType (parting_tree t (full k h) w)
parting_of t k h w few is = record {
  starts = λ node. is.start;
  operations = λ node p came. is.operations (team_in (full k h) node p) (few node p came);
  sights = λ node p came. is.sight;
}
