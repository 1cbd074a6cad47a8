-- The properties of rounds that a log needs: the processes agree.
use Rattle.std.specs.Prelude.{ℕ, ◌≡◌, ◌≢◌, ◌+◌, ◌-◌, ◌*◌, ◌<◌, ◌≤◌, Some, None}
use Rattle.cn_log.specs.declared.batch.Batch.{Batch}
use Rattle.cn_log.specs.Log.{Setting}
use Rattle.cn_choice.specs.declared.limits.TheConstants.{MOST_PROCESSES}

-- every good round keeps consensus, and every round that a log reaches is good
pub record RoundsAgree {R : Type 0} (L : Setting R) (Good : R → Type 0) : Type 0 where
  -- a round before any step is good; it stays good if a process begins that has not begun, and if a
  -- process takes a step that has begun
  pub good_untouched : Good L.untouched
  pub good_begin : (r : R) (p : ℕ) (v : Batch) → p < L.processes → Good r
      → L.consensus.input r p ≡ None → Good (L.consensus.begin p v r)
  pub good_step : (r : R) (p : ℕ) (v : Batch) → p < L.processes → Good r
      → L.consensus.input r p ≡ Some v → Good (L.consensus.step p r)
  -- a fixed value stays fixed
  pub unfixed : L.consensus.fixed L.untouched ≡ None
  pub keeps : (r : R) (p : ℕ) (y : Batch) → p < L.processes → Good r → L.consensus.fixed r ≡ Some y
      → L.consensus.fixed (L.consensus.step p r) ≡ Some y
  pub quiet : (r : R) (p : ℕ) (v : Batch)
      → L.consensus.fixed (L.consensus.begin p v r) ≡ L.consensus.fixed r
  -- each process decides the fixed value, and some process began with it
  pub decides : (r : R) (p : ℕ) (y : Batch) → p < L.processes → Good r
      → L.consensus.decided r p ≡ Some y → L.consensus.fixed r ≡ Some y
  pub valid : (r : R) (y : Batch) → Good r → L.consensus.fixed r ≡ Some y
      → (q : ℕ) × (L.consensus.input r q ≡ Some y)
  -- only a beginning changes the input of a process
  pub empty : (q : ℕ) → L.consensus.input L.untouched q ≡ None
  pub input_mine : (r : R) (p : ℕ) (v : Batch) → p < L.processes → Good r
      → L.consensus.input (L.consensus.begin p v r) p ≡ Some v
  pub input_other : (r : R) (p q : ℕ) (v : Batch) → q ≢ p
      → L.consensus.input (L.consensus.begin p v r) q ≡ L.consensus.input r q
  pub input_step : (r : R) (p q : ℕ)
      → L.consensus.input (L.consensus.step p r) q ≡ L.consensus.input r q
  -- a process decides only by a step of its own
  pub undecided_begin : (r : R) (p : ℕ) (v : Batch) → p < L.processes → Good r
      → L.consensus.decided (L.consensus.begin p v r) p ≡ None
  pub decided_begin : (r : R) (p q : ℕ) (v : Batch) → q ≢ p
      → L.consensus.decided (L.consensus.begin p v r) q ≡ L.consensus.decided r q
  pub decided_step : (r : R) (p q : ℕ) → q ≢ p
      → L.consensus.decided (L.consensus.step p r) q ≡ L.consensus.decided r q
  -- a process has taken no step at its beginning, one more after each step until it decides, and
  -- fewer than 4 (n - 1) until then
  pub taken_begin : (r : R) (p : ℕ) (v : Batch) → p < L.processes → Good r
      → L.consensus.taken (L.consensus.begin p v r) p ≡ 0
  pub taken_step : (r : R) (p : ℕ) (v : Batch) → p < L.processes → Good r
      → L.consensus.input r p ≡ Some v → L.consensus.decided r p ≡ None
      → L.consensus.taken (L.consensus.step p r) p ≡ L.consensus.taken r p + 1
  pub taken_low : (r : R) (p : ℕ) (v : Batch) → p < L.processes → Good r
      → L.consensus.input r p ≡ Some v → L.consensus.decided r p ≡ None
      → L.consensus.taken r p < 4 * (L.processes - 1)
  pub taken_begin_other : (r : R) (p q : ℕ) (v : Batch) → q ≢ p
      → L.consensus.taken (L.consensus.begin p v r) q ≡ L.consensus.taken r q
  pub taken_step_other : (r : R) (p q : ℕ) → q ≢ p
      → L.consensus.taken (L.consensus.step p r) q ≡ L.consensus.taken r q
  -- a batch has a place for each process
  pub few : L.processes ≤ MOST_PROCESSES
