-- The greatest limit up to which a table is searched.
use Rattle.std.specs.Prelude.{◌≡◌, ◌≢◌, ◌<◌, ℕ, None}
use Rattle.cn_search.specs.Faults.{find_fault}

-- the limit has no fault for a type with these numbers of states and operations, and each greater
-- one has a fault
pub record IsGreatestLimit (states operations limit : ℕ) : Type 0 where
  pub taken : find_fault states operations limit ≡ None
  pub greatest : (more : ℕ) → limit < more → find_fault states operations more ≢ None
