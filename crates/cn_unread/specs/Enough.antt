-- What is enough for consensus without reads, in a table alone. New here.
use Rattle.std.specs.Prelude.{◌≡◌, ℕ, ◌+◌, ◌≤◌, ◌⊎◌}
use Rattle.cn_table.specs.TypeTable.{TypeTable}
use Rattle.cn_unread.specs.Collects.{IsVisibleFor}
use Rattle.cn_unread.specs.Nodes.{IsNode, Node}
use Rattle.cn_unread.specs.Signs.{AreSigns, Signs}

-- a node for two teams that have n processes together
abbrev pub HasNodeFor : TypeTable → ℕ → Type 0
HasNodeFor t n = (a b : ℕ) × (node : Node) × (1 ≤ a) × (1 ≤ b) × (a + b ≡ n) × IsNode t a b node

-- a choice for n processes that is visible, a node for n processes, or signs
abbrev pub IsEnoughFor : TypeTable → ℕ → Type 0
IsEnoughFor t n = IsVisibleFor t n ⊎ (HasNodeFor t n ⊎ ((w : Signs) × AreSigns t w))
