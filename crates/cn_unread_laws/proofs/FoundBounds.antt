-- What a program finds of the number without reads holds of all protocols.
use Rattle.std.proofs.Common.{ℕ, ◌<◌, length, arith}
use Rattle.cn_table.specs.TypeTable.{IsClosed, IsTypeTable, TypeTable}
use Rattle.cn_unread.specs.Merging.{IsMerged}
use Rattle.cn_unread_number.specs.Bounds.{AreBounds}
use Rattle.cn_unread_number.specs.declared.bounds.NumberBounds.{NumberBounds}
use Rattle.cn_unread_number.specs.declared.bounds.NumberBounds.TheVariants.{AtLeast, Between, Exactly}
use Rattle.cn_unread_number.specs.declared.bounds.NumberBounds.TheVariants.{Infinite}
use Rattle.cn_unread_laws.specs.Bounds.{AreBoundsOf}
use Rattle.cn_unread_laws.proofs.Grounds.{Laws, merged_no_more, merged_number, some_solves}

has_states : (t : TypeTable) → IsTypeTable t → 0 < length t.states
has_states t is = omega (arith, is.states.some)

module _ (laws : Laws) (closed : (t : TypeTable) → IsTypeTable t → IsClosed t) (L V : Type 0)
    (t u : TypeTable) (is_t : IsTypeTable t) (is_u : IsTypeTable u) (h : ℕ → ℕ)
    (is : IsMerged h t u) where
  pub holds : (bounds : NumberBounds) → AreBounds u bounds → AreBoundsOf L V t bounds
  holds (Exactly n) b = merged_number laws h t u (closed t is_t) (closed u is_u) is n (has_states t is_t)
      b.0.0 b.0.1 b.1
  holds Infinite b = λ n one. some_solves laws h t u (closed t is_t) (closed u is_u) is n (has_states t is_t)
      one (b n)
  holds (Between least most) b = (
    some_solves laws h t u (closed t is_t) (closed u is_u) is least (has_states t is_t) b.0.0 b.0.1,
    λ m more P known unread con. merged_no_more laws h t u (closed t is_t) (closed u is_u) is most m P
        (omega (arith, b.0.0, b.2)) more b.1 known unread con,
  )
  holds (AtLeast least) b = some_solves laws h t u (closed t is_t) (closed u is_u) is least (has_states t is_t)
      b.0 b.1
