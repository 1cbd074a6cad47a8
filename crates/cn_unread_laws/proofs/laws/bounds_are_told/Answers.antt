use Rattle.std.proofs.Common.{subst}
use Rattle.cn_unread_laws.specs.Bounds.{AreBoundsOf}
use Rattle.cn_unread_laws.proofs.BoundsTexts.{same_bounds}
use Rattle.cn_unread_laws.proofs.laws.bounds_are_told.Goals as goal

pub returns : goal.returns
returns g c = λ t found bounds table known small less same.
    subst (AreBoundsOf _ _ t) (same_bounds found bounds small less same)
    (c.found_bounds_hold.ensures t found table known)
