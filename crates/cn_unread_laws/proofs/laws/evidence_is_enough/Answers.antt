use Rattle.cn_unread_laws.proofs.laws.evidence_is_enough.Goals as goal

pub returns : goal.returns
returns g c = λ h t u low high bounds table other merged shown. c.found_bounds_hold.ensures t bounds table
    (h, u, other, merged, c.shown_bounds_hold.ensures u low high bounds other shown)
