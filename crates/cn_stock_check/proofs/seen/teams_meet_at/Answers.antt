use Rattle.cn_stock_check.proofs.seen.teams_meet_at.Goals as goal

pub returns : goal.returns
returns c =
    let a = c.in_ok-seen_by_a.ensures in
    let b = c.in_ok-seen_by_b.ensures in (
      λ h. (let m = c.share_pairs.ensures.0 h in (m.0, m.1, (a.pairs m.0 m.1).0 m.2, (b.pairs m.0 m.1).0 m.3)),
      λ m. c.share_pairs.ensures.1 (m.0, m.1, (a.pairs m.0 m.1).1 m.2, (b.pairs m.0 m.1).1 m.3),
    )
