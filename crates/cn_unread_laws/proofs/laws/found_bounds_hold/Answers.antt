use Rattle.cn_unread_laws.proofs.FoundBounds.{holds}
use Rattle.cn_unread_laws.proofs.Grounds.{Laws}
use Rattle.cn_unread_laws.proofs.laws.found_bounds_hold.Goals as goal

pub returns : goal.returns
returns g c =
    let laws : Laws = record {
      collects = c.collects_are_enough.ensures;
      nodes = c.nodes_are_enough.ensures;
      signs = c.signs_are_enough.ensures;
    } in
    λ t bounds table found. holds laws c.tables_are_closed.ensures _ _ t found.1 table found.2 found.0
    found.3 bounds found.4
