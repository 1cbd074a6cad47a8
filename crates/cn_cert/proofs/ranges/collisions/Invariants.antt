use Rattle.std.proofs.Common.{◌≡◌, map, drop}
use Rattle.cn_table.specs.Draft.{all_some}
use Rattle.cn_table.proofs.Lists.{with_front}
use Rattle.cn_cert.specs.Ranges.{collision_within, collisions_within}
use Rattle.cn_cert.proofs.ranges.collisions.Given as goal

abbrev pub invariant-loop-draft : goal.invariant-loop-draft
invariant-loop-draft l = with_front l.out.items (all_some (map collision_within (drop l.draft-index l.drafts))) ≡ collisions_within l.drafts
