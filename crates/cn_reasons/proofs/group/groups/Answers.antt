use Rattle.std.proofs.Common.{[], ◌∷◌, ◌∙◌, append-nil, ap, arith, length, length-append, sym}
use Rattle.cn_reasons.proofs.GroupLemmas.{group_here, group_none, groups_more}
use Rattle.cn_reasons.proofs.group.groups.Goals as goal
use Rattle.cn_reasons.proofs.group.groups.Goals.{then-begins_group, else-begins_group}

pub loop-place-preserved : goal.loop-place-preserved
loop-place-preserved c =
    let team = c.args.team in
    let first = c.args.first in
    let operations = c.args.operations.now in
    let k = c.loop-place.place in
    let i = c.loop-place.invariant in
    elim c.if-begins_group.branch [
      | then-begins_group w ↦
          let is = ap (λ v. v.items) w.groups-is ∙ w.push.ensures.items in record {
            few = omega (arith, i.few, ap length is, length-append c.loop-place.groups.items (w.group_at.result ∷ []));
            groups = groups_more team first operations k _ _ _ i.groups is
                (ap (λ g. g ∷ []) w.group_at.ensures ∙ group_here team first operations k (sym c.begins_group.ensures ∙ w.if-begins_group.true));
          }
      | else-begins_group w ↦
          let is = ap (λ v. v.items) w.groups-is in record {
            few = omega (arith, i.few, ap length is);
            groups = groups_more team first operations k _ _ [] i.groups (is ∙ sym (append-nil c.loop-place.groups.items))
                (group_none team first operations k (sym c.begins_group.ensures ∙ w.if-begins_group.false));
          }
    ]
