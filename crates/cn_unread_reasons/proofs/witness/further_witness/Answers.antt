use Rattle.std.proofs.Common.{List, inr, refl, subst, sym}
use Rattle.cn_further.specs.FurtherSights.{AreFurtherSights}
use Rattle.cn_further.specs.declared.sight.FurtherSight.{FurtherSight}
use Rattle.cn_unread_reasons.proofs.Fits.{fits_table}
use Rattle.cn_unread_reasons.proofs.witness.further_witness.Goals as goal

pub choice_groups-groups-requires : goal.choice_groups-groups-requires
choice_groups-groups-requires c =
    let t = c.args.table.now in
    let d = c.args.further.choice in
    fits_table t c.args.n d c.requires.told.choice ((c.choice_by_teams.ensures t c.args.n d).1 c.requires.told.choice) c.requires.some c.requires.few

pub returns-clause-witness : goal.returns-clause-witness
returns-clause-witness c =
    let t = c.args.table.now in
    let d = c.args.further.choice in
    let fs = c.args.further.follow_ups.items in
    let are : AreFurtherSights t d fs c.as_slice-2.result.now = subst (λ (xs : List FurtherSight). AreFurtherSights t d fs xs) (sym c.as_slice-2.ensures.value) c.in_ok-sights.ensures.sights in record {
      processes = refl;
      c = d;
      for_n = (c.choice_by_teams.ensures t c.args.n d).1 c.requires.told.choice;
      choice = c.choice_groups-groups.ensures.groups;
      told = inr (record {
        no_looks = c.new.ensures.items;
        tells = c.requires.told;
        views = c.in_ok-views.ensures.views t d fs are c.choice_groups-groups.ensures.groups;
      });
    }
