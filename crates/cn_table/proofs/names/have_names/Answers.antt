use Rattle.std.proofs.Common.{◌∙◌, sym}
use Rattle.std.proofs.lemmas.List.Folds.{list_all-map}
use Rattle.cn_table.specs.Names.{is_name}
use Rattle.cn_table.proofs.names.have_names.Goals as goal

pub returns : goal.returns
returns g c = c.all_go_by_names.ensures ∙ sym (list_all-map is_name g.T.HasName.name_of c.args.things.now)
