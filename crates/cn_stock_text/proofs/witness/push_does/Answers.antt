use Rattle.cn_stock_text.proofs.Claims.{fits_table}
use Rattle.cn_stock_text.proofs.witness.push_does.Goals as goal

pub push_all_groups-requires : goal.push_all_groups-requires
push_all_groups-requires c = rw c.choice_of.ensures (fits_table c.choice_by_teams.ensures c.args.table.now c.args.choice.now c.requires (rw (← c.processes_of-n.ensures) c.if-n-le-MOST_PROCESSES.true))
