use Rattle.std.proofs.Common.{refl}
use Rattle.std.specs.Prelude.{IsBitSet}
use Rattle.cn_stocks.specs.Leaving.{Leaves}
use Rattle.cn_stocks.specs.declared.lasting.search.First.TheVariants.{Single, Many}
use Rattle.cn_reasons.proofs.StateLemmas.{lasting_known, same_states}
use Rattle.cn_reasons.proofs.lasting.lasting_witness.Goals as goal

pub states_in-requires : goal.states_in-requires
states_in-requires c q here = lasting_known c.args.table.now c.states-states.ensures.table c.args.lasting c.requires Single q ((c.left_states-single.ensures q).0 here)

pub states_in-requires-2 : goal.states_in-requires-2
states_in-requires-2 c q here = lasting_known c.args.table.now c.states-states.ensures.table c.args.lasting c.requires Many q ((c.left_states-many.ensures q).0 here)

pub returns-clause-witness : goal.returns-clause-witness
returns-clause-witness c =
    let t = c.args.table.now in
    let l = c.args.lasting in record {
      lasting = refl;
      single_states = same_states (IsBitSet c.left_states-single.result) (Leaves t l Single) c.in_ok-states_in.field-0.items c.left_states-single.ensures c.in_ok-states_in.ensures.states;
      many_states = same_states (IsBitSet c.left_states-many.result) (Leaves t l Many) c.in_ok-states_in-2.field-0.items c.left_states-many.ensures c.in_ok-states_in-2.ensures.states;
    }
