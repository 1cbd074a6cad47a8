use Rattle.cn_unread_laws.proofs.Grounds.{Laws, merged_no_more, merged_number, some_solves}
use Rattle.cn_unread_laws.proofs.laws.bounds_of_merged_types.Goals as goal

pub returns : goal.returns
returns g c =
    let laws : Laws = record {
      collects = c.collects_are_enough.ensures;
      nodes = c.nodes_are_enough.ensures;
      signs = c.signs_are_enough.ensures;
    } in record {
      least = λ h t u n closed closed_u is some one e.
          some_solves laws h t u closed closed_u is n some one e;
      most = λ h t u n m P closed closed_u is one more not known unread con.
          merged_no_more laws h t u closed closed_u is n m P one more not known unread con;
      number = λ h t u n closed closed_u is some one e not.
          merged_number laws h t u closed closed_u is n some one e not;
    }
