use Rattle.std.proofs.Common.{inl, refl, ◌∙◌}
use Rattle.cn_stock_find.proofs.find.lasting_certificate.Goals as goal

pub returns : goal.returns
returns c =
    let t = c.args.table.now in
    let l = c.args.lasting in
    record {
      right = record { type_name = c.in_ok-type_name.ensures.ok ∙ c.name.ensures.value; in_range = tt; least = c.in_ok-sets.ensures.show; most = tt };
      found = inl (c.lasting_operations_decide.ensures.always t l.start.0 l.many.0 l.single.0 c.requires, (refl, refl));
    }
