use Rattle.std.proofs.Common.{◌≡◌, true, sym, ◌∙◌}
use Rattle.serde_json.specs.View.{view}
use Rattle.cn_stock_cert.proofs.Versions.{version_back, version_number}
use Rattle.cn_stock_cert.proofs.Parts.{holds_so, told_so, whole}
use Rattle.cn_stock_cert.specs.Kinds.{has_keys}
use Rattle.cn_stock_cert.proofs.read.read_value.Goals as goal

pub returns-clause-told : goal.returns-clause-told
returns-clause-told c =
    let keys : has_keys 6 (view c.args.value.now) ≡ true = sym c.has_keys.ensures ∙ c.if-not-has_keys.false in
    sym (whole keys (sym c.in-Some.ensures.told) (sym c.in-Some-read_bound_at.ensures.told) (told_so c.in_ok-least.ensures.told c.in-Some-2.is)
    (told_so c.in_ok-most.ensures.told c.in-Some-3.is) (told_so c.in_ok-type_name.ensures.told c.in-Some-4.is) (version_number (view c.args.value.now) c.requires))

pub returns-clause-same : goal.returns-clause-same
returns-clause-same c =
    let keys : has_keys 6 (view c.args.value.now) ≡ true = sym c.has_keys.ensures ∙ c.if-not-has_keys.false in
    record {
      keys = keys;
      at_least = c.in-Some.ensures.same;
      at_most = c.in-Some-read_bound_at.ensures.same;
      least = holds_so _ c.in_ok-least.ensures.same c.in-Some-2.is;
      most = holds_so _ c.in_ok-most.ensures.same c.in-Some-3.is;
      type_name = holds_so _ c.in_ok-type_name.ensures.same c.in-Some-4.is;
      version = version_back (view c.args.value.now) c.requires;
    }
