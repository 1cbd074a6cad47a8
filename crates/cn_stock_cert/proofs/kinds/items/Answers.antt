use Rattle.std.proofs.Common.{Some, ap, ◌∙◌, sym, map, option_map}
use Rattle.serde_json.specs.View.{view}
use Rattle.cn_cert.specs.Document.{list_of}
use Rattle.cn_stock_cert.proofs.Values.{array_back, list_back}
use Rattle.cn_stock_cert.specs.StockText.{list_data}
use Rattle.cn_stock_cert.proofs.kinds.items.Goals as goal

pub returns-in-Some-clause-items : goal.returns-in-Some-clause-items
returns-in-Some-clause-items c =
    ap Some (ap (map view) c.as_slice.ensures.value ∙ sym (list_back (map view c.in-Some.list.now.items))) ∙ ap (option_map list_of) c.in-Some.ensures

pub returns-in-Some-clause-array : goal.returns-in-Some-clause-array
returns-in-Some-clause-array c =
    array_back _ _ (sym c.in-Some.ensures) ∙ sym (ap (λ xs. list_data (map view xs)) c.as_slice.ensures.value)
