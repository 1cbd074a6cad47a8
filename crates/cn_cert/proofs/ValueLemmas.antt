-- Items of arrays and members of objects, in memory and as data.
use Rattle.std.proofs.Common.{◌≡◌, suc, String, Global, add-one, List, [], ◌∷◌, length, refl, ap}
use Rattle.serde_json.specs.declared.value.Value.{Value}
use Rattle.serde_json.specs.View.{members_view}
use Rattle.cn_cert.specs.Document.{members_len}

-- as many keys in memory as in the data
pub members_len-members_view : (es : List (String Global × Value)) → members_len (members_view es) ≡ length es
members_len-members_view [] = refl
members_len-members_view (e ∷ es) = rw add-one (ap suc (members_len-members_view es))
