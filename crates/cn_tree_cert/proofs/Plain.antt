-- No number of a certificate is a float.
use Rattle.std.proofs.Common.{◌≡◌, List, [], ◌∷◌, Bool, false, ◌||◌, map, refl}
use Rattle.serde_json.specs.Data.{Data}
use Rattle.serde_json.specs.View.{items_of}
use Rattle.serde_json.specs.Written.{has_float, items_have_float}
use Rattle.cn_meetings.specs.declared.sight.Sight.{Sight}
use Rattle.cn_meetings.specs.declared.sight.Sight.TheVariants.{Nothing, Response, State}
use Rattle.cn_cert.specs.CertificateText.{number_data}
use Rattle.cn_tree_cert.specs.Certificate.{TreeCertificate, TreeNode}
use Rattle.cn_tree_cert.specs.TreeText.{node_data, operation_data, sight_data, tree_certificate_data}

either : {x y : Bool} → x ≡ false → y ≡ false → x || y ≡ false
either p q = rw (p, q)

each_plain : {X : Type 0} (json : X → Data) → ((x : X) → has_float (json x) ≡ false) → (xs : List X)
    → items_have_float (items_of (map json xs)) ≡ false
each_plain json plain [] = refl
each_plain json plain (x ∷ xs) = either (plain x) (each_plain json plain xs)

sight_plain : (s : Sight) → has_float (sight_data s) ≡ false
sight_plain State = refl
sight_plain Nothing = refl
sight_plain (Response o) = refl

node_plain : (n : TreeNode) → has_float (node_data n) ≡ false
node_plain n = either (sight_plain n.sight) (either (each_plain operation_data (λ o. refl) n.operations) (either (each_plain number_data (λ m. refl) n.teams) refl))

pub certificate_plain : (c : TreeCertificate) → has_float (tree_certificate_data c) ≡ false
certificate_plain c = either (each_plain node_data node_plain c.nodes) refl
