-- The JSON value of a certificate of a plan tree, and its one text.
use Rattle.std.specs.Prelude.{ℕ, List, [], ◌∷◌, true, false, map, codes}
use Rattle.serde_json.specs.Data.{Data, array, boolean, string, object, member, no_members}
use Rattle.serde_json.specs.View.{items_of}
use Rattle.serde_json.specs.Written.{compact_text}
use Rattle.cn_table.specs.declared.elements.Operation.{Operation}
use Rattle.cn_meetings.specs.declared.sight.Sight.{Sight}
use Rattle.cn_meetings.specs.declared.sight.Sight.TheVariants.{Nothing, Response, State}
use Rattle.cn_cert.specs.CertificateText.{number_data}
use Rattle.cn_tree_cert.specs.Certificate.{TreeCertificate, TreeNode}

-- an array of these values
abbrev pub list_data : List Data → Data
list_data ds = array (items_of ds)

-- an array with the value of each thing
abbrev pub each_data : {X : Type 0} → (X → Data) → List X → Data
each_data json xs = list_data (map json xs)

abbrev pub operation_data : Operation → Data
operation_data o = number_data o.0

-- the sight of the processes of a node: `true` if they read the state, `false` if they do not look, or
-- the number of the operation whose response they see
abbrev pub sight_data : Sight → Data
sight_data State = boolean true
sight_data Nothing = boolean false
sight_data (Response o) = operation_data o

-- a node: `[state, sight, operations, teams]`
abbrev pub node_data : TreeNode → Data
node_data n = list_data (number_data n.start ∷ sight_data n.sight
    ∷ each_data operation_data n.operations ∷ each_data number_data n.teams ∷ [])

-- the version of certificates of plan trees
abbrev pub tree_version : ℕ
tree_version = 5

-- the object, with its keys in the order of their bytes
abbrev pub tree_certificate_data : TreeCertificate → Data
tree_certificate_data c =
    object (member (codes "nodes") (each_data node_data c.nodes)
    (member (codes "processes") (number_data c.processes)
    (member (codes "steps") (number_data c.steps)
    (member (codes "type") (string c.type_name)
    (member (codes "version") (number_data tree_version) no_members)))))

-- the one text: compact, with integers in decimal
abbrev pub tree_certificate_text : TreeCertificate → List ℕ
tree_certificate_text c = compact_text (tree_certificate_data c)
