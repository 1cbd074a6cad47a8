-- The JSON value of a certificate by stocks, and its one text.
use Rattle.std.specs.Prelude.{ℕ, List, [], ◌∷◌, Option, Some, None, map, codes}
use Rattle.serde_json.specs.Data.{Data, null, array, string, object, member, no_members}
use Rattle.serde_json.specs.View.{items_of}
use Rattle.serde_json.specs.Written.{compact_text}
use Rattle.cn_choice.specs.Canonical.{Choice}
use Rattle.cn_cert.specs.CertificateText.{number_data, number_or_null}
use Rattle.cn_joins.specs.Joins.{Join}
use Rattle.cn_stock_cert.specs.Certificate.{StockCertificate}
use Rattle.cn_stock_cert.specs.LastingSets.{LastingSets}
use Rattle.cn_stock_cert.specs.declared.certificate.StockClaim.{StockClaim}
use Rattle.cn_stock_cert.specs.declared.certificate.StockClaim.TheVariants as claim

-- an array of these values
abbrev pub list_data : List Data → Data
list_data ds = array (items_of ds)

-- an array with the value of each thing
abbrev pub each_data : {X : Type 0} → (X → Data) → List X → Data
each_data json xs = list_data (map json xs)

abbrev pub each_number : List ℕ → Data
each_number ns = each_data number_data ns

-- a choice: `[state, a, b]`
abbrev pub teams_data : Choice → Data
teams_data c = list_data (number_data c.state ∷ each_number c.a ∷ each_number c.b ∷ [])

-- sets of states of operations that last: `[state, many, single, alone, behind, first]`
abbrev pub lasting_data : LastingSets → Data
lasting_data s = list_data (number_data s.start ∷ number_data s.many ∷ number_data s.single
    ∷ each_number s.alone ∷ each_number s.behind ∷ each_number s.first ∷ [])

-- an object with one key
abbrev pub at_one_key : List ℕ → Data → Data
at_one_key key d = object (member key d no_members)

abbrev pub least_data : StockClaim → Data
least_data claim.Alone = null
least_data (claim.Witness c) = at_one_key (codes "witness") (teams_data c)
least_data (claim.Lasting s) = at_one_key (codes "lasting") (lasting_data s)

-- a join: `[state, word, place, word, place]`
abbrev pub join_data : Join → Data
join_data j = list_data (number_data j.start ∷ each_number j.first.word
    ∷ number_data j.first.place ∷ each_number j.second.word ∷ number_data j.second.place ∷ [])

-- an array of joins, or null
abbrev pub most_data : Option (List Join) → Data
most_data None = null
most_data (Some joins) = each_data join_data joins

-- the version of certificates by stocks
abbrev pub stock_version : ℕ
stock_version = 3

-- the object, with its keys in the order of their bytes
abbrev pub stock_data : StockCertificate → Data
stock_data c =
    object (member (codes "at_least") (number_or_null c.at_least)
    (member (codes "at_most") (number_or_null c.at_most)
    (member (codes "least") (least_data c.least)
    (member (codes "most") (most_data c.most)
    (member (codes "type") (string c.type_name)
    (member (codes "version") (number_data stock_version) no_members))))))

-- the one text: compact, with integers in decimal
abbrev pub stock_text : StockCertificate → List ℕ
stock_text c = compact_text (stock_data c)
