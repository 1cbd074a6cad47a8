-- The path of a flaw: the keys and the indexes that lead from the root of a document to its place.
use Rattle.std.specs.Prelude.{codes, ℕ, List, [], ◌∷◌, ◌++◌, map, Vec, string_bytes}
use Rattle.std.specs.declared.alloc.Global.{Global}
use Rattle.cn_flaws.specs.declared.path.PathPart as code_part
use Rattle.cn_flaws.specs.declared.path.PathPart.TheVariants as code
use Rattle.cn_flaws.specs.declared.path.Holder.{Holder}
use Rattle.cn_flaws.specs.declared.path.Holder.TheVariants.{Root, Operation}
use Rattle.cn_flaws.specs.declared.path.NameList.{NameList}
use Rattle.cn_flaws.specs.declared.path.NameList.TheVariants.{States, Responses, Operations}

-- a key of a table, or the index of an item of an array, from 0
pub data PathPart : Type 0 where
  Key : List ℕ → PathPart
  Index : ℕ → PathPart

-- paths in memory
abbrev pub part_view : code_part.PathPart → PathPart
part_view (code.Key key) = Key (string_bytes key)
part_view (code.Index i) = Index i

abbrev pub path_view : Vec code_part.PathPart Global → List PathPart
path_view v = map part_view v.items

-- to a table: the root itself, or that of the operation with this index
abbrev pub table_path : Holder → List PathPart
table_path Root = []
table_path (Operation i) = Key (codes "operation") ∷ Index i ∷ []

-- to a key of a table, and to the value there
abbrev pub key_path : Holder → List ℕ → List PathPart
key_path holder key = table_path holder ++ Key key ∷ []

-- to an item of the array at a key of a table
abbrev pub item_path : Holder → List ℕ → ℕ → List PathPart
item_path holder key k = table_path holder ++ Key key ∷ Index k ∷ []

-- to the array that has the names of a list, and to the name with this index
abbrev pub list_path : NameList → List PathPart
list_path States = key_path Root (codes "states")
list_path Responses = key_path Root (codes "responses")
list_path Operations = key_path Root (codes "operation")

abbrev pub name_path : NameList → ℕ → List PathPart
name_path States i = item_path Root (codes "states") i
name_path Responses i = item_path Root (codes "responses") i
name_path Operations i = key_path (Operation i) (codes "name")
