-- The numbers of pairs of operations in Markdown.
use Rattle.std.specs.Prelude.{codes, ℕ, ◌==◌, List, [], ◌++◌, length, if◌then◌else◌}
use Rattle.cn_table.specs.TypeTable.{TypeTable}
use Rattle.cn_pairs.specs.declared.pairs.Pairs.{Pairs}
use Rattle.cn_sentences.specs.Smallest.{sentences}
use Rattle.cn_sentences.specs.Triangle.{triangle}
use Rattle.cn_markdown.specs.Rows.{table_of}

-- the sentences as a list, behind an empty line; nothing if there are none
abbrev pub sentence_list : TypeTable → Pairs → List ℕ
sentence_list t p =
    if length p.smallest.items == 0 then [] else codes "\n" ++ sentences (codes "- ") t p

-- the triangle as a table, with the name of the type in its corner, and the sentences
abbrev pub pairs_markdown : TypeTable → Pairs → List ℕ
pairs_markdown t p = table_of (triangle t p t.name) ++ sentence_list t p
