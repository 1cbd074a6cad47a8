use Rattle.std.proofs.Common.{◌≡◌, map, take}
use Rattle.cn_table.specs.DraftView.{texts_view}
use Rattle.cn_sentences.specs.Unread.{unread_sight_text}
use Rattle.cn_text.proofs.unread_views.sight_texts.Given as goal

-- the texts so far
abbrev pub invariant-loop-sight : goal.invariant-loop-sight
invariant-loop-sight l = texts_view l.texts ≡ map (unread_sight_text l.table) (take l.sight-index l.sights)
