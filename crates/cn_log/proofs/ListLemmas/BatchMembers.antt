-- Whether an entry is in a batch.
use Rattle.std.proofs.Common.{◌≡◌, true, false, Option, Some, None, ap}
use Rattle.cn_log.specs.declared.batch.Batch.{Batch}
use Rattle.cn_log.specs.declared.entry.Entry.{Entry}
use Rattle.cn_log.specs.Batches.{HoldsEntry, has, entry_at, is_entry}
use Rattle.cn_log.proofs.ListLemmas.Places.{same_is, same_not}

is_it : (o : Option Entry) (e : Entry) → is_entry o e ≡ true → o ≡ Some e
is_it None e h = absurd cc
is_it (Some f) e h = ap Some (same_is f e h)

isnt_it : (o : Option Entry) (e : Entry) → is_entry o e ≡ false → o ≡ Some e → ⊥
isnt_it None e h s = absurd cc
isnt_it (Some f) e h s = same_not f e h cc

pub has_is : (b : Batch) (e : Entry) → has b e ≡ true → HoldsEntry b e
has_is b e h = is_it (entry_at b e.process) e h

pub has_isnt : (b : Batch) (e : Entry) → has b e ≡ false → HoldsEntry b e → ⊥
has_isnt b e h s = isnt_it (entry_at b e.process) e h s
