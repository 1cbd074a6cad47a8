use Rattle.std.proofs.Common.{◌++◌, List, ℕ, ap, sym, ◌∙◌}
use Rattle.std.specs.Prelude.{string_bytes}
use Rattle.cn_cert.specs.Entries.{listed_text}
use Rattle.cn_cert.proofs.EntryLists.{listed_append}
use Rattle.cn_find_text.proofs.entries.EntriesTextEvidence.append.Goals as goal

pub returns : goal.returns
returns c kept more e f =
    let behind : List ℕ = string_bytes c.args.behind.text in
    c.in_ok-push_str.ensures.bytes
    ∙ (ap (λ (v : List ℕ). string_bytes c.args.self.now.text ++ v) c.as_str.ensures.value
    ∙ (ap (λ (v : List ℕ). v ++ behind) e ∙ (ap (λ (v : List ℕ). listed_text kept ++ v) f ∙ sym (listed_append kept more))))
