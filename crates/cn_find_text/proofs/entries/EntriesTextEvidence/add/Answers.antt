use Rattle.std.proofs.Common.{◌≡◌, ◌++◌, ◌∷◌, [], List, ℕ, ap, append-nil, sym, ◌∙◌}
use Rattle.std.specs.Prelude.{string_bytes}
use Rattle.cn_choice.specs.Collisions.{Collision}
use Rattle.cn_collisions.specs.Examination.{collision_with}
use Rattle.cn_cert.specs.Entries.{entry_text, listed_text}
use Rattle.cn_cert.proofs.EntryLists.{listed_append}
use Rattle.cn_find_text.proofs.entries.EntriesTextEvidence.add.Goals as goal

pub returns : goal.returns
returns c kept e =
    let added : Collision = collision_with c.args.choice.now c.args.orders in
    let own : List ℕ = entry_text added in
    let old : List ℕ = string_bytes c.args.self.now.text in
    let pushed : string_bytes c.push_entry.new.text ≡ old ++ own = rw (c.as_slice-alpha.ensures.value, c.as_slice-beta.ensures.value) at c.in_ok-push_entry.ensures in
    pushed
    ∙ (ap (λ (v : List ℕ). v ++ own) e
    ∙ (ap (λ (v : List ℕ). listed_text kept ++ v) (sym (append-nil own)) ∙ sym (listed_append kept (added ∷ []))))
