use Rattle.std.proofs.Common.{◌≡◌, ◌++◌, List, ℕ, ap, codes, ◌∙◌}
use Rattle.std.specs.Prelude.{string_bytes}
use Rattle.cn_choice.specs.Collisions.{Collision}
use Rattle.cn_cert.specs.Entries.{entry_text}
use Rattle.cn_cert.proofs.entries.push_entry.Goals as goal

pub returns : goal.returns
returns c =
    let added : Collision = record { choice = c.args.choice.now; process = c.args.process; alpha = c.args.alpha.now; beta = c.args.beta.now } in
    let line : c.text.result.now ≡ entry_text added = c.text.ensures ∙ (c.put-behind.ensures.text ∙ ap (λ (v : List ℕ). v ++ codes ",") c.put_entry-end.ensures.text) in
    c.in_ok-push_str.ensures ∙ ap (λ (v : List ℕ). string_bytes c.args.text.now ++ v) line
