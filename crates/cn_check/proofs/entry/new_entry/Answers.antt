use Rattle.std.proofs.Common.{◌++◌, ◌∙◌, List, ℕ, ap, codes, refl}
use Rattle.serde_json.specs.Written.{compact_text}
use Rattle.cn_choice.specs.Canonical.{Choice}
use Rattle.cn_cert.specs.CertificateText.{numbers_data}
use Rattle.cn_check.specs.EntryTexts.{head_text}
use Rattle.cn_check.proofs.LineLemmas.{kept_line, line_shown}
use Rattle.cn_check.proofs.PieceLemmas.{rest_fits}
use Rattle.cn_check.proofs.entry.new_entry.Goals as goal

pub front_of-requires : goal.front_of-requires
front_of-requires c =
    let choice : Choice = record { state = c.args.state.0; a = c.args.a.now; b = c.args.b.now } in
    let text : List ℕ = c.in_ok-shown.shown.text.now in
    let rest : List ℕ = c.in_ok-shown.rest.now in
    rest_fits c.args.bytes.now (head_text c.args.state.0 c.args.a.now ++ (compact_text (numbers_data c.args.b.now) ++ (codes "," ++ text))) rest
    (line_shown c.args.table.now choice c.args.bytes.now _ _ _ text rest (c.in_ok-after.ensures ∙ ap (λ (v : List ℕ). v ++ c.in_ok-after.after.now) c.requires.head) c.in_ok-left.ensures.text
    c.in_ok-middle.ensures c.in_ok-shown.ensures.text)

pub returns-clause-known : goal.returns-clause-known
returns-clause-known c =
    let choice : Choice = record { state = c.args.state.0; a = c.args.a.now; b = c.args.b.now } in
    let spelled = line_shown c.args.table.now choice c.args.bytes.now _ _ _ c.in_ok-shown.shown.text.now c.in_ok-shown.rest.now (c.in_ok-after.ensures ∙ ap (λ (v : List ℕ). v ++ c.in_ok-after.after.now) c.requires.head) c.in_ok-left.ensures.text
    c.in_ok-middle.ensures c.in_ok-shown.ensures.text in
    kept_line c.args.table.now choice c.in_ok-shown.shown.text.now _ _ _ _ c.in_ok-shown.ensures.shown (c.front_of.ensures _ spelled) c.keep.ensures

pub returns-clause-begins : goal.returns-clause-begins
returns-clause-begins c =
    let choice : Choice = record { state = c.args.state.0; a = c.args.a.now; b = c.args.b.now } in (
      head_text c.args.state.0 c.args.a.now ++ (compact_text (numbers_data c.args.b.now) ++ (codes "," ++ c.in_ok-shown.shown.text.now)),
      c.in_ok-shown.shown.greatest,
      (c.in_ok-shown.shown.text.now, c.in_ok-shown.ensures.shown, refl),
      line_shown c.args.table.now choice c.args.bytes.now _ _ _ c.in_ok-shown.shown.text.now c.in_ok-shown.rest.now (c.in_ok-after.ensures ∙ ap (λ (v : List ℕ). v ++ c.in_ok-after.after.now) c.requires.head) c.in_ok-left.ensures.text
          c.in_ok-middle.ensures c.in_ok-shown.ensures.text,
    )
