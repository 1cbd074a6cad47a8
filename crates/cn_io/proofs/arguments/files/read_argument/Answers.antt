use Rattle.std.proofs.Common.{inl, inr, ap, string_bytes, ◌∙◌}
use Rattle.cn_io.specs.Arguments.Files.{without_line_feed}
use Rattle.cn_io.proofs.ArgumentLemmas.Files.{argument_read, argument_refused}
use Rattle.cn_io.proofs.arguments.files.read_argument.Goals as goal

pub returns-in_ok-from_str-in-Ok-clause-text : goal.returns-in_ok-from_str-in-Ok-clause-text
returns-in_ok-from_str-in-Ok-clause-text g c = (
  c.in_ok-fill.ensures.ended,
  argument_read c.args.argument c.fill.new.self.bytes.items c.without_line_feed.result.now c.in_ok-fill.ensures.ended.1 (c.without_line_feed.ensures ∙ ap without_line_feed c.deref.ensures.value)
      (string_bytes c.in_ok-from_str-in-Ok.field-0) c.in-Ok.ensures.cases.1 (c.in_ok-from_str-in-Ok.ensures.ok ∙ c.in-Ok.ensures.cases.0),
)

pub returns-in-Err-clause-text : goal.returns-in-Err-clause-text
returns-in-Err-clause-text g c =
    inr (
      inl c.in_ok-fill.ensures.ended,
      argument_refused c.args.argument c.fill.new.self.bytes.items c.without_line_feed.result.now c.in_ok-fill.ensures.ended.1
          (c.without_line_feed.ensures ∙ ap without_line_feed c.deref.ensures.value)
          c.in-Err.ensures.cases.0,
    )
