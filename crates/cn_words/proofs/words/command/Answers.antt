use Rattle.std.proofs.Common.{◌∷◌, [], refl}
use Rattle.std.proofs.lemmas.Result.{IfOk-weaker}
use Rattle.clap.specs.declared.builder.value_parser.ValueParser.{ValueParser}
use Rattle.cn_words.specs.CommandLine.{agree_words, answer_forms, changes_words, check_words, classify_words, document_forms, draw_words, explain_words, find_words, lint_words, pairs_words, plan_forms, program_with, replay_words, serve_words, show_words, why_words}
use Rattle.cn_words.proofs.CommandLemmas.{Taking, command_more, command_more_for, form_more}
use Rattle.cn_words.proofs.words.command.Goals as goal

pub returns : goal.returns
returns c =
    let to_find = command_more _ _ c.with_command-to_find.result _ find_words c.program.ensures c.find.ensures refl c.with_command-to_find.ensures in
    let none : Unit {0} → Type 0 = λ _. Unit {0} in
    let to_classify = form_more none document_forms _ _ c.with_command-to_classify.result (λ _. program_with (find_words ∷ [])) classify_words
    (IfOk-weaker c.with_command-to_find.result _ _ (λ _ is. (tt, tt, is)) to_find) c.classify.ensures (λ _. refl) c.with_command-to_classify.ensures in
    let by_classify : Unit {0} × ValueParser → Type 0 = Taking none document_forms in
    let to_lint = form_more by_classify answer_forms _ _ c.with_command-to_lint.result _ lint_words to_classify c.lint.ensures (λ _. refl) c.with_command-to_lint.ensures in
    let by_lint : (Unit {0} × ValueParser) × ValueParser → Type 0 = Taking by_classify answer_forms in
    let to_check = form_more by_lint answer_forms _ _ c.with_command-to_check.result _ check_words to_lint c.check.ensures (λ _. refl) c.with_command-to_check.ensures in
    let by_check : ((Unit {0} × ValueParser) × ValueParser) × ValueParser → Type 0 = Taking by_lint answer_forms in
    let to_explain = form_more by_check answer_forms _ _ c.with_command-to_explain.result _ explain_words to_check c.explain.ensures (λ _. refl) c.with_command-to_explain.ensures in
    let by_explain : (((Unit {0} × ValueParser) × ValueParser) × ValueParser) × ValueParser → Type 0 = Taking by_check answer_forms in
    let to_why = form_more by_explain document_forms _ _ c.with_command-to_why.result _ why_words to_explain c.why.ensures (λ _. refl) c.with_command-to_why.ensures in
    let by_why : ((((Unit {0} × ValueParser) × ValueParser) × ValueParser) × ValueParser) × ValueParser → Type 0 = Taking by_explain document_forms in
    let to_pairs = form_more by_why document_forms _ _ c.with_command-to_pairs.result _ pairs_words to_why c.pairs.ensures (λ _. refl) c.with_command-to_pairs.ensures in
    let by_pairs : (((((Unit {0} × ValueParser) × ValueParser) × ValueParser) × ValueParser) × ValueParser) × ValueParser → Type 0 = Taking by_why document_forms in
    let to_changes = form_more by_pairs document_forms _ _ c.with_command-to_changes.result _ changes_words to_pairs c.changes.ensures (λ _. refl) c.with_command-to_changes.ensures in
    let by_changes : ((((((Unit {0} × ValueParser) × ValueParser) × ValueParser) × ValueParser) × ValueParser) × ValueParser) × ValueParser → Type 0 = Taking by_pairs document_forms in
    let to_show = form_more by_changes plan_forms _ _ c.with_command-to_show.result _ show_words to_changes c.show.ensures (λ _. refl) c.with_command-to_show.ensures in
    let by_show : (((((((Unit {0} × ValueParser) × ValueParser) × ValueParser) × ValueParser) × ValueParser) × ValueParser) × ValueParser) × ValueParser → Type 0 = Taking by_changes plan_forms in
    let to_draw = command_more_for by_show _ _ c.with_command-to_draw.result _ draw_words to_show c.draw.ensures refl c.with_command-to_draw.ensures in
    let to_agree = form_more by_show answer_forms _ _ c.with_command-to_agree.result _ agree_words to_draw c.agree.ensures (λ _. refl) c.with_command-to_agree.ensures in
    let by_agree : ((((((((Unit {0} × ValueParser) × ValueParser) × ValueParser) × ValueParser) × ValueParser) × ValueParser) × ValueParser) × ValueParser) × ValueParser → Type 0 = Taking by_show answer_forms in
    let to_replay = form_more by_agree answer_forms _ _ c.with_command-to_replay.result _ replay_words to_agree c.replay.ensures (λ _. refl) c.with_command-to_replay.ensures in
    let by_replay : (((((((((Unit {0} × ValueParser) × ValueParser) × ValueParser) × ValueParser) × ValueParser) × ValueParser) × ValueParser) × ValueParser) × ValueParser) × ValueParser → Type 0 = Taking by_agree answer_forms in
    let to_serve = form_more by_replay answer_forms _ _ c.with_command.result _ serve_words to_replay c.serve.ensures (λ _. refl) c.with_command.ensures in
    IfOk-weaker c.with_command.result _ _ (λ _ is. (
      record {
        classify = is.0.0.0.0.0.0.0.0.0.0.0.1;
        lint = is.0.0.0.0.0.0.0.0.0.0.1;
        check = is.0.0.0.0.0.0.0.0.0.1;
        explain = is.0.0.0.0.0.0.0.0.1;
        why = is.0.0.0.0.0.0.0.1;
        pairs = is.0.0.0.0.0.0.1;
        changes = is.0.0.0.0.0.1;
        show = is.0.0.0.0.1;
        agree = is.0.0.0.1;
        replay = is.0.0.1;
        serve = is.0.1;
      },
      record {
        classify = is.1.0.0.0.0.0.0.0.0.0.0.1;
        lint = is.1.0.0.0.0.0.0.0.0.0.1;
        check = is.1.0.0.0.0.0.0.0.0.1;
        explain = is.1.0.0.0.0.0.0.0.1;
        why = is.1.0.0.0.0.0.0.1;
        pairs = is.1.0.0.0.0.0.1;
        changes = is.1.0.0.0.0.1;
        show = is.1.0.0.0.1;
        agree = is.1.0.0.1;
        replay = is.1.0.1;
        serve = is.1.1;
      },
      is.2,
    )) to_serve
