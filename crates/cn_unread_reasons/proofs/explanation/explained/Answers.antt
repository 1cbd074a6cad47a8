use Rattle.std.proofs.Common.{◌≡◌, ◌∙◌, ℕ, ap, refl, subst, sym}
use Rattle.std.specs.Prelude.{IfSome}
use Rattle.std.proofs.lemmas.List.Elements.{All-same}
use Rattle.cn_reasons.proofs.Evidence.{limit_within}
use Rattle.cn_unread_number.specs.Evidence.{ShowsLeast}
use Rattle.cn_unread_reasons.specs.Known.{IsKnownMerged}
use Rattle.cn_unread_reasons.specs.MergedStates.{merged_states}
use Rattle.cn_unread_reasons.specs.UnreadExplanations.{IsTold, IsWitnessFor}
use Rattle.cn_unread_reasons.proofs.Explained.{known_merged, shown_least}
use Rattle.cn_unread_reasons.proofs.explanation.explained.Goals as goal

pub of-requires-clause-shown : goal.of-requires-clause-shown
of-requires-clause-shown c =
    let t = c.args.found.merged.table in
    let e = c.args.found.evidence in
    let limit = c.greatest_limit-limit.result in
    subst (ShowsLeast t e.least) (sym c.least_of.ensures) (shown_least t e.least e.most e.bounds limit (limit_within _ _ _ c.greatest_limit-limit.ensures.taken).0 c.requires.shown)

pub most_of-requires : goal.most_of-requires
most_of-requires c = (c.args.found.evidence.least, c.requires.shown)

pub returns : goal.returns
returns c =
    let t = c.args.found.merged.table in
    let limit = c.greatest_limit-limit.result in
    let low = c.in_ok-low.ensures.low in
    let known = c.in_ok-low.ensures.known in
    let class_of = c.args.found.merged.class_of.items in
    let merged : c.in_ok-merged.merged.items ≡ merged_states class_of = c.in_ok-merged.ensures ∙ ap merged_states c.as_slice.ensures.value in record {
      known = record {
        merged = All-same (IsKnownMerged c.args.given t) _ _ merged (known_merged c.args.given t class_of c.requires.merged);
        witness = known.witness;
        signs = known.signs;
        most = c.in_ok-most.ensures.known;
      };
      given = refl;
      is_all = refl;
      bounds = c.requires.bounds;
      class_of = class_of;
      table = c.requires.merged;
      merged = merged;
      telling = low.telling;
      low = c.args.found.evidence.least;
      high = c.args.found.evidence.most;
      shown = c.requires.shown;
      limit = limit;
      is_limit = c.greatest_limit-limit.ensures;
      told = subst (λ (n : ℕ). IsTold t c.args.found.evidence.least n c.in_ok-low.low.telling c.in_ok-low.low.witness c.in_ok-low.low.signs) c.least_of.ensures c.in_ok-low.ensures.told;
      witness = subst (λ (n : ℕ). IfSome c.in_ok-low.low.witness (IsWitnessFor t n limit)) c.least_of.ensures low.witness;
      signs = low.signs;
      most = c.in_ok-most.ensures.reason;
    }
