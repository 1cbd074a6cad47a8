use Rattle.std.proofs.Common.{◌≡◌, Option, None, IfSome, IsSomeAnd, MatchOption, ap, refl, subst, sym}
use Rattle.cn_choice.specs.Canonical.{Choice, FitsTable}
use Rattle.cn_cert.specs.Certificate.{Certificate}
use Rattle.cn_check.proofs.WitnessLemmas.{witness_fits}
use Rattle.cn_reasons.specs.Witnesses.{IsWitnessOf}
use Rattle.cn_reasons.proofs.AcceptedEntries.{pairs_known}
use Rattle.cn_reasons.proofs.explanation.Explanation.new.Goals as goal

pub witness_if-requires : goal.witness_if-requires
witness_if-requires c =
    subst (λ (w : Option Choice). IfSome w (FitsTable c.args.table)) (sym (ap (λ (x : Certificate). x.witness) c.certificate.view_is))
    (witness_fits c.args.table c.args.certificate c.requires.accepted)

pub returns : goal.returns
returns c =
    let t = c.args.table in
    let witness = c.in_ok-witness.witness in record {
      known = record {
        witness = c.in_ok-witness.ensures.known;
        refutation = c.in_ok-refutation.ensures.known;
        lasting = c.in_ok-lasting.ensures.known;
        apart = pairs_known t c.in_ok-apart.apart.items c.in_ok-apart.ensures;
      };
      is_table = refl;
      is_number = refl;
      is_all = refl;
      shows = record {
        accepted = c.requires.accepted;
        limit = ap (λ (x : Certificate). x.limit) c.certificate.view_is;
        version = ap (λ (x : Certificate). x.version) c.certificate.view_is;
        witness = subst (λ (w : Option Choice). MatchOption w (witness ≡ None) (λ choice. IsSomeAnd witness (IsWitnessOf t choice))) (ap (λ (x : Certificate). x.witness) c.certificate.view_is)
            c.in_ok-witness.ensures.witness;
        refutation = c.in_ok-refutation.ensures.refutation;
      };
      lasts = c.in_ok-lasting.ensures.witness;
      rule = c.rule_of-rule.ensures;
      apart = c.in_ok-apart.ensures;
    }
