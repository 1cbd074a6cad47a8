use Rattle.std.proofs.Common.{◌≡◌, ◌+◌, ℕ, length, length-append, arith, sym, ◌∙◌, subst}
use Rattle.cn_choice.specs.Canonical.{raw_choice_of}
use Rattle.cn_choice.specs.RawChoices.{IsRawChoice}
use Rattle.cn_search.proofs.kind.is_of_kind.Goals as goal

pub is_witness-requires : goal.is_witness-requires
is_witness-requires g c =
    let all : length c.args.choice.now.a + length c.args.choice.now.b ≡ c.args.n = sym (length-append c.args.choice.now.a c.args.choice.now.b) ∙ c.requires.fits.one_operation_each in
    record {
      fits = subst (λ (n : ℕ). IsRawChoice c.args.table.now n (raw_choice_of c.args.choice.now)) (sym all) c.requires.fits;
      some = omega (arith, all, c.requires.some);
      few = omega (arith, all, c.requires.few);
    }
