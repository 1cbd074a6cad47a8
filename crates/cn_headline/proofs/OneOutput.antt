-- The output of a command is one text.
use Rattle.std.proofs.Common.{◌≡◌, ℕ, List, ◌++◌, codes, Option, Some, ap, sym, ◌∙◌}
use Rattle.cn_table.specs.TypeTable.{TypeTable}
use Rattle.cn_choice.specs.Canonical.{Choice}
use Rattle.cn_choice.specs.Discerning.{IsNumberUpTo}
use Rattle.cn_finding.specs.Evidence.{IsFindingFor}
use Rattle.cn_finding.specs.Finding.{Finding}
use Rattle.cn_cert.specs.Certificate.{Certificate, certificate_of}
use Rattle.cn_cert.specs.CertificateText.{certificate_text}
use Rattle.cn_proto.specs.Plan.{Plan, IsPlan}
use Rattle.cn_recover.specs.Recording.{IsRecoverableNumberUpTo}
use Rattle.cn_app.specs.Commands.Classify.{IsClassified, IsRecoverablyClassified, line_with, line_with_both, number_words}
use Rattle.cn_app.specs.Commands.Find.{IsFound, IsFoundCertificate}
use Rattle.cn_io.specs.Texts.Plans.{IsPlanOf}

pub one_found : ((t : TypeTable) (limit : ℕ) (f g : Finding) → IsFindingFor t limit f → IsFindingFor t limit g → f ≡ g)
    → (t : TypeTable) (limit : ℕ) (x y : List ℕ) → IsFound t limit x → IsFound t limit y → x ≡ y
one_found one t limit x y f g =
    f.written ∙ ap (λ (finding : Finding). certificate_text (certificate_of t.name finding) ++ codes "\n") (one t limit f.finding g.finding f.found g.found) ∙ sym g.written

same_choice : (v w : Choice) → Some v ≡ Some w → v ≡ w
same_choice v w e = cc

pub one_plan_of : ((p q : Plan) → IsPlan p → IsPlan q → p.table ≡ q.table → p.choice ≡ q.choice → p ≡ q)
    → (t : TypeTable) (c : Certificate) (p q : Plan) → IsPlanOf t c p → IsPlanOf t c q → p ≡ q
one_plan_of one t c p q f g = one p q f.is_plan g.is_plan (f.table ∙ sym g.table) (same_choice p.choice q.choice (sym f.witness ∙ g.witness))

pub one_classified : ((t : TypeTable) (limit : ℕ) (m n : Option ℕ) → IsNumberUpTo t limit m → IsNumberUpTo t limit n → m ≡ n)
    → (t : TypeTable) (limit : ℕ) (x y : List ℕ) → IsClassified t (Some limit) x → IsClassified t (Some limit) y → x ≡ y
one_classified one t limit x y f g =
    f.written ∙ (ap (line_with t.name) (f.number.2 ∙ (ap (number_words limit) (one t limit f.number.0 g.number.0 f.number.1 g.number.1) ∙ sym g.number.2)) ∙ sym g.written)

pub classified_as_found : ((t : TypeTable) (limit : ℕ) (number : Option ℕ) (f : Finding) → IsFindingFor t limit f → IsNumberUpTo t limit number → number ≡ f.number)
    → (t : TypeTable) (limit : ℕ) (line : List ℕ) (f : Finding) → IsClassified t (Some limit) line → IsFindingFor t limit f
    → line ≡ line_with t.name (number_words limit f.number)
classified_as_found one t limit line f is found =
    is.written ∙ ap (line_with t.name) (is.number.2 ∙ ap (number_words limit) (one t limit is.number.0 f found is.number.1))

pub one_recoverably_classified : ((t : TypeTable) (limit : ℕ) (m n : Option ℕ) → IsNumberUpTo t limit m → IsNumberUpTo t limit n → m ≡ n)
    → ((t : TypeTable) (limit : ℕ) (m n : Option ℕ) → IsRecoverableNumberUpTo t limit m → IsRecoverableNumberUpTo t limit n → m ≡ n)
    → (t : TypeTable) (limit : ℕ) (x y : List ℕ) → IsRecoverablyClassified t (Some limit) x → IsRecoverablyClassified t (Some limit) y → x ≡ y
one_recoverably_classified one two t limit x y f g =
    f.written
    ∙ (ap (λ (words : List ℕ). line_with_both t.name words f.recoverable_words)
    (f.number.2 ∙ (ap (number_words limit) (one t limit f.number.0 g.number.0 f.number.1 g.number.1) ∙ sym g.number.2))
    ∙ (ap (line_with_both t.name g.words)
    (f.recoverable.2 ∙ (ap (number_words limit) (two t limit f.recoverable.0 g.recoverable.0 f.recoverable.1 g.recoverable.1) ∙ sym g.recoverable.2))
    ∙ sym g.written))

pub text_of_found : ((t : TypeTable) (limit : ℕ) (f g : Finding) → IsFindingFor t limit f → IsFindingFor t limit g → f ≡ g)
    → (t : TypeTable) (limit : ℕ) (text : List ℕ) (c : Certificate) → IsFound t limit text → IsFoundCertificate t limit c
    → text ≡ certificate_text c ++ codes "\n"
text_of_found one t limit text c f g =
    f.written ∙ ap (λ (finding : Finding). certificate_text (certificate_of t.name finding) ++ codes "\n") (one t limit f.finding g.finding f.found g.found)
    ∙ ap (λ (d : Certificate). certificate_text d ++ codes "\n") (sym g.is)
