-- The explanation of a certificate by stocks.
use Rattle.std.specs.Prelude.{ℕ, ◌==◌, List, [], ◌∷◌, ◌++◌, codes, decimal, Bool, Option, Some, None}
use Rattle.std.specs.Prelude.{if◌then◌else◌}
use Rattle.std.specs.List.{concat}
use Rattle.cn_table.specs.TypeTable.{TypeTable}
use Rattle.cn_sentences.specs.Lines.{alone_line}
use Rattle.cn_stock_cert.specs.Certificate.{StockCertificate}
use Rattle.cn_stock_cert.specs.declared.certificate.StockClaim.{StockClaim}
use Rattle.cn_stock_cert.specs.declared.certificate.StockClaim.TheVariants.{Alone, Lasting, Witness}
use Rattle.cn_stock_text.specs.Lasting.{lasting_text}
use Rattle.cn_stock_text.specs.Most.{most_text}
use Rattle.cn_stock_text.specs.Witness.{witness_text}

-- what the bounds say of the number
abbrev pub bounds_text : Option ℕ → Option ℕ → List ℕ
bounds_text None at_most = codes "infinite"
bounds_text (Some n) None = codes "at least " ++ decimal n
bounds_text (Some n) (Some m) =
    if n == m then decimal n else concat (decimal n ∷ codes " to " ∷ decimal m ∷ [])

abbrev pub head_line : TypeTable → StockCertificate → List ℕ
head_line t c =
    concat (t.name ∷ codes ": consensus number " ∷ bounds_text c.at_least c.at_most
    ∷ codes " (for processes that can read the whole state)\n" ∷ [])

-- why the number is no less
abbrev pub least_text : TypeTable → StockClaim → List ℕ
least_text t Alone = alone_line
least_text t (Witness c) = witness_text t c
least_text t (Lasting s) = lasting_text t s

-- the number, why it is no less, and why it is no more
unfoldable pub stock_explanation : TypeTable → StockCertificate → Bool → List ℕ
stock_explanation t c all =
    concat (head_line t c ∷ codes "\n" ∷ least_text t c.least ∷ codes "\n"
    ∷ most_text t all c.at_least c.at_most c.most ∷ [])
