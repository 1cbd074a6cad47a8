-- The bounds of a certificate that is right.
use Rattle.std.proofs.Common.{ℕ, ◌+◌, ◌≤◌, List, Option, Some, None, arith}
use Rattle.cn_table.specs.TypeTable.{TypeTable}
use Rattle.cn_choice.specs.Canonical.{raw_choice_of}
use Rattle.cn_choice.specs.Discerning.{IsNumberUpTo}
use Rattle.cn_stocks.specs.Numbers.{IsNumber}
use Rattle.cn_stocks.proofs.LastingLemmas.Always.{always}
use Rattle.cn_joins.specs.Joins.{Join}
use Rattle.cn_joins.proofs.Decisions.{sound}
use Rattle.cn_stock_cert.specs.Certificate.{StockCertificate}
use Rattle.cn_stock_cert.specs.Right.{AreBounds, AreInRange, IsAtLeast, IsAtMost, IsRight, ShowsAtLeast, ShowsAtMost}
use Rattle.cn_stock_cert.specs.declared.certificate.StockClaim.{StockClaim}
use Rattle.cn_stock_cert.specs.declared.certificate.StockClaim.TheVariants as claim
use Rattle.cn_stock_cert.proofs.Lasts.{lasts}

least_holds : (t : TypeTable) (l : StockClaim) (n : Option ℕ) → ShowsAtLeast t l n → IsAtLeast t n
least_holds t claim.Alone None s = absurd s
least_holds t claim.Alone (Some n) s = λ two. absurd (omega (arith, two, s))
least_holds t (claim.Witness c) None s = absurd s
least_holds t (claim.Witness c) (Some n) s = λ two. (raw_choice_of c, s.0, s.1)
least_holds t (claim.Lasting sets) None s = always t sets.start sets.many sets.single (lasts t sets s)
least_holds t (claim.Lasting sets) (Some n) s = absurd s

most_holds : (t : TypeTable) (n : Option ℕ) (joins : Option (List Join)) (m : Option ℕ) → AreInRange n m → ShowsAtMost t joins m → IsAtMost t m
most_holds t n None None o s = tt
most_holds t n None (Some m) o s = absurd s
most_holds t n (Some joins) None o s = absurd s
most_holds t None (Some joins) (Some m) o s = absurd o
most_holds t (Some n) (Some joins) (Some m) o s = λ k l. sound t (m + 1) k joins (omega (arith, o.0, o.1)) (omega (arith, l)) s

pub right : (t : TypeTable) (c : StockCertificate) → IsRight t c → AreBounds t c.at_least c.at_most
right t c r = record { least = least_holds t c.least c.at_least r.least; most = most_holds t c.at_least c.most c.at_most r.in_range r.most }

pub one_number : (t : TypeTable) (n : ℕ) → 2 ≤ n → AreBounds t (Some n) (Some n) → IsNumber t (Some n)
one_number t n two b = (two, b.least two, b.most)

pub no_number : (t : TypeTable) (at_least : Option ℕ) → AreBounds t at_least (Some 1) → IsNumber t None
no_number t at_least b = λ m two. b.most m (omega (arith, two))

pub up_to : (t : TypeTable) (n limit : ℕ) → 2 ≤ n → n ≤ limit → AreBounds t (Some n) (Some n) → IsNumberUpTo t limit (Some n)
up_to t n limit two l b = (two, l, b.least two, λ m more most. b.most m more)

pub none_up_to : (t : TypeTable) (limit : ℕ) (at_least : Option ℕ) → AreBounds t at_least (Some 1) → IsNumberUpTo t limit None
none_up_to t limit at_least b = λ m two most. b.most m (omega (arith, two))

pub at_limit : (t : TypeTable) (limit : ℕ) (at_most : Option ℕ) → 2 ≤ limit → AreBounds t (Some limit) at_most → IsNumberUpTo t limit (Some limit)
at_limit t limit at_most two b = (two, omega arith, b.least two, λ m more most. absurd (omega (arith, more, most)))
