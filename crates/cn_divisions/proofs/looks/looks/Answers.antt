use Rattle.std.proofs.Common.{ℕ, List, ◌≡◌, ◌∙◌, ap, arith, length, subst, sym, Some, slice_get}
use Rattle.std.proofs.lemmas.Option.{slice_get-get_or}
use Rattle.cn_stocks.specs.Each.{EachAt}
use Rattle.cn_stocks.proofs.EachLemmas.{each_none, each_push}
use Rattle.cn_table.specs.TypeTable.{TypeTable}
use Rattle.cn_divisions.specs.Looks.{IsLook}
use Rattle.cn_divisions.specs.declared.looks.Look.{Look}
use Rattle.cn_meetings.specs.declared.sight.Sight.{Sight}
use Rattle.cn_divisions.proofs.looks.looks.Goals as goal

abbrev Fits : TypeTable → List Sight → ℕ → Look → Type 0
Fits t sights i look = (slice_get sights i ≡ Some look.sight) × IsLook t look

pub loop-place-init : goal.loop-place-init
loop-place-init c = each_none (Fits c.args.table.now c.args.sights.now) c.in_ok-looks.looks.items c.in_ok-looks.ensures.items

pub loop-place-preserved : goal.loop-place-preserved
loop-place-preserved c =
    let list = c.args.sights.now in
    let k = c.loop-place.place in
    each_push (Fits c.args.table.now list) c.loop-place.looks.items c.push.new.self.items c.look_by-look.result k c.in_ok-push.ensures.items c.loop-place.invariant
    (slice_get-get_or list k _ c.loop-place-test.true ∙ ap Some (sym c.look_by-look.ensures.sight), c.look_by-look.ensures.is)

pub returns : goal.returns
returns c =
    let end : c.loop-place.place ≡ length c.args.sights.now = omega (arith, c.loop-place-test.false, c.loop-place.auto.place-end) in
    subst (λ (k : ℕ). EachAt (Fits c.args.table.now c.args.sights.now) k c.loop-place.looks.items) end c.loop-place.invariant
