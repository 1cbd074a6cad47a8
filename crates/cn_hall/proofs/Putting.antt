-- The cases of a push of the rule.
use Rattle.std.proofs.Common.{◌≡◌, [], ◌∷◌, length, Some, None, sym, ap, ◌∙◌, length-append, arith}
use Rattle.cn_log.specs.Opening.{Log}
use Rattle.cn_hall.specs.declared.rule.Item.{Item}
use Rattle.cn_hall.specs.declared.rule.PassStatus.TheVariants.{First, Live}
use Rattle.cn_hall.specs.declared.rule.View.{View}
use Rattle.cn_hall.specs.Rule.{item_of, first_view, bare_view, later_view, opened_view, seated_view, IsOneEventLater, IsOneSeatMore, MayPut, FirstPut, AsItWas, OneEvent, OneSeat}

not_first : (v : View) → v.status ≡ Live → v ≡ first_view → ⊥
not_first v live is = let e : First ≡ Live = sym (ap (λ (u : View). u.status) is) ∙ live in cc

-- a core is not one event later than itself
not_later : (v : View) (x : Item) → v.held ≡ Some x → IsOneEventLater v x → ⊥
not_later v x held one =
    let e : Some x ≡ Some (item_of one.before x.seated) = sym held ∙ one.held in
    let same : x ≡ item_of one.before x.seated = cc in
    let long = ap (λ (l : Log). length l.schedule) (sym one.core ∙ ap (λ (y : Item). y.core) same) in
    omega (arith, long, length-append one.before.schedule (one.event ∷ []))

not_more : (v : View) (x : Item) → v.held ≡ Some x → IsOneSeatMore v x → ⊥
not_more v x held one =
    let e : Some x ≡ Some one.before = sym held ∙ one.held in
    let same : x ≡ one.before = cc in
    let number = ap (λ (y : Item). y.seated) (sym same ∙ one.is) in
    omega (arith, number)

-- nor is the count one higher if an event was added
not_both : (v : View) (x : Item) → IsOneEventLater v x → IsOneSeatMore v x → ⊥
not_both v x one more =
    let e : Some more.before ≡ Some (item_of one.before x.seated) = sym more.held ∙ one.held in
    let same : more.before ≡ item_of one.before x.seated = cc in
    let a = ap (λ (y : Item). y.seated) same in
    let b = ap (λ (y : Item). y.seated) more.is in
    omega (arith, a, b)

pub as_it_was : (v : View) (x : Item) (w : View) → v.status ≡ Live → v.held ≡ Some x → MayPut v x w → w ≡ bare_view v
as_it_was v x w live held (FirstPut first one is) = absurd (not_first v live first)
as_it_was v x w live held (AsItWas same is) = is
as_it_was v x w live held (OneEvent one is) = absurd (not_later v x held one)
as_it_was v x w live held (OneSeat more is) = absurd (not_more v x held more)

pub one_event : (v : View) (x : Item) (w : View) → v.status ≡ Live → IsOneEventLater v x → MayPut v x w → w ≡ later_view v x
one_event v x w live one (FirstPut first seated is) = absurd (not_first v live first)
one_event v x w live one (AsItWas same is) = absurd (not_later v x same one)
one_event v x w live one (OneEvent again is) = is
one_event v x w live one (OneSeat more is) = absurd (not_both v x one more)

pub one_seat : (v : View) (x : Item) (w : View) → v.status ≡ Live → IsOneSeatMore v x → MayPut v x w → w ≡ seated_view v x
one_seat v x w live more (FirstPut first one is) = absurd (not_first v live first)
one_seat v x w live more (AsItWas same is) = absurd (not_more v x same more)
one_seat v x w live more (OneEvent one is) = absurd (not_both v x one more)
one_seat v x w live more (OneSeat again is) = is

-- the first pass holds no core
holds_none : (v : View) (x : Item) → v ≡ first_view → v.held ≡ Some x → ⊥
holds_none v x first held = let e : Some x ≡ None = sym held ∙ ap (λ (u : View). u.held) first in cc

pub the_first : (v : View) (x : Item) (w : View) → v ≡ first_view → MayPut v x w → w ≡ opened_view x
the_first v x w first (FirstPut again one is) = is
the_first v x w first (AsItWas same is) = absurd (holds_none v x first same)
the_first v x w first (OneEvent one is) = absurd (holds_none v (item_of one.before x.seated) first one.held)
the_first v x w first (OneSeat more is) = absurd (holds_none v more.before first more.held)
