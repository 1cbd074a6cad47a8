use Rattle.std.proofs.Common.{◌∙◌, List, [], ◌∷◌, Some, ap, arith, length, length-append, map, sym}
use Rattle.std.proofs.lemmas.List.{length-map}
use Rattle.cn_table.specs.Draft.{all_some}
use Rattle.cn_table.proofs.Lists.{with_front}
use Rattle.cn_log.specs.declared.event.Event.{Event}
use Rattle.cn_io.specs.Arguments.Events.{event_of, word_of}
use Rattle.cn_io.specs.declared.arguments.events.EventWord.{EventWord}
use Rattle.cn_io.proofs.ArgumentLemmas.ShortEvents.{all_spelled, next_event, one_piece_more, pieces, words_more}
use Rattle.cn_io.proofs.arguments.short.read_short.Goals as goal

pub loop-event-preserved : goal.loop-event-preserved
loop-event-preserved c =
    let front : List Event = c.loop-event.events.items in
    let list : List _ = c.loop-event.rest.now in
    let behind : List _ = c.in-Some.behind.now in
    let first = c.in-Some.ensures in
    record {
      spelled = ap (λ (es : List EventWord). with_front es (all_some (map event_of (pieces behind)))) (words_more front _ c.in-Some.event c.in_ok-push.ensures.items)
          ∙ sym (next_event (map word_of front) list first.0 behind (word_of c.in-Some.event) first.1 first.2 first.3) ∙ c.loop-event.invariant.spelled;
      many = omega (
        arith,
        ap length c.in_ok-push.ensures.items,
        length-append front (c.in-Some.event ∷ []),
        one_piece_more list first.0 behind first.1 first.3,
        c.loop-event.invariant.many,
      );
    }

pub returns : goal.returns
returns c =
    let front : List Event = c.loop-event.events.items in
    all_spelled c.args.most c.args.list.now c.loop-event.rest.now (map word_of front) (word_of c.in-Some-short_event.last) c.loop-event.invariant.spelled
    (omega (arith, length-map front word_of, c.loop-event.invariant.many))
    (omega (arith, length-map front word_of, c.if-len-most.false, c.len.ensures, c.loop-event.events.ok.0)) c.in-Some-short_event.ensures.event c.in-Some-short_event.ensures.one
    ∙ ap Some (sym (words_more front _ c.in-Some-short_event.last c.in_ok-push-2.ensures.items))
