use Rattle.std.proofs.Common.{sym, ap, ◌∙◌, map, ◌∷◌, []}
use Rattle.std.specs.Option.{option_map}
use Rattle.std.proofs.lemmas.List.{map_push}
use Rattle.archive_world.specs.View.{event_of, events_of}
use Rattle.schedule_text.proofs.Gathering.{event_read}
use Rattle.schedule_text.proofs.reading.add_line.Goals as goal

pub returns-in-Some : goal.returns-in-Some
returns-in-Some c =
    let named = sym c.in_ok-event.ensures ∙ ap (option_map event_of) c.in-Some.is in
    let words = ap (map (λ w. w.items)) c.deref.ensures.value ∙ c.in_ok-words.ensures in (
      event_of c.in-Some.event ∷ [],
      event_read c.args.line.now (map (λ w. w.items) c.deref.result.now) (event_of c.in-Some.event) words named,
      ap events_of c.in_ok-push-in-Some.ensures.items ∙ map_push event_of c.args.events.now.items c.in-Some.event,
    )
