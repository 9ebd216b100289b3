-- Each event is read back from its words, and each list of events from its text.
use Rattle.std.proofs.Common.{◌≡◌, ℕ, ◌-◌, ◌^◌, ◌<◌, Bool, true, false, List, [], ◌∷◌, refl, ap, ◌∙◌, arith, rules, Option, Some, decimal, codes}
use Rattle.std.specs.Option.{option_map}
use Rattle.tftp_packet.specs.declared.endpoint.Endpoint.{Endpoint}
use Rattle.tws_file.specs.declared.«ruleset».Ruleset.{Ruleset}
use Rattle.tws_file.specs.declared.«ruleset».Ruleset.TheVariants.{Lynx, Ms}
use Rattle.tws_file.specs.Words.{ruleset_name}
use Rattle.archive_client.specs.Client.{put, get}
use Rattle.archive_model.specs.World.{Event, begin, deliver, client_times_out, server_times_out, stray, restart, unknown_keep}
use Rattle.schedule_text.specs.Words.{number_in, endpoint_at, endpoint_in, ruleset_in, found_word, found_in}
use Rattle.schedule_text.specs.Schedule.{event_in, begin_in, deliver_of, stray_in, stray_of, unknown_keep_of, events_by, both, line_events, lines_events, schedule_of}
use Rattle.schedule_text.specs.Spelling.{FitsEndpoint, Fits, AllFit, bytes_word, event_words, event_text, schedule_text}
use Rattle.schedule_text.proofs.Plain.{IsWord, AreWords, words_of-spelled, lines_of-spelled}
use Rattle.schedule_text.proofs.Numerals.{number_in-decimal, decimal_is_word, bytes_are_word, bytes_in-word}

port_read : (port : ℕ) → port < 2 ^ 16 → number_in (2 ^ 16 - 1) (decimal port) ≡ Some port
port_read port small = number_in-decimal (2 ^ 16 - 1) port (omega arith) (omega arith)

endpoint_read : (e : Endpoint) → FitsEndpoint e → endpoint_in (decimal e.host) (decimal e.port) ≡ Some e
endpoint_read e fits =
    ap (λ (h : Option ℕ). endpoint_at h (number_in (2 ^ 16 - 1) (decimal e.port))) (number_in-decimal (2 ^ 32 - 1) e.host (omega arith) (omega arith))
    ∙ ap (endpoint_at (Some e.host)) (port_read e.port fits.1)

ruleset_read : (r : Ruleset) → ruleset_in (ruleset_name r) ≡ Some r
ruleset_read Lynx = refl
ruleset_read Ms = refl

found_read : (found : Bool) → found_in (found_word found) ≡ Some found
found_read true = refl
found_read false = refl

words_read : (e : Event) → Fits e → event_in (event_words e) ≡ Some e
words_read (begin client (put file)) fits =
    ap (λ (c : Option Endpoint). begin_in (codes "put") c (bytes_word file)) (endpoint_read client fits.0)
    ∙ ap (option_map (λ (f : List ℕ). begin client (put f))) (bytes_in-word file fits.1)
words_read (begin client (get r)) fits =
    ap (λ (c : Option Endpoint). begin_in (codes "get") c (ruleset_name r)) (endpoint_read client fits)
    ∙ ap (option_map (λ (s : Ruleset). begin client (get s))) (ruleset_read r)
words_read (deliver index spare) fits =
    ap (λ (i : Option ℕ). deliver_of i (number_in (2 ^ 16 - 1) (decimal spare))) (number_in-decimal (2 ^ 64 - 1) index (omega arith) fits.0)
    ∙ ap (deliver_of (Some index)) (port_read spare fits.1)
words_read (client_times_out client) fits = ap (option_map client_times_out) (endpoint_read client fits)
words_read (server_times_out port) fits = ap (option_map server_times_out) (port_read port fits)
words_read (stray d) fits =
    ap (λ (s : Option Endpoint). stray_in s (endpoint_in (decimal d.target.host) (decimal d.target.port)) (bytes_word d.bytes)) (endpoint_read d.source fits.0)
    ∙ ap (λ (t : Option Endpoint). stray_in (Some d.source) t (bytes_word d.bytes)) (endpoint_read d.target fits.1)
    ∙ ap (stray_of d.source d.target) (bytes_in-word d.bytes fits.2)
words_read restart fits = refl
words_read (unknown_keep index found) fits =
    ap (λ (i : Option ℕ). unknown_keep_of i (found_in (found_word found))) (number_in-decimal (2 ^ 64 - 1) index (omega arith) fits)
    ∙ ap (option_map (unknown_keep index)) (found_read found)

ruleset_is_word : (r : Ruleset) → IsWord (ruleset_name r)
ruleset_is_word Lynx = search rules
ruleset_is_word Ms = search rules

found_is_word : (found : Bool) → IsWord (found_word found)
found_is_word true = search rules
found_is_word false = search rules

endpoint_is_words : (e : Endpoint) (words : List (List ℕ)) → FitsEndpoint e → AreWords words → AreWords (decimal e.host ∷ decimal e.port ∷ words)
endpoint_is_words e words fits plain = (decimal_is_word e.host (omega arith), (decimal_is_word e.port (omega arith), plain))

are_words : (e : Event) → Fits e → AreWords (event_words e)
are_words (begin client (put file)) fits =
    (search rules, (search rules, endpoint_is_words client (bytes_word file ∷ []) fits.0 (bytes_are_word file, tt)))
are_words (begin client (get r)) fits =
    (search rules, (search rules, endpoint_is_words client (ruleset_name r ∷ []) fits (ruleset_is_word r, tt)))
are_words (deliver index spare) fits = (search rules, (decimal_is_word index fits.0, (decimal_is_word spare (omega arith), tt)))
are_words (client_times_out client) fits = (search rules, endpoint_is_words client [] fits tt)
are_words (server_times_out port) fits = (search rules, (decimal_is_word port (omega arith), tt))
are_words (stray d) fits = (
  search rules,
  endpoint_is_words d.source (decimal d.target.host ∷ decimal d.target.port ∷ bytes_word d.bytes ∷ []) fits.0
      (endpoint_is_words d.target (bytes_word d.bytes ∷ []) fits.1 (bytes_are_word d.bytes, tt)),
)
are_words restart fits = (search rules, tt)
are_words (unknown_keep index found) fits = (search rules, (decimal_is_word index fits, (found_is_word found, tt)))

-- words that name an event are not none
events_by-named : (words : List (List ℕ)) (e : Event) → event_in words ≡ Some e → events_by words ≡ Some (e ∷ [])
events_by-named [] e named = cc
events_by-named (w ∷ ws) e named = ap (option_map (λ (f : Event). f ∷ [])) named

pub event_read_back : (e : Event) → Fits e → line_events (event_text e) ≡ Some (e ∷ [])
event_read_back e fits =
    ap events_by (words_of-spelled (event_words e) (are_words e fits)) ∙ events_by-named (event_words e) e (words_read e fits)

pub schedule_read_back : (events : List Event) → AllFit events → schedule_of (schedule_text events) ≡ Some events
schedule_read_back [] fit = refl
schedule_read_back (e ∷ events) fit =
    ap lines_events (lines_of-spelled (event_words e) (schedule_text events) (are_words e fit.0))
    ∙ ap (λ (first : Option (List Event)). both first (schedule_of (schedule_text events))) (event_read_back e fit.0)
    ∙ ap (both (Some (e ∷ []))) (schedule_read_back events fit.1)
