-- The events of a text: one a line. A line's words are parted by spaces, tabs or carriage returns, and `#` begins a comment.
use Rattle.std.specs.Prelude.{◌≡◌, ℕ, ◌-◌, ◌<◌, ◌==◌, ◌^◌, Bool, true, false, ◌||◌, List, [], ◌∷◌, ◌++◌, take, length, slice_get, slice_index_or, Option, None, Some, cond}
use Rattle.std.specs.Option.{option_map}
use Rattle.tftp_packet.specs.declared.endpoint.Endpoint.{Endpoint}
use Rattle.archive_client.specs.Client.{put, get}
use Rattle.archive_model.specs.World.{Event, begin, deliver, client_times_out, server_times_out, stray, restart, unknown_keep}
use Rattle.schedule_text.specs.declared.keyword.Verb.{Verb}
use Rattle.schedule_text.specs.declared.keyword.Verb.TheVariants.{Begin, Deliver, ClientTimeout, ServerTimeout, Stray, Restart, UnknownKeep}
use Rattle.schedule_text.specs.declared.keyword.OperationKind.{OperationKind}
use Rattle.schedule_text.specs.declared.keyword.OperationKind.TheVariants.{Put, Get}
use Rattle.schedule_text.specs.Words.{verb_in, word_count, kind_in, ruleset_in, found_in, number_in, endpoint_in, bytes_in}

-- ---- the lines of a text, and the words of a line

-- the parts between newlines, the first of which begins with `line`
abbrev pub lines_after : (line : List ℕ) → List ℕ → List (List ℕ)
lines_after line [] = line ∷ []
lines_after line (b ∷ bs) = cond (b == 10) (line ∷ lines_after [] bs) (lines_after (line ++ b ∷ []) bs)

abbrev pub lines_of : (text : List ℕ) → List (List ℕ)
lines_of text = lines_after [] text

-- a space, a tab or a carriage return
abbrev pub is_blank : ℕ → Bool
is_blank b = (b == 32) || (b == 9) || (b == 13)

-- a word, unless it is empty
abbrev pub filled : List ℕ → List (List ℕ)
filled [] = []
filled (b ∷ word) = (b ∷ word) ∷ []

-- the parts between blanks, up to a `#`; the first begins with `word`, and empty ones do not count
abbrev pub words_after : (word : List ℕ) → List ℕ → List (List ℕ)
words_after word [] = filled word
words_after word (b ∷ bs) =
    cond (b == 35) (filled word) (cond (is_blank b) (filled word ++ words_after [] bs) (words_after (word ++ b ∷ []) bs))

abbrev pub words_of : (line : List ℕ) → List (List ℕ)
words_of line = words_after [] line

-- ---- the event that words name

-- no bytes if there are fewer words
abbrev pub word_at : List (List ℕ) → (place : ℕ) → List ℕ
word_at words place = slice_index_or words place []

abbrev pub begin_of : Option OperationKind → Endpoint → (what : List ℕ) → Option Event
begin_of None client what = None
begin_of (Some Put) client what = option_map (λ file. begin client (put file)) (bytes_in what)
begin_of (Some Get) client what = option_map (λ rules. begin client (get rules)) (ruleset_in what)

abbrev pub begin_in : (kind : List ℕ) → Option Endpoint → (what : List ℕ) → Option Event
begin_in kind None what = None
begin_in kind (Some client) what = begin_of (kind_in kind) client what

abbrev pub deliver_of : (index spare : Option ℕ) → Option Event
deliver_of None spare = None
deliver_of (Some index) None = None
deliver_of (Some index) (Some spare) = Some (deliver index spare)

abbrev pub deliver_in : (index spare : List ℕ) → Option Event
deliver_in index spare = deliver_of (number_in (2 ^ 64 - 1) index) (number_in (2 ^ 16 - 1) spare)

abbrev pub client_timeout_in : Option Endpoint → Option Event
client_timeout_in client = option_map client_times_out client

abbrev pub server_timeout_in : (port : List ℕ) → Option Event
server_timeout_in port = option_map server_times_out (number_in (2 ^ 16 - 1) port)

abbrev pub stray_of : Endpoint → Endpoint → Option (List ℕ) → Option Event
stray_of from to None = None
stray_of from to (Some bytes) = Some (stray (record { source = from; target = to; bytes = bytes }))

abbrev pub stray_in : (from to : Option Endpoint) → (hex : List ℕ) → Option Event
stray_in None to hex = None
stray_in (Some from) None hex = None
stray_in (Some from) (Some to) hex = stray_of from to (bytes_in hex)

abbrev pub unknown_keep_of : (index : Option ℕ) → (found : Option Bool) → Option Event
unknown_keep_of None found = None
unknown_keep_of (Some index) found = option_map (unknown_keep index) found

abbrev pub unknown_keep_in : (index found : List ℕ) → Option Event
unknown_keep_in index found = unknown_keep_of (number_in (2 ^ 64 - 1) index) (found_in found)

abbrev pub event_with : Verb → List (List ℕ) → Option Event
event_with Begin words = begin_in (word_at words 1) (endpoint_in (word_at words 2) (word_at words 3)) (word_at words 4)
event_with Deliver words = deliver_in (word_at words 1) (word_at words 2)
event_with ClientTimeout words = client_timeout_in (endpoint_in (word_at words 1) (word_at words 2))
event_with ServerTimeout words = server_timeout_in (word_at words 1)
event_with Stray words =
    stray_in (endpoint_in (word_at words 1) (word_at words 2)) (endpoint_in (word_at words 3) (word_at words 4)) (word_at words 5)
event_with Restart words = Some restart
event_with UnknownKeep words = unknown_keep_in (word_at words 1) (word_at words 2)

abbrev pub event_by : Option Verb → List (List ℕ) → Option Event
event_by None words = None
event_by (Some verb) words = cond (length words == word_count verb) (event_with verb words) None

abbrev pub event_in : List (List ℕ) → Option Event
event_in words = event_by (verb_in (word_at words 0)) words

-- ---- the events of lines

-- a line without words has no event
abbrev pub events_by : List (List ℕ) → Option (List Event)
events_by [] = Some []
events_by (word ∷ words) = option_map (λ e. e ∷ []) (event_in (word ∷ words))

abbrev pub line_events : (line : List ℕ) → Option (List Event)
line_events line = events_by (words_of line)

abbrev pub both : Option (List Event) → Option (List Event) → Option (List Event)
both None rest = None
both (Some events) None = None
both (Some events) (Some rest) = Some (events ++ rest)

abbrev pub lines_events : List (List ℕ) → Option (List Event)
lines_events [] = Some []
lines_events (line ∷ lines) = both (line_events line) (lines_events lines)

abbrev pub schedule_of : (text : List ℕ) → Option (List Event)
schedule_of text = lines_events (lines_of text)

-- by whether the line was read: its events come after those before; or it has words that name no event
abbrev pub LineAdds : (line : List ℕ) → (old new : List Event) → Bool → Type 0
LineAdds line old new true = (added : List Event) × (line_events line ≡ Some added) × (new ≡ old ++ added)
LineAdds line old new false = line_events line ≡ None

-- all lines before the one with this number, counted from 1, are read, and that one is not
pub record IsFirstBadLine (text : List ℕ) (number : ℕ) : Type 0 where
  pub counted : 0 < number
  pub line : List ℕ
  pub there : slice_get (lines_of text) (number - 1) ≡ Some line
  pub before : List Event
  pub read : lines_events (take (number - 1) (lines_of text)) ≡ Some before
  pub bad : line_events line ≡ None
