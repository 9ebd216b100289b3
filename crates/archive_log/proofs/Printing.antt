-- A line of the log is printable ASCII alone.
use Rattle.std.proofs.Common.{◌≡◌, ℕ, zero, suc, ◌/◌, ◌%◌, ◌==◌, ◌&&◌, Bool, true, false, List, [], ◌∷◌, ◌++◌, Option, None, Some, refl, arith}
use Rattle.std.specs.Prelude.{codes, nat_le, slice_index, option_map, if◌then◌else◌}
use Rattle.std.specs.Fmt.{decimal, digits, digits_onto, digit_glyph}
use Rattle.std.specs.List.{All, AllByRecursion}
use Rattle.std.specs.Int.{w32, to_be_bytes}
use Rattle.std.specs.Net.Text.{dotted_text, ipv4_text}
use Rattle.std.proofs.lemmas.Bool.{and_parts, leb-true}
use Rattle.std.proofs.lemmas.Bool.Decides.{nat_tests}
use Rattle.std.proofs.lemmas.List.Elements.{All-from_recursion, recursion_from_All}
use Rattle.log.specs.declared.level.Level.{Level}
use Rattle.log.specs.declared.level.Level.TheVariants as level
use Rattle.log.specs.Kv.{Pair}
use Rattle.log.specs.Line.{header_text, pair_text, pairs_text}
use Rattle.tftp_packet.specs.declared.endpoint.Endpoint.{Endpoint}
use Rattle.tftp_packet.specs.Refusal.{refusal_text}
use Rattle.tws_file.specs.declared.«ruleset».Ruleset.{Ruleset}
use Rattle.tws_file.specs.declared.«ruleset».Ruleset.TheVariants.{Lynx, Ms}
use Rattle.tws_file.specs.declared.file_fault.FileFault.{FileFault}
use Rattle.tws_file.specs.declared.file_fault.FileFault.TheVariants as fault
use Rattle.archive_server.specs.declared.drop_cause.DropCause.{DropCause}
use Rattle.archive_server.specs.declared.drop_cause.DropCause.TheVariants.{ManyTransfers, LargeCollection, NotPutter}
use Rattle.archive_table.specs.declared.step_event.FailureCause.{FailureCause}
use Rattle.archive_table.specs.declared.step_event.FailureCause.TheVariants.{Refused, PeerError, TimedOut}
use Rattle.archive_history.specs.declared.history_fault.HistoryFault.{HistoryFault}
use Rattle.archive_history.specs.declared.history_fault.HistoryFault.TheVariants as history
use Rattle.archive_log.specs.declared.log_event.LogEvent.{LogEvent}
use Rattle.archive_log.specs.declared.log_event.LogEvent.TheVariants as event
use Rattle.byte_output.specs.Printable.{IsPrintable, shown, shown_byte}
use Rattle.tws_file.specs.Words.{ruleset_name}
use Rattle.archive_history.specs.HistoryFault.{history_fault_text}
use Rattle.archive_log.specs.Lines.{peer_text, ruleset_text, fault_text, cause_text, drop_text, message_of, level_of, folder_pairs, pairs_of, timed_pairs, line_of, lost_text}

-- ---- texts

-- each byte of a text, by recursion
abbrev Plain : List ℕ → Type 0
Plain text = AllByRecursion IsPrintable text

join : (xs ys : List ℕ) → Plain xs → Plain ys → Plain (xs ++ ys)
join [] ys first second = second
join (x ∷ xs) ys first second = (first.0, join xs ys first.1 second)

-- a word of the program's own, by a computation
abbrev is_plain : List ℕ → Bool
is_plain [] = true
is_plain (b ∷ bs) = (nat_le 32 b && nat_le b 126) && is_plain bs

word : (text : List ℕ) → is_plain text ≡ true → Plain text
word [] is = tt
word (b ∷ bs) is =
    let both = and_parts (nat_le 32 b && nat_le b 126) (is_plain bs) is in
    let bounds = and_parts (nat_le 32 b) (nat_le b 126) both.0 in
    ((leb-true 32 b bounds.0, leb-true b 126 bounds.1), word bs both.1)

-- ---- numbers

digit_plain : (n : ℕ) → IsPrintable (digit_glyph false (n % 10))
digit_plain n = grind (arith, nat_tests)

digits_plain : (k n : ℕ) (acc : List ℕ) → Plain acc → Plain (digits_onto k 10 false n acc)
digits_plain zero n acc plain = plain
digits_plain (suc k) n acc plain = by (n / 10 == 0) (digits_plain k (n / 10) (digit_glyph false (n % 10) ∷ acc) (digit_plain n, plain))
  where
    by : (last : Bool) → Plain (digits_onto k 10 false (n / 10) (digit_glyph false (n % 10) ∷ acc)) →
        Plain (if last then digit_glyph false (n % 10) ∷ acc else digits_onto k 10 false (n / 10) (digit_glyph false (n % 10) ∷ acc))
    by true more = (digit_plain n, plain)
    by false more = more

number_plain : (n : ℕ) → Plain (decimal n)
unfolding digits
number_plain n = digits_plain 64 n [] tt

-- ---- values

dotted_plain : (a b c d : ℕ) → Plain (dotted_text a b c d)
dotted_plain a b c d =
    let dot = word (codes ".") refl in
    let two = join (decimal a ++ codes ".") (decimal b) (join (decimal a) (codes ".") (number_plain a) dot) (number_plain b) in
    let three =
    join (decimal a ++ codes "." ++ decimal b ++ codes ".") (decimal c)
    (join (decimal a ++ codes "." ++ decimal b) (codes ".") two dot) (number_plain c) in
    join (decimal a ++ codes "." ++ decimal b ++ codes "." ++ decimal c ++ codes ".") (decimal d)
    (join (decimal a ++ codes "." ++ decimal b ++ codes "." ++ decimal c) (codes ".") three dot) (number_plain d)

peer_plain : (e : Endpoint) → Plain (peer_text e)
peer_plain e =
    let o = to_be_bytes w32 e.host in
    let host = dotted_plain (slice_index o 0) (slice_index o 1) (slice_index o 2) (slice_index o 3) in
    join (ipv4_text o ++ codes ":") (decimal e.port) (join (ipv4_text o) (codes ":") host (word (codes ":") refl)) (number_plain e.port)

name_plain : (rules : Ruleset) → Plain (ruleset_name rules)
name_plain Lynx = word (codes "lynx") refl
name_plain Ms = word (codes "ms") refl

ruleset_plain : (rules : Option Ruleset) → Plain (ruleset_text rules)
ruleset_plain None = word (codes "none") refl
ruleset_plain (Some rules) = name_plain rules

fault_plain : (e : Option FileFault) → Plain (fault_text e)
fault_plain None = word (codes "none") refl
fault_plain (Some (fault.ShortHeader n)) = word (codes "ShortHeader") refl
fault_plain (Some fault.BadSignature) = word (codes "BadSignature") refl
fault_plain (Some (fault.BadRuleset n)) = word (codes "BadRuleset") refl
fault_plain (Some (fault.ShortRecord n)) = word (codes "ShortRecord") refl
fault_plain (Some (fault.BadSize n)) = word (codes "BadSize") refl
fault_plain (Some (fault.MoveCut n)) = word (codes "MoveCut") refl
fault_plain (Some fault.Memory) = word (codes "Memory") refl

-- any text that is shown through the filter
byte_plain : (b : ℕ) → IsPrintable (shown_byte b)
byte_plain b = grind (arith, nat_tests)

shown_plain : (text : List ℕ) → Plain (shown text)
shown_plain [] = tt
shown_plain (b ∷ bs) = (byte_plain b, shown_plain bs)

cause_plain : (why : FailureCause) → Plain (cause_text why)
cause_plain (Refused why) = shown_plain (refusal_text why)
cause_plain PeerError = word (codes "error from the peer") refl
cause_plain TimedOut = word (codes "timed out") refl

history_fault_plain : (e : HistoryFault) → Plain (history_fault_text e)
history_fault_plain history.Day = word (codes "no folder for the day") refl
history_fault_plain history.NoFreeName = word (codes "no free name") refl
history_fault_plain history.LookUp = word (codes "not looked up") refl
history_fault_plain history.Create = word (codes "not created") refl
history_fault_plain history.Write = word (codes "not written") refl
history_fault_plain history.Sync = word (codes "not synced") refl
history_fault_plain history.Rename = word (codes "not renamed") refl
history_fault_plain history.SyncFolder = word (codes "folder not synced") refl
history_fault_plain history.Memory = word (codes "out of memory") refl

lost_plain : (why : HistoryFault) (cause : Option (List ℕ)) → Plain (lost_text why cause)
lost_plain why None = history_fault_plain why
lost_plain why (Some cause) = join (history_fault_text why) (codes ": " ++ shown cause) (history_fault_plain why) (join (codes ": ") (shown cause) (word (codes ": ") refl) (shown_plain cause))

-- ---- pairs

abbrev PlainPairs : List Pair → Type 0
PlainPairs [] = Unit {0}
PlainPairs (p ∷ ps) = (Plain p.0 × Plain p.1) × PlainPairs ps

pair_plain : (key value : List ℕ) → Plain key → Plain value → Plain (codes " " ++ pair_text (key, value))
pair_plain key value first second =
    let begun = join key (codes "=") first (word (codes "=") refl) in
    join (codes " ") (pair_text (key, value)) (word (codes " ") refl) (join (key ++ codes "=") value begun second)

pairs_plain : (ps : List Pair) → PlainPairs ps → Plain (pairs_text ps)
pairs_plain [] plain = tt
pairs_plain ((key, value) ∷ ps) plain =
    join (codes " " ++ pair_text (key, value)) (pairs_text ps) (pair_plain key value plain.0.0 plain.0.1) (pairs_plain ps plain.1)

peer_key : (e : Endpoint) → Plain (codes "peer") × Plain (peer_text e)
peer_key e = (word (codes "peer") refl, peer_plain e)

number_key : (key : List ℕ) → is_plain key ≡ true → (n : ℕ) → Plain key × Plain (decimal n)
number_key key is n = (word key is, number_plain n)

rules_key : (rules : Ruleset) → Plain (codes "ruleset") × Plain (ruleset_name rules)
rules_key rules = (word (codes "ruleset") refl, name_plain rules)

cause_key : (why : FailureCause) → Plain (codes "why") × Plain (cause_text why)
cause_key why = (word (codes "why") refl, cause_plain why)

drop_plain : (why : DropCause) → Plain (drop_text why)
drop_plain ManyTransfers = word (codes "too many transfers of its host") refl
drop_plain LargeCollection = word (codes "too many transfers of so large a collection") refl
drop_plain NotPutter = word (codes "not allowed to put") refl

folder_plain : (folder : Option (List ℕ)) → PlainPairs (folder_pairs folder)
folder_plain None = tt
folder_plain (Some text) = ((word (codes "folder") refl, shown_plain text), tt)

event_plain : (e : LogEvent) → PlainPairs (pairs_of e)
event_plain (event.Started at lynx ms folder) =
    ((word (codes "at") refl, peer_plain at), (number_key (codes "lynx") refl lynx, (number_key (codes "ms") refl ms, folder_plain (option_map (λ f. f.now) folder))))
event_plain (event.Refused peer why) = (peer_key peer, ((word (codes "why") refl, shown_plain (refusal_text why)), tt))
event_plain (event.Dropped peer why) = (peer_key peer, ((word (codes "why") refl, drop_plain why), tt))
event_plain (event.LeftOut count) = (number_key (codes "count") refl count, tt)
event_plain (event.Taken upload millis) = (
  peer_key upload.peer,
  (
    number_key (codes "bytes") refl upload.bytes,
    (
      (word (codes "ruleset") refl, ruleset_plain upload.«ruleset»),
      (
        (word (codes "fault") refl, fault_plain upload.fault),
        (number_key (codes "better") refl upload.better, (number_key (codes "millis") refl millis, tt)),
      ),
    ),
  ),
)
event_plain (event.PutFailed peer block why) = (peer_key peer, (number_key (codes "block") refl block, (cause_key why, tt)))
event_plain (event.GetFailed peer rules block why) =
    (peer_key peer, (rules_key rules, (number_key (codes "block") refl block, (cause_key why, tt))))
event_plain (event.GetFinished peer rules bytes millis) =
    (peer_key peer, (rules_key rules, (number_key (codes "bytes") refl bytes, (number_key (codes "millis") refl millis, tt))))
event_plain (event.KeepFailed rules bytes why) =
    (rules_key rules, (number_key (codes "bytes") refl bytes, ((word (codes "why") refl, shown_plain why.now), tt)))
event_plain (event.AlreadyRecorded peer) = (peer_key peer, tt)
event_plain (event.NotRecorded peer why cause) = (peer_key peer, ((word (codes "why") refl, lost_plain why (option_map (λ c. c.now) cause)), tt))
event_plain (event.Stopped taken served) = (number_key (codes "taken") refl taken, (number_key (codes "served") refl served, tt))

-- ---- the line

header_plain : (l : Level) → Plain (header_text l (codes "tws"))
header_plain level.Error = word (header_text level.Error (codes "tws")) refl
header_plain level.Warn = word (header_text level.Warn (codes "tws")) refl
header_plain level.Info = word (header_text level.Info (codes "tws")) refl
header_plain level.Debug = word (header_text level.Debug (codes "tws")) refl
header_plain level.Trace = word (header_text level.Trace (codes "tws")) refl

message_plain : (e : LogEvent) → Plain (message_of e)
message_plain (event.Started at lynx ms folder) = word (codes "started") refl
message_plain (event.Refused peer why) = word (codes "request refused") refl
message_plain (event.Dropped peer why) = word (codes "request dropped") refl
message_plain (event.LeftOut count) = word (codes "request lines left out") refl
message_plain (event.Taken upload millis) = word (codes "put taken") refl
message_plain (event.PutFailed peer block why) = word (codes "put failed") refl
message_plain (event.GetFailed peer rules block why) = word (codes "get failed") refl
message_plain (event.GetFinished peer rules bytes millis) = word (codes "get finished") refl
message_plain (event.KeepFailed rules bytes why) = word (codes "keep failed") refl
message_plain (event.AlreadyRecorded peer) = word (codes "already recorded") refl
message_plain (event.NotRecorded peer why cause) = word (codes "not recorded") refl
message_plain (event.Stopped taken served) = word (codes "stopped") refl

pub line_printable : (time : List ℕ) (e : LogEvent) → All IsPrintable time → All IsPrintable (line_of time e)
line_printable time e plain =
    let header = header_text (level_of e) (codes "tws") in
    let pairs = pairs_plain (timed_pairs time e) ((word (codes "time") refl, recursion_from_All IsPrintable time plain), event_plain e) in
    All-from_recursion IsPrintable (line_of time e)
    (join (header ++ message_of e) (pairs_text (timed_pairs time e)) (join header (message_of e) (header_plain (level_of e)) (message_plain e)) pairs)
