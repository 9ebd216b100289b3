-- What a word of a line may be: a keyword, a number, or bytes; and the endpoint that two of them are.
use Rattle.std.specs.Prelude.{ℕ, ◌+◌, ◌-◌, ◌*◌, ◌^◌, nat_le, Bool, true, false, ◌&&◌, List, [], ◌∷◌, codes, Option, None, Some, cond}
use Rattle.std.specs.Result.{result_ok}
use Rattle.std.specs.Str.{bytes_eq}
use Rattle.hex.specs.Hex.{decode_of}
use Rattle.tftp_packet.specs.declared.endpoint.Endpoint.{Endpoint}
use Rattle.tws_file.specs.declared.«ruleset».Ruleset.{Ruleset}
use Rattle.tws_file.specs.declared.«ruleset».Ruleset.TheVariants.{Lynx, Ms}
use Rattle.tws_file.specs.Words.{ruleset_name}
use Rattle.schedule_text.specs.declared.keyword.Verb.{Verb}
use Rattle.schedule_text.specs.declared.keyword.Verb.TheVariants.{Begin, Deliver, ClientTimeout, ServerTimeout, Stray, Restart, UnknownKeep}
use Rattle.schedule_text.specs.declared.keyword.OperationKind.{OperationKind}
use Rattle.schedule_text.specs.declared.keyword.OperationKind.TheVariants.{Put, Get}

-- ---- keywords

-- the first word of a line
abbrev pub verb_word : Verb → List ℕ
verb_word Begin = codes "begin"
verb_word Deliver = codes "deliver"
verb_word ClientTimeout = codes "client-timeout"
verb_word ServerTimeout = codes "server-timeout"
verb_word Stray = codes "stray"
verb_word Restart = codes "restart"
verb_word UnknownKeep = codes "unknown-keep"

-- how many words its line has
abbrev pub word_count : Verb → ℕ
word_count Begin = 5
word_count Deliver = 3
word_count ClientTimeout = 3
word_count ServerTimeout = 2
word_count Stray = 6
word_count Restart = 1
word_count UnknownKeep = 3

abbrev pub verb_in : (word : List ℕ) → Option Verb
verb_in word =
    cond (bytes_eq word (verb_word Begin)) (Some Begin)
    (cond (bytes_eq word (verb_word Deliver)) (Some Deliver)
    (cond (bytes_eq word (verb_word ClientTimeout)) (Some ClientTimeout)
    (cond (bytes_eq word (verb_word ServerTimeout)) (Some ServerTimeout)
    (cond (bytes_eq word (verb_word Stray)) (Some Stray)
    (cond (bytes_eq word (verb_word Restart)) (Some Restart)
    (cond (bytes_eq word (verb_word UnknownKeep)) (Some UnknownKeep) None))))))

abbrev pub kind_word : OperationKind → List ℕ
kind_word Put = codes "put"
kind_word Get = codes "get"

abbrev pub kind_in : (word : List ℕ) → Option OperationKind
kind_in word = cond (bytes_eq word (kind_word Put)) (Some Put) (cond (bytes_eq word (kind_word Get)) (Some Get) None)

abbrev pub ruleset_in : (word : List ℕ) → Option Ruleset
ruleset_in word =
    cond (bytes_eq word (ruleset_name Lynx)) (Some Lynx) (cond (bytes_eq word (ruleset_name Ms)) (Some Ms) None)

-- whether the next start finds a collection
abbrev pub found_word : (found : Bool) → List ℕ
found_word true = codes "found"
found_word false = codes "lost"

abbrev pub found_in : (word : List ℕ) → Option Bool
found_in word = cond (bytes_eq word (found_word true)) (Some true) (cond (bytes_eq word (found_word false)) (Some false) None)

-- ---- numbers

-- the value of a decimal digit
abbrev pub digit_in : (byte : ℕ) → Option ℕ
digit_in byte = cond (nat_le 48 byte && nat_le byte 57) (Some (byte - 48)) None

-- one more digit after n, and then the rest of the number
abbrev pub digit_after : (most n : ℕ) → Option ℕ → (rest : ℕ → Option ℕ) → Option ℕ
digit_after most n None rest = None
digit_after most n (Some digit) rest = cond (nat_le (n * 10 + digit) most) (rest (n * 10 + digit)) None

-- the number that n and these decimal digits write, if it is at most `most`
abbrev pub number_after : (most n : ℕ) → List ℕ → Option ℕ
number_after most n [] = Some n
number_after most n (byte ∷ bytes) = digit_after most n (digit_in byte) (λ m. number_after most m bytes)

-- the number that is written in decimal digits alone, if it is at most `most`
abbrev pub number_in : (most : ℕ) → (word : List ℕ) → Option ℕ
number_in most [] = None
number_in most (byte ∷ bytes) = number_after most 0 (byte ∷ bytes)

-- ---- endpoints and bytes

abbrev pub endpoint_at : (host port : Option ℕ) → Option Endpoint
endpoint_at None port = None
endpoint_at (Some host) None = None
endpoint_at (Some host) (Some port) = Some (record { host = host; port = port })

-- a host below 2^32, and a port below 2^16
abbrev pub endpoint_in : (host port : List ℕ) → Option Endpoint
endpoint_in host port = endpoint_at (number_in (2 ^ 32 - 1) host) (number_in (2 ^ 16 - 1) port)

-- the word for no bytes
abbrev pub no_bytes : List ℕ
no_bytes = codes "-"

-- bytes as pairs of hexadecimal digits
abbrev pub bytes_in : (word : List ℕ) → Option (List ℕ)
bytes_in word = cond (bytes_eq word no_bytes) (Some []) (result_ok (decode_of word))
