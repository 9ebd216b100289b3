-- What a sync of two archives does, once it is known where they are: it fetches, for lynx and then for ms, both collections;
-- and unless it is refused it puts what is better, and says so.
use Rattle.std.specs.Prelude.{◌≡◌, ℕ, ◌==◌, nat_lt, Bool, true, false, not, ◌&&◌, ◌||◌, if◌then◌else◌, List, ◌∷◌, [], ◌++◌, Option, None, Some, Result, Ok, Err, codes}
use Rattle.std.specs.Io.KnownBytes.{Appends}
use Rattle.tws_file.specs.declared.«ruleset».Ruleset.{Ruleset}
use Rattle.tws_file.specs.declared.«ruleset».Ruleset.TheVariants.{Lynx, Ms}
use Rattle.tftp_packet.specs.declared.endpoint.Endpoint.{Endpoint}
use Rattle.archive_wire.specs.Wire.{Entry}
use Rattle.archive_runs.specs.declared.run_fault.RunFault.{RunFault}
use Rattle.tws_compare.specs.declared.counts.Counts.{Counts}
use Rattle.archive_sync.specs.declared.news_fault.NewsFault.{NewsFault}
use Rattle.archive_sync.specs.declared.news_fault.NewsFault.TheVariants as news
use Rattle.archive_sync.specs.declared.sync_fault.SyncFault.{SyncFault}
use Rattle.archive_sync.specs.declared.sync_fault.SyncFault.TheVariants.{From, To, News}
use Rattle.archive_sync.specs.News.{Told}
use Rattle.archive_sync.specs.Fetching.{FetchesNews, PutsPart, SyncFails}
use Rattle.command_line.specs.declared.tool_fault.ToolFault.{ToolFault}
use Rattle.command_line.specs.Faults.{answer_status, input_fault, status_of}
use Rattle.archive_commands.specs.declared.limits.TheConstants.{ROUNDS}
use Rattle.archive_commands.specs.Faults.{run_fault}
use Rattle.archive_arguments.specs.Lines.{LineFails, number_line}

-- ---- the lines

-- what stands before the number of bytes that were put
abbrev pub sent_words : Ruleset → (back : Bool) → List ℕ
sent_words Lynx false = codes "lynx sent "
sent_words Lynx true = codes "lynx back sent "
sent_words Ms false = codes "ms sent "
sent_words Ms true = codes "ms back sent "

-- that nothing was
abbrev pub nothing_words : Ruleset → (back : Bool) → List ℕ
nothing_words Lynx false = codes "lynx nothing better"
nothing_words Lynx true = codes "lynx back nothing better"
nothing_words Ms false = codes "ms nothing better"
nothing_words Ms true = codes "ms back nothing better"

-- a line for what was put, if anything was
abbrev pub part_line : Ruleset → (back : Bool) → Option ℕ → List ℕ
part_line rules back (Some len) = number_line (sent_words rules back) len (codes " bytes")
part_line rules back None = nothing_words rules back ++ 10 ∷ []

-- ---- the statuses

-- of a fault of two texts
abbrev pub news_status : NewsFault → ℕ
news_status (news.First fault) = status_of (input_fault 0 fault)
news_status (news.Second fault) = status_of (input_fault 0 fault)
news_status news.Rulesets = 3
news_status news.Memory = 2

-- of what was not fetched, or cannot be compared
abbrev pub sync_status : SyncFault → ℕ
sync_status (From fault) = status_of (run_fault fault)
sync_status (To fault) = status_of (run_fault fault)
sync_status (News fault) = news_status fault

abbrev pub fetch_status : {T : Type 0} → Result T SyncFault → ℕ
fetch_status (Ok told) = 0
fetch_status (Err fault) = sync_status fault

-- that of the first fault
abbrev pub first_of : (status next : ℕ) → ℕ
first_of status next = if status == 0 then next else status

-- ---- what is refused

-- a level is in both collections
abbrev pub has_shared : Counts → Bool
has_shared c = nat_lt 0 c.mine_better || nat_lt 0 c.theirs_better || nat_lt 0 c.equal || nat_lt 0 c.tied

-- what was fetched of the two rulesets has solutions on both sides, and no level in common
abbrev pub are_apart : (lynx ms : Counts) → Bool
are_apart lynx ms =
    not (has_shared lynx || has_shared ms) && (nat_lt 0 lynx.only_mine || nat_lt 0 ms.only_mine) && (nat_lt 0 lynx.only_theirs || nat_lt 0 ms.only_theirs)

-- what was not fetched has no levels
abbrev pub no_counts : Counts
no_counts = record { levels = 0; only_mine = 0; only_theirs = 0; mine_better = 0; theirs_better = 0; equal = 0; tied = 0 }

abbrev pub counts_in : Result Told SyncFault → Counts
counts_in (Ok told) = told.counts
counts_in (Err fault) = no_counts

-- ---- what is fetched

-- both collections of a ruleset were fetched and compared, or why not
abbrev pub Fetched : (from to : Endpoint) → Ruleset → Result Told SyncFault → (before after : Option (List Entry)) → Type 0
Fetched from to rules (Ok told) before after = FetchesNews from to (record { rules = rules; rounds = ROUNDS }) told before after
Fetched from to rules (Err fault) before after = SyncFails from to (record { rules = rules; rounds = ROUNDS }) fault before after

-- ---- what is put

-- the line for what was put; or why it was not put, or not said
abbrev pub SaysPart : Ruleset → (back : Bool) → Result (Option ℕ) RunFault → Result (Unit {0}) ToolFault → (old new : Option (List ℕ)) → Type 0
SaysPart rules back (Ok sent) (Ok done) old new = Appends old new (part_line rules back sent)
SaysPart rules back (Ok sent) (Err e) old new = LineFails (part_line rules back sent) old new e
SaysPart rules back (Err fault) (Ok done) old new = ⊥
SaysPart rules back (Err fault) (Err e) old new = (e ≡ run_fault fault) × (new ≡ old)

-- a part was put and reported, with this result
pub record PutsSaid (to : Endpoint) (rules : Ruleset) (back : Bool) (part : Option (List ℕ)) (done : Result (Unit {0}) ToolFault) (before after : Option (List Entry)) (old new : Option (List ℕ)) : Type 0 where
  pub sent : Result (Option ℕ) RunFault
  pub put : PutsPart to part ROUNDS sent before after
  pub said : SaysPart rules back sent done old new

-- with this status
pub record PutsOne (to : Endpoint) (rules : Ruleset) (back : Bool) (part : Option (List ℕ)) (status : ℕ) (before after : Option (List Entry)) (old new : Option (List ℕ)) : Type 0 where
  pub done : Result (Unit {0}) ToolFault
  pub puts : PutsSaid to rules back part done before after old new
  pub status_is : status ≡ answer_status done

-- what is better at FROM, and then what is better at TO
pub record PutsTwo (from to : Endpoint) (rules : Ruleset) (told : Told) (status : ℕ) (before after : Option (List Entry)) (old new : Option (List ℕ)) : Type 0 where
  pub one : ℕ
  pub two : ℕ
  pub mid : Option (List Entry)
  pub between : Option (List ℕ)
  pub forth : PutsOne to rules false told.forth one before mid old between
  pub back : PutsOne from rules true told.back two mid after between new
  pub status_is : status ≡ first_of one two

abbrev pub PutsTold : (from to : Endpoint) → Ruleset → (both : Bool) → Told → (status : ℕ) → (before after : Option (List Entry)) → (old new : Option (List ℕ)) → Type 0
PutsTold from to rules false told status before after old new = PutsOne to rules false told.forth status before after old new
PutsTold from to rules true told status before after old new = PutsTwo from to rules told status before after old new

-- nothing is put of what was not fetched
abbrev pub PutsNews : (from to : Endpoint) → Ruleset → (both : Bool) → Result Told SyncFault → (status : ℕ) → (before after : Option (List Entry)) → (old new : Option (List ℕ)) → Type 0
PutsNews from to rules both (Ok told) status before after old new = PutsTold from to rules both told status before after old new
PutsNews from to rules both (Err fault) status before after old new = (status ≡ 0) × (after ≡ before) × (new ≡ old)

-- of lynx, and then of ms
pub record PutsAll (from to : Endpoint) (both : Bool) (lynx ms : Result Told SyncFault) (status : ℕ) (before after : Option (List Entry)) (old new : Option (List ℕ)) : Type 0 where
  pub one : ℕ
  pub two : ℕ
  pub mid : Option (List Entry)
  pub between : Option (List ℕ)
  pub first : PutsNews from to Lynx both lynx one before mid old between
  pub second : PutsNews from to Ms both ms two mid after between new
  pub status_is : status ≡ first_of one two

-- nothing is sent or said, and this is the status
pub record Stops (status wanted : ℕ) (before after : Option (List Entry)) (old new : Option (List ℕ)) : Type 0 where
  pub status_is : status ≡ wanted
  pub unsent : after ≡ before
  pub unsaid : new ≡ old

-- what was fetched is put
pub record GoesOn (from to : Endpoint) (both : Bool) (lynx ms : Result Told SyncFault) (early status : ℕ) (before after : Option (List Entry)) (old new : Option (List ℕ)) : Type 0 where
  pub late : ℕ
  pub puts : PutsAll from to both lynx ms late before after old new
  pub status_is : status ≡ first_of early late

-- after both rulesets were fetched with this status
abbrev pub Goes : (unreadable apart : Bool) → (from to : Endpoint) → (both : Bool) → (lynx ms : Result Told SyncFault) → (early status : ℕ) → (before after : Option (List Entry)) → (old new : Option (List ℕ)) → Type 0
Goes true apart from to both lynx ms early status before after old new = Stops status early before after old new
Goes false true from to both lynx ms early status before after old new = Stops status (first_of early 1) before after old new
Goes false false from to both lynx ms early status before after old new = GoesOn from to both lynx ms early status before after old new

-- ---- the whole

abbrev pub is_unreadable : (lynx ms : ℕ) → Bool
is_unreadable lynx ms = (lynx == 3) || (ms == 3)

-- Both rulesets are fetched. If anything fetched is no solution file, or the archives have no level in common and are not
-- said to be new to each other, nothing is sent; otherwise what is better is put. The status is that of the first fault.
pub record SyncEnds (from to : Endpoint) (both fresh : Bool) (status : ℕ) (before after : Option (List Entry)) (old now : Option (List ℕ)) : Type 0 where
  pub lynx : Result Told SyncFault
  pub ms : Result Told SyncFault
  pub mid : Option (List Entry)
  pub fetched : Option (List Entry)
  pub first : Fetched from to Lynx lynx before mid
  pub second : Fetched from to Ms ms mid fetched
  pub goes : Goes (is_unreadable (fetch_status lynx) (fetch_status ms)) (not fresh && are_apart (counts_in lynx) (counts_in ms)) from to both lynx ms (first_of (fetch_status lynx) (fetch_status ms)) status fetched after old now
