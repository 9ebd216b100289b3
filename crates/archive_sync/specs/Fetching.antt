-- What two archives, or a text and an archive, have of a ruleset, fetched over a wire by a get of each collection; and a put
-- of what is better.
use Rattle.std.specs.Prelude.{◌≡◌, ℕ, List, [], Option, None, Some, Result, Ok, Err}
use Rattle.tws_file.specs.declared.«ruleset».Ruleset.{Ruleset}
use Rattle.tftp_packet.specs.declared.endpoint.Endpoint.{Endpoint}
use Rattle.archive_wire.specs.Wire.{Entry}
use Rattle.archive_runs.specs.declared.run_fault.RunFault.{RunFault}
use Rattle.archive_runs.specs.declared.run_fault.RunFault.TheVariants as run
use Rattle.archive_runs.specs.Run.{Run}
use Rattle.archive_runs.specs.Rounds.{PutsInRounds, GetsInRounds, MakesDally}
use Rattle.archive_sync.specs.declared.news_fault.NewsFault.{NewsFault}
use Rattle.archive_sync.specs.declared.sync_fault.SyncFault.{SyncFault}
use Rattle.archive_sync.specs.declared.sync_fault.SyncFault.TheVariants.{From, To, News}
use Rattle.archive_sync.specs.News.{Told, IsTold, NewsFails}

-- of which ruleset, and how many rounds each transfer makes at most
pub record Asked : Type 0 where
  pub rules : Ruleset
  pub rounds : ℕ

-- this text was fetched whole, and then the client dallied
pub record FetchesText (server : Endpoint) (asked : Asked) (text : List ℕ) (before after : Option (List Entry)) : Type 0 where
  pub len : ℕ
  pub run : Run
  pub last : Run
  pub mid : Option (List Entry)
  pub got : GetsInRounds server asked.rules asked.rounds (Ok (len, run)) before mid (Some []) (Some text)
  pub dallied : MakesDally asked.rounds run last mid after

-- a text for which there is no room was not written
abbrev pub in_memory : RunFault → RunFault
in_memory run.Socket = run.Socket
in_memory (run.Transfer why) = run.Transfer why
in_memory run.Memory = run.Memory
in_memory run.Write = run.Memory

-- none was
pub record TextFails (server : Endpoint) (asked : Asked) (fault : RunFault) (before after : Option (List Entry)) : Type 0 where
  pub cause : RunFault
  pub fault_is : fault ≡ in_memory cause
  pub written : Option (List ℕ)
  pub got : GetsInRounds server asked.rules asked.rounds (Err cause) before after (Some []) written

-- both collections were fetched, one after the other
pub record FetchesBoth (from to : Endpoint) (asked : Asked) (first second : List ℕ) (before after : Option (List Entry)) : Type 0 where
  pub mid : Option (List Entry)
  pub one : FetchesText from asked first before mid
  pub other : FetchesText to asked second mid after

-- they were, and this is what they tell
pub record FetchesNews (from to : Endpoint) (asked : Asked) (told : Told) (before after : Option (List Entry)) : Type 0 where
  pub first : List ℕ
  pub second : List ℕ
  pub both : FetchesBoth from to asked first second before after
  pub is_told : IsTold first second told

-- the first one was, the second was not
pub record SecondFails (from to : Endpoint) (asked : Asked) (fault : RunFault) (before after : Option (List Entry)) : Type 0 where
  pub first : List ℕ
  pub mid : Option (List Entry)
  pub one : FetchesText from asked first before mid
  pub other : TextFails to asked fault mid after

-- both were, and cannot be compared
pub record BothFail (from to : Endpoint) (asked : Asked) (fault : NewsFault) (before after : Option (List Entry)) : Type 0 where
  pub first : List ℕ
  pub second : List ℕ
  pub both : FetchesBoth from to asked first second before after
  pub fails : NewsFails first second fault

-- the collection of an archive was fetched, and this is what a text of mine and it tell
pub record FetchesNewsOf (mine : List ℕ) (to : Endpoint) (asked : Asked) (told : Told) (before after : Option (List Entry)) : Type 0 where
  pub theirs : List ℕ
  pub fetched : FetchesText to asked theirs before after
  pub is_told : IsTold mine theirs told

-- it was fetched, and cannot be compared
pub record FetchedFails (mine : List ℕ) (to : Endpoint) (asked : Asked) (fault : NewsFault) (before after : Option (List Entry)) : Type 0 where
  pub theirs : List ℕ
  pub fetched : FetchesText to asked theirs before after
  pub fails : NewsFails mine theirs fault

abbrev pub NewsOfFails : (mine : List ℕ) (to : Endpoint) → Asked → SyncFault → (before after : Option (List Entry)) → Type 0
NewsOfFails mine to asked (From fault) before after = ⊥
NewsOfFails mine to asked (To fault) before after = TextFails to asked fault before after
NewsOfFails mine to asked (News fault) before after = FetchedFails mine to asked fault before after

abbrev pub SyncFails : (from to : Endpoint) → Asked → SyncFault → (before after : Option (List Entry)) → Type 0
SyncFails from to asked (From fault) before after = TextFails from asked fault before after
SyncFails from to asked (To fault) before after = SecondFails from to asked fault before after
SyncFails from to asked (News fault) before after = BothFail from to asked fault before after

-- what is better was put, or nothing was sent where nothing is
abbrev pub PutsPart : (to : Endpoint) (part : Option (List ℕ)) (rounds : ℕ) → Result (Option ℕ) RunFault → (before after : Option (List Entry)) → Type 0
PutsPart to None rounds result before after = (result ≡ Ok None) × (after ≡ before)
PutsPart to (Some text) rounds (Ok None) before after = ⊥
PutsPart to (Some text) rounds (Ok (Some len)) before after = PutsInRounds to text rounds (Ok len) before after
PutsPart to (Some text) rounds (Err fault) before after = PutsInRounds to text rounds (Err fault) before after
