-- The command `serve`: what it does and prints.
use Rattle.std.specs.Prelude.{◌≡◌, ◌≢◌, ◌⊎◌, ◌↔◌, ℕ, ◌<◌, ◌≤◌, ◌^◌, ◌-◌, Bool, true, false, List, [], Option, Some, None, Result, Ok, Err, option_map, string_bytes, codes}
use Rattle.std.specs.Io.KnownBytes.{Appends}
use Rattle.clap.specs.Words.{App, Row, Rule, Text, first_of, new_app, new_rule, with_rule}
use Rattle.clap.specs.declared.builder.action.ArgAction.TheVariants.{SetTrue}
use Rattle.tftp_ends.specs.declared.limits.TheConstants.{MAX_FILE}
use Rattle.archive_table.specs.Keeper.{Keeping, HasLoaded}
use Rattle.archive_table.specs.Table.{Table, empty_table}
use Rattle.archive_table.specs.declared.limits.TheConstants.{LIVE}
use Rattle.archive_server.specs.Turn.{IsRound, IsTurn, MakesMany, Server, TurnOrRound, fresh_server}
use Rattle.archive_wire.specs.Wire.{Entry}
use Rattle.archive_serving.specs.declared.turn_limit.TurnLimit.{TurnLimit}
use Rattle.archive_serving.specs.declared.turn_limit.TurnLimit.TheVariants.{Turns, Rounds}
use Rattle.archive_serving.specs.declared.serve.ServeArguments.{ServeArguments}
use Rattle.archive_serving.specs.declared.limits.TheConstants.{HISTORY, MAX_HISTORY, PER_HOST, TURNS}
use Rattle.command_line.specs.declared.tool_fault.ToolFault.{ToolFault}
use Rattle.archive_server.specs.declared.policies.Policies.{Policies}
use Rattle.archive_server.specs.declared.putters.Putters.{Putters}
use Rattle.archive_server.specs.declared.putters.Putters.TheVariants.{All, Hosts}
use Rattle.archive_arguments.specs.Address.{IsAddress}
use Rattle.archive_serving.specs.Hosts.{IsNoList, ListsHosts}
use Rattle.archive_serving.specs.Ports.{ArePorts}
use Rattle.command_line.specs.Arguments.{HasFlag}
use Rattle.archive_arguments.specs.Arguments.{HasNumber, NumberOption, number_rule, port_option}
use Rattle.archive_arguments.specs.Lines.{LineFails, number_line}
use Rattle.command_line.specs.Printing.{Prints, Reports, line_about}
use Rattle.archive_keepers.specs.declared.replaced.Replaced.{Replaced}
use Rattle.archive_keepers.specs.Replaced.{replaced_text}

abbrev pub serve_name : Text
serve_name = codes "serve"

abbrev pub turns_option : NumberOption
turns_option = record { name = codes "turns"; most = TURNS; default = TURNS }

abbrev pub per_host_option : NumberOption
per_host_option = record { name = codes "per-host"; most = LIVE; default = PER_HOST }

abbrev pub limit_option : NumberOption
limit_option = record { name = codes "limit"; most = MAX_FILE; default = MAX_FILE }

abbrev pub history_limit_option : NumberOption
history_limit_option = record { name = codes "history-limit"; most = MAX_HISTORY; default = HISTORY }

-- an option with a text
abbrev pub text_rule : Text → Rule
text_rule name = record (new_rule name) { long = Some name; value_names = 1 }

abbrev pub bound_rule : Rule
bound_rule = text_rule (codes "address")

abbrev pub put_from_rule : Rule
put_from_rule = text_rule (codes "put-from")

abbrev pub dir_rule : Rule
dir_rule = text_rule (codes "dir")

abbrev pub log_rule : Rule
log_rule = record (new_rule (codes "log")) { long = Some (codes "log"); action = Some SetTrue }

abbrev pub any_rule : Rule
any_rule = record (new_rule (codes "any-solution")) { long = Some (codes "any-solution"); action = Some SetTrue }

abbrev pub history_rule : Rule
history_rule = text_rule (codes "history")

-- with only those options that are numbers, without that of the history
abbrev pub numbers_app : App
numbers_app =
    with_rule (with_rule (with_rule (with_rule (new_app serve_name) (number_rule port_option)) (number_rule turns_option)) (number_rule per_host_option)) (number_rule limit_option)

-- with the options that say where it serves, who may put, and what keeps the collections
abbrev pub places_app : App
places_app = with_rule (with_rule (with_rule numbers_app bound_rule) put_from_rule) dir_rule

-- with all options but two
abbrev pub logging_app : App
logging_app = with_rule (with_rule (with_rule places_app log_rule) history_rule) (number_rule history_limit_option)

abbrev pub ports_rule : Rule
ports_rule = text_rule (codes "ports")

-- `serve [--port N] [--turns N] [--per-host N] [--limit BYTES] [--address A.B.C.D] [--put-from A.B.C.D[,A.B.C.D..]] [--dir DIR] [--log] [--history DIR] [--history-limit BYTES] [--any-solution] [--ports FROM-TO]`
abbrev pub serve_app : App
serve_app = with_rule (with_rule logging_app any_rule) ports_rule

-- what was found for its arguments
pub record AsksToServe (rows : List Row) (arguments : ServeArguments) : Type 0 where
  pub port_is : HasNumber port_option rows arguments.port
  pub turns_are : HasNumber turns_option rows arguments.turns
  pub per_host_is : HasNumber per_host_option rows arguments.per_host
  pub limit_is : HasNumber limit_option rows arguments.limit
  pub address_is : option_map string_bytes arguments.address ≡ first_of bound_rule.id rows
  pub put_from_is : option_map string_bytes arguments.put_from ≡ first_of put_from_rule.id rows
  pub ports_are : ArePorts (first_of ports_rule.id rows) arguments.ports
  pub dir_is : option_map string_bytes arguments.dir ≡ first_of dir_rule.id rows
  pub any_is : HasFlag any_rule rows arguments.any_solution
  pub log_is : HasFlag log_rule rows arguments.log
  pub history_is : option_map string_bytes arguments.history ≡ first_of history_rule.id rows
  pub history_limit_is : HasNumber history_limit_option rows arguments.history_limit

-- ---- what it does and prints

abbrev pub serving_line : ℕ → List ℕ
serving_line port = number_line (codes "serving on port ") port []

abbrev pub taken_line : ℕ → List ℕ
taken_line taken = number_line (codes "taken ") taken []

-- the port was printed, then the turns were made, and then it was printed how many files they took
pub record Serves (port : ℕ) (Made : (taken : ℕ) → Type 0) (old new : Option (List ℕ)) : Type 0 where
  pub taken : ℕ
  pub made : Made taken
  pub between : Option (List ℕ)
  pub first : Appends old between (serving_line port)
  pub last : Appends between new (taken_line taken)

-- the turns were made, but it was not printed how many files they took
pub record ServesUnsaid (port : ℕ) (Made : (taken : ℕ) → Type 0) (old new : Option (List ℕ)) (e : ToolFault) : Type 0 where
  pub taken : ℕ
  pub made : Made taken
  pub between : Option (List ℕ)
  pub first : Appends old between (serving_line port)
  pub fails : LineFails (taken_line taken) between new e

-- a line was not written: the first one, and no turn was made, or the last one
abbrev pub ServeFails : (port : ℕ) (Unmade : Type 0) (Made : (taken : ℕ) → Type 0) (old new : Option (List ℕ)) → ToolFault → Type 0
ServeFails port Unmade Made old new e = (Unmade × LineFails (serving_line port) old new e) ⊎ ServesUnsaid port Made old new e

-- by the result
abbrev pub ServeEnds : (port : ℕ) (Unmade : Type 0) (Made : (taken : ℕ) → Type 0) (old new : Option (List ℕ)) → Result (Unit {0}) ToolFault → Type 0
ServeEnds port Unmade Made old new (Ok done) = Serves port Made old new
ServeEnds port Unmade Made old new (Err e) = ServeFails port Unmade Made old new e

abbrev pub count_of : TurnLimit → ℕ
count_of (Turns turns) = turns
count_of (Rounds rounds) = rounds

abbrev pub turn_of : TurnLimit → TurnOrRound
turn_of (Turns turns) = IsTurn
turn_of (Rounds rounds) = IsRound

-- So many turns or rounds were made, of which `taken` took a file; fewer only if the keeper is not usable any more.
pub record RunsUpTo (limit : TurnLimit) (usable : Bool) (old new : Server) (taken : ℕ) (before after : Option (List Entry)) (kept now : Option (List Keeping)) : Type 0 where
  pub count : ℕ
  pub most : count ≤ count_of limit
  pub made : MakesMany (turn_of limit) count old new taken before after kept now
  pub ends : (usable ≡ false) ⊎ (count ≡ count_of limit)

-- a keeper that is usable has this log
abbrev pub HasUsable : {K : Type 0} (usable : K → Bool) (log : K → Option (List Keeping)) → Option (List Keeping) → Type 0
HasUsable {K} usable log kept = (keeper : K) × (usable keeper ≡ true) × (log keeper ≡ kept)

-- a turn or round before which this holds of what the keeper has
abbrev pub begun_when : (Begins : Option (List Keeping) → Type 0) → TurnOrRound → TurnOrRound
begun_when Begins Is old new taken calls kept now = Begins kept × Is old new taken calls kept now

-- the same, and each of them began when this held of what the keeper had
pub record RunsUpToWhile (Begins : Option (List Keeping) → Type 0) (limit : TurnLimit) (usable : Bool) (old new : Server) (taken : ℕ) (before after : Option (List Entry)) (kept now : Option (List Keeping)) : Type 0 where
  pub runs : RunsUpTo limit usable old new taken before after kept now
  pub begun : MakesMany (begun_when Begins (turn_of limit)) runs.count old new taken before after kept now

-- what a server with this keeper makes of the limit: how many files were taken
abbrev pub ServiceRuns : {K : Type 0} (usable : K → Bool) (log : K → Option (List Keeping)) → TurnLimit → (old new : Server) (first last : K) (before after : Option (List Entry)) → (taken : ℕ) → Type 0
ServiceRuns usable log limit old new first last before after taken =
    RunsUpToWhile (HasUsable usable log) limit (usable last) old new taken before after (log first) (log last)

-- what a server makes that is given this many turns: if they are the most there are, rounds, more of them than any server
-- will live to make
abbrev pub IsLimitFor : (turns : ℕ) → TurnLimit → Type 0
IsLimitFor turns limit = ((turns < TURNS) × (limit ≡ Turns turns)) ⊎ ((TURNS ≤ turns) × (limit ≡ Rounds (2 ^ 64 - 1)))

-- a server that began with this table made its turns or rounds, by these policies: what was kept before and after, and how
-- many files were taken
pub record ServerServed (turns : ℕ) (policies : Policies) (start : Table) (usable : Bool) (before after : Option (List Entry)) (kept now : Option (List Keeping)) (taken : ℕ) : Type 0 where
  pub first : Server
  pub last : Server
  pub fresh : first ≡ fresh_server policies start
  pub limit : TurnLimit
  pub limit_is : IsLimitFor turns limit
  pub made : RunsUpTo limit usable first last taken before after kept now

-- ---- by the exit status

-- What `serve` on this port did that began with this table, with this many turns and these policies: what its keeper
-- had and has, and whether it is usable. Once it is not, the server ends with status 2.
pub record Served (port turns : ℕ) (policies : Policies) (start : Table) (status : ℕ) (usable : Bool) (before after : Option (List Entry)) (kept now : Option (List Keeping)) (old new : Option (List ℕ)) : Type 0 where
  pub done : status ≡ 0 → (usable ≡ true) × Serves port (ServerServed turns policies start usable before after kept now) old new
  pub failed : status ≡ 2 → ((new ≡ old) × (now ≡ kept)) ⊎ ((e : ToolFault) × ServeFails port (now ≡ kept) (ServerServed turns policies start usable before after kept now) old new e) ⊎ ((usable ≡ false) × Serves port (ServerServed turns policies start usable before after kept now) old new)
  pub few : (status ≡ 0) ⊎ (status ≡ 2)

-- ---- where it serves

-- the first address of a group, 224.0.0.0; those from there on are of groups, reserved, or of every host
abbrev pub first_group : ℕ
first_group = 3758096384

-- the host of the address that was given; 0, which is every address of this host, if none was
abbrev pub HasHost : Option (List ℕ) → ℕ → Type 0
HasHost None host = host ≡ 0
HasHost (Some address) host = IsAddress address host × (host < first_group)

-- what was given is no address of one host
abbrev pub IsNoHost : Option (List ℕ) → Type 0
IsNoHost None = ⊥
IsNoHost (Some address) = (host : ℕ) → IsAddress address host → first_group ≤ host

-- what was given for the address
abbrev pub given_address : ServeArguments → Option (List ℕ)
given_address arguments = option_map string_bytes arguments.address

-- what was given for the folder
abbrev pub given_dir : ServeArguments → Option (List ℕ)
given_dir arguments = option_map string_bytes arguments.dir

-- the table that a server begins with: an empty one without a folder; nothing is known of what a folder keeps
abbrev pub StartsFrom : (dir : Option (List ℕ)) → (port : ℕ) → Table → Type 0
StartsFrom None port start = start ≡ empty_table port
StartsFrom (Some dir) port start = HasLoaded port None start

-- what was given for the hosts that may put
abbrev pub given_putters : ServeArguments → Option (List ℕ)
given_putters arguments = option_map string_bytes arguments.put_from

-- the hosts that may put: those of the list that was given, every one if none was
abbrev pub HasPutters : Option (List ℕ) → Putters → Type 0
HasPutters None putters = putters ≡ All
HasPutters (Some text) putters = (hosts : List ℕ) × ListsHosts text hosts × (putters ≡ Hosts hosts)

-- what was given is no list of hosts
abbrev pub IsNoPutters : Option (List ℕ) → Type 0
IsNoPutters None = ⊥
IsNoPutters (Some text) = IsNoList text

-- which requests are to be let in
pub record HasPolicies (arguments : ServeArguments) (policies : Policies) : Type 0 where
  pub per_host_is : policies.per_host ≡ arguments.per_host
  pub putters_are : HasPutters (given_putters arguments) policies.putters

-- a server began with such a table and served by the policies that were asked for, or none was loaded
abbrev pub ServedFrom : ServeArguments → (status : ℕ) → (old new : Option (List ℕ)) → Type 0
ServedFrom arguments status old new =
    ((usable : Bool) × (start : Table) × (policies : Policies) × HasPolicies arguments policies × StartsFrom (given_dir arguments) arguments.port start × Served arguments.port arguments.turns policies start status usable None None None None old new)
    ⊎ ((status ≡ 2) × (new ≡ old))

-- what it did
pub record ServeRan (arguments : ServeArguments) (status : ℕ) (old new : Option (List ℕ)) : Type 0 where
  pub bad : (status ≡ 1) ↔ (IsNoHost (given_address arguments) ⊎ IsNoPutters (given_putters arguments))
  pub nowhere : status ≡ 1 → new ≡ old
  pub served : status ≢ 1 → ServedFrom arguments status old new

-- ---- a server that ended

-- its keeper, of the folder of this name, is not usable any more: what was replaced, if anything was
abbrev pub unusable_line : Option Replaced → (name : Text) → List ℕ
unusable_line (Some replaced) name = line_about name (replaced_text replaced)
unusable_line None name = line_about name (codes "not known whether kept")

-- why it failed, if it did, and that, unless its keeper is usable
abbrev pub ReportsServed : (usable : Bool) → Result (Unit {0}) ToolFault → Option Replaced → (name : Text) → (old new : Option (List ℕ)) → Type 0
ReportsServed true done replaced name old new = Reports [] done old new
ReportsServed false done replaced name old new = (mid : Option (List ℕ)) × Reports [] done old mid × Prints (unusable_line replaced name) mid new
