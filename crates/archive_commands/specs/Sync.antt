-- The command `sync`: what it does over any wire and any output.
use Rattle.std.specs.Prelude.{◌≡◌, ◌⊎◌, ℕ, true, List, Option, Some, string_bytes, codes}
use Rattle.clap.specs.Words.{App, Row, Rule, Text, first_of, new_app, new_rule, with_rule}
use Rattle.archive_wire.specs.Wire.{Entry}
use Rattle.command_line.specs.Arguments.{HasFlag}
use Rattle.archive_commands.specs.declared.sync.SyncArguments.{SyncArguments}
use Rattle.archive_commands.specs.declared.target.Target.{Target}
use Rattle.archive_arguments.specs.declared.limits.TheConstants.{PORT, MAX_PORT}
use Rattle.archive_commands.specs.Locating.{Locates}
use Rattle.archive_commands.specs.Arguments.{flag_rule}
use Rattle.archive_arguments.specs.Arguments.{HasNumber, NumberOption, number_rule, port_option}
use Rattle.archive_commands.specs.Syncing.{SyncEnds}

abbrev pub sync_name : Text
sync_name = codes "sync"

-- an archive's address
abbrev pub place_rule : Text → Rule
place_rule name = record (new_rule name) { value_names = 1; required = true }

-- `FROM` and `TO`
abbrev pub from_rule : Rule
from_rule = place_rule (codes "from")

abbrev pub to_rule : Rule
to_rule = place_rule (codes "to")

-- `[--to-port N]`
abbrev pub to_port_option : NumberOption
to_port_option = record { name = codes "to-port"; most = MAX_PORT; default = PORT }

abbrev pub both_rule : Rule
both_rule = flag_rule (codes "both")

abbrev pub new_archives_rule : Rule
new_archives_rule = flag_rule (codes "new")

-- with only what says where the archives are
abbrev pub sync_places_app : App
sync_places_app =
    with_rule (with_rule (with_rule (with_rule (new_app sync_name) from_rule) to_rule) (number_rule port_option)) (number_rule to_port_option)

-- `sync FROM TO [--port N] [--to-port N] [--both] [--new]`
abbrev pub sync_app : App
sync_app = with_rule (with_rule sync_places_app both_rule) new_archives_rule

-- what was found for an archive's place
pub record HasPlace (address : Rule) (port : NumberOption) (rows : List Row) (target : Target) : Type 0 where
  pub address_is : first_of address.id rows ≡ Some (string_bytes target.address)
  pub port_is : HasNumber port rows target.port

-- what was found for its arguments
pub record AsksToSync (rows : List Row) (arguments : SyncArguments) : Type 0 where
  pub from_is : HasPlace from_rule port_option rows arguments.from
  pub to_is : HasPlace to_rule to_port_option rows arguments.to
  pub both_is : HasFlag both_rule rows arguments.both
  pub new_is : HasFlag new_archives_rule rows arguments.new_archives

-- ---- what it does

-- both addresses lead to hosts, and the sync of the archives there ended with this status
pub record SyncsFrom (arguments : SyncArguments) (from to : Option ℕ) (status : ℕ) (before after : Option (List Entry)) (old new : Option (List ℕ)) : Type 0 where
  pub there : ℕ
  pub here : ℕ
  pub from_is : from ≡ Some there
  pub to_is : to ≡ Some here
  pub ends : SyncEnds (record { host = there; port = arguments.from.port }) (record { host = here; port = arguments.to.port }) arguments.both arguments.new_archives status before after old new

-- one of them does not: nothing is sent or said
pub record SyncsNowhere (from to : Option ℕ) (status : ℕ) (before after : Option (List Entry)) (old new : Option (List ℕ)) : Type 0 where
  pub nowhere : (there here : ℕ) → from ≡ Some there → to ≡ Some here → ⊥
  pub status_is : status ≡ 1
  pub unsent : after ≡ before
  pub unsaid : new ≡ old

-- What it did, by the exit status, given what is known of the hosts of names. The archives are at the hosts to which the
-- addresses that were given lead, and at the ports.
pub record SyncRan (host_of : List ℕ → Option (Option ℕ)) (arguments : SyncArguments) (status : ℕ) (before after : Option (List Entry)) (old new : Option (List ℕ)) : Type 0 where
  pub from : Option ℕ
  pub to : Option ℕ
  pub located : Locates host_of (string_bytes arguments.from.address) from
  pub to_located : Locates host_of (string_bytes arguments.to.address) to
  pub ran : SyncsFrom arguments from to status before after old new ⊎ SyncsNowhere from to status before after old new
