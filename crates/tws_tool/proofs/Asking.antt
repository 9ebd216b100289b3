-- Which job these arguments ask for.
use Rattle.std.proofs.Common.{true, false, refl, ap, ◌≡◌, ◌≤◌, ℕ, [], ◌∷◌, None, option_map, string_bytes, arith, codes}
use Rattle.clap.specs.Words.{Text, fault_of}
use Rattle.clap.specs.declared.error.kind.ErrorKind.TheVariants.{DisplayVersion}
use Rattle.clap.proofs.OnLiterals.{clap_on_literals}
use Rattle.file_commands.specs.declared.file_job.FileJob.TheVariants.{Pack, Show}
use Rattle.tws_tool.specs.declared.job.Job.TheVariants.{Files, Serve}
use Rattle.command_line.specs.declared.source.Source.TheVariants.{Standard}
use Rattle.std.specs.Str.Parse.{IsNumeral, digits_value, without_leading_plus}
use Rattle.command_line.specs.Arguments.{IsNumberUpTo, RulesetNames}
use Rattle.command_line.specs.CommandLine.{AsksIn}
use Rattle.show_commands.specs.declared.show.ShowArguments.{ShowArguments}
use Rattle.tws_tool.specs.CommandLine.{ListsInput}
use Rattle.tws_tool.specs.Jobs.{AsksFor, tws_app}

-- `tws show`
pub asks_for_show : (arguments : ShowArguments) → ListsInput false false arguments → (names : RulesetNames) (program : Text) →
    AsksIn AsksFor (tws_app names) (program ∷ codes "show" ∷ []) (Files (Show arguments))
unfolding clap_on_literals
asks_for_show arguments is names program =
    (refl, (_, refl, (refl, record { files_are = is.files_are; moves_are = ((λ e. absurd cc), (λ e. is.moves_is), (λ e. is.moves_is)); csv_is = ((λ e. absurd cc), (λ e. is.csv_is), (λ e. is.csv_is)); output_is = ap (option_map string_bytes) is.output_is })))

-- `tws show --moves`
pub asks_for_moves : (arguments : ShowArguments) → ListsInput true false arguments → (names : RulesetNames) (program : Text) →
    AsksIn AsksFor (tws_app names) (program ∷ codes "show" ∷ codes "--moves" ∷ []) (Files (Show arguments))
unfolding clap_on_literals
asks_for_moves arguments is names program =
    (refl, (_, refl, (refl, record { files_are = is.files_are; moves_are = ((λ e. is.moves_is), (λ e. absurd cc), (λ e. absurd cc)); csv_is = ((λ e. absurd cc), (λ e. is.csv_is), (λ e. is.csv_is)); output_is = ap (option_map string_bytes) is.output_is })))

-- `tws show --csv`
pub asks_for_csv : (arguments : ShowArguments) → ListsInput false true arguments → (names : RulesetNames) (program : Text) →
    AsksIn AsksFor (tws_app names) (program ∷ codes "show" ∷ codes "--csv" ∷ []) (Files (Show arguments))
unfolding clap_on_literals
asks_for_csv arguments is names program =
    (refl, (_, refl, (refl, record { files_are = is.files_are; moves_are = ((λ e. absurd cc), (λ e. is.moves_is), (λ e. is.moves_is)); csv_is = ((λ e. is.csv_is), (λ e. absurd cc), (λ e. absurd cc)); output_is = ap (option_map string_bytes) is.output_is })))

-- `tws pack`
pub asks_for_pack : (names : RulesetNames) (program : Text) → AsksIn AsksFor (tws_app names) (program ∷ codes "pack" ∷ codes "-" ∷ []) (Files (Pack (record { source = Standard; output = None })))
unfolding clap_on_literals
asks_for_pack names program = (refl, (_, refl, (refl, record { source_is = refl; output_is = refl })))

-- `tws serve`, with the default port, turns, transfers of one host and limit, at every address, no folder, no log and no
-- history
pub asks_for_serve : (names : RulesetNames) (program : Text) → AsksIn AsksFor (tws_app names) (program ∷ codes "serve" ∷ []) (Serve (record { port = 6969; turns = 1000000000; per_host = 32; limit = 33553919; address = None; put_from = None; ports = None; dir = None; any_solution = false; log = false; history = None; history_limit = 10000000000 }))
unfolding clap_on_literals
asks_for_serve names program = (refl, (_, refl, (refl, record { port_is = refl; turns_are = refl; per_host_is = refl; limit_is = refl; address_is = refl; put_from_is = refl; ports_are = tt; dir_is = refl; any_is = ((λ e. absurd cc), (λ e. refl), (λ e. refl)); log_is = ((λ e. absurd cc), (λ e. refl), (λ e. refl)); history_is = refl; history_limit_is = refl })))

-- a number of digits only
pub counted_number : (most n : ℕ) (text : Text) → IsNumeral 10 (without_leading_plus text) → n ≡ digits_value 10 (without_leading_plus text) → 1 ≤ n → n ≤ most → IsNumberUpTo most text n
counted_number most n text numeral value least greatest = record { numeral = numeral; value = value; least = least; greatest = greatest }

-- `tws serve --port 80 --turns=5`
pub asks_for_counted : (names : RulesetNames) (program : Text) →
    AsksIn AsksFor (tws_app names) (program ∷ codes "serve" ∷ codes "--port" ∷ codes "80" ∷ codes "--turns=5" ∷ [])
    (Serve (record { port = 80; turns = 5; per_host = 32; limit = 33553919; address = None; put_from = None; ports = None; dir = None; any_solution = false; log = false; history = None; history_limit = 10000000000 }))
unfolding clap_on_literals
asks_for_counted names program = (
  refl,
  (
    _,
    refl,
    (
      refl,
      record {
        port_is = counted_number 65535 80 (codes "80") (omega arith, (omega arith, (omega arith, tt))) refl (omega arith) (omega arith);
        turns_are = counted_number 1000000000 5 (codes "5") (omega arith, (omega arith, tt)) refl (omega arith) (omega arith);
        per_host_is = refl;
        limit_is = refl;
        address_is = refl;
        put_from_is = refl;
        ports_are = tt;
        dir_is = refl;
        any_is = ((λ e. absurd cc), (λ e. refl), (λ e. refl));
        log_is = ((λ e. absurd cc), (λ e. refl), (λ e. refl));
        history_is = refl;
        history_limit_is = refl;
      },
    ),
  ),
)

-- `tws --version`
pub asks_for_version : (names : RulesetNames) (program : Text) → fault_of (tws_app names) (program ∷ codes "--version" ∷ []) ≡ DisplayVersion ∷ []
unfolding clap_on_literals
asks_for_version names program = refl

-- `tws -V`
pub asks_for_v : (names : RulesetNames) (program : Text) → fault_of (tws_app names) (program ∷ codes "-V" ∷ []) ≡ DisplayVersion ∷ []
unfolding clap_on_literals
asks_for_v names program = refl
