-- A command with one more argument, and a program with one more command.
use Rattle.std.proofs.Common.{◌≡◌, false, ap, ◌∙◌}
use Rattle.clap.specs.Words.{AddsArg, AddsSubcommand, App, Rule, app_of, rule_of, with_rule, with_subcommand}
use Rattle.clap.specs.declared.builder.arg.Arg.{Arg}
use Rattle.clap.specs.declared.builder.command.Command.{Command}
use Rattle.clap.specs.declared.builder.command.Command.TheViews.{out-Command}

module _ (old : Command) (arg : Arg) (new : Command) where
  -- its command line is that of before, with the rule of the argument
  pub adds_rule : (app : App) (rule : Rule) → app_of old ≡ app → rule_of arg ≡ rule → arg.global ≡ false → AddsArg old arg new → app_of new ≡ with_rule app rule
  adds_rule app rule old-is rule-is local adds =
      adds.shape local ∙ ap (λ (a : App). with_rule a (rule_of arg)) old-is ∙ ap (λ (r : Rule). with_rule app r) rule-is

  -- none of its arguments is global, if that one is not and none was
  pub stays_local : (out-Command old).has_globals ≡ false → arg.global ≡ false → AddsArg old arg new → (out-Command new).has_globals ≡ false
  stays_local old-local local adds = rw (old-local, local) at adds.globals

-- the program's command line is that of before, with the one of the command
pub adds_command : (old sub new : Command) (program command : App) → app_of old ≡ program → app_of sub ≡ command → (out-Command sub).has_globals ≡ false
    → AddsSubcommand old sub new → app_of new ≡ with_subcommand program command.top
adds_command old sub new program command old-is sub-is local adds =
    adds.shape local ∙ ap (λ (a : App). with_subcommand a (app_of sub).top) old-is ∙ ap (λ (a : App). with_subcommand program a.top) sub-is
