-- A command accepts one more option, or one more subcommand.
use Rattle.clap.specs.Built.{AddsArg, AddsSubcommand}
use Rattle.clap.specs.Simple.{App, with_rule, with_subcommand}
use Rattle.clap.specs.Walk.{Rule}
use Rattle.clap.specs.declared.builder.arg.Arg.{Arg}
use Rattle.clap.specs.declared.builder.command.Command.{Command}
use Rattle.kubecel.specs.Words.{IsOption, Understands}
use Rattle.std.proofs.Common.{◌||◌, ap, ap₂, ◌∙◌}

pub with_option : {a : App} {r : Rule} {old new : Command} {option : Arg} → AddsArg old option new → Understands a old → IsOption r option
    → Understands (with_rule a r) new
with_option h u o = (h.shape o.1 ∙ ap₂ with_rule u.0 o.0, h.globals ∙ ap₂ ◌||◌ u.1 o.1)

pub with_command : {a b : App} {old new sub : Command} → AddsSubcommand old sub new → Understands a old → Understands b sub
    → Understands (with_subcommand a b.top) new
with_command h u s = (h.shape s.1 ∙ ap₂ with_subcommand u.0 (ap (λ (x : App). x.top) s.0), h.globals ∙ ap₂ ◌||◌ u.1 s.1)
