-- Trusted by the clauses of kubecel.
-- The command line: the arguments that the program accepts, stated as `clap` describes a command,
-- and the command that results from what `clap` parsed.
use Rattle.clap.specs.Lexer.{usize_max}
use Rattle.clap.specs.Matches.{first_value, matched_of, raw_values}
use Rattle.clap.specs.Simple.{App, app_of, new_app, new_rule, on_top, with_rule, with_subcommand}
use Rattle.clap.specs.Walk.{Rule, rule_of}
use Rattle.clap.specs.declared.builder.action.ArgAction.TheVariants.{Append, Set, SetTrue}
use Rattle.clap.specs.declared.builder.arg.Arg.{Arg}
use Rattle.clap.specs.declared.builder.command.Command.{Command}
use Rattle.clap.specs.declared.builder.command.Command.TheViews.{out-Command}
use Rattle.clap.specs.declared.builder.value_parser.ValueParser.TheVariants.{Names}
use Rattle.clap.specs.declared.parser.matches.Found.{Found}
use Rattle.kubecel_cli.specs.Commands.{AdmitData, Asked, CheckData, admit, check, review}
use Rattle.kubecel_report.specs.declared.output.Output.{Output}
use Rattle.kubecel_report.specs.declared.output.Output.TheVariants as form
use Rattle.std.specs.Borrow.{Bor}
use Rattle.std.specs.Option.{option_map_or}
use Rattle.std.specs.Prelude.{◌≡◌, ℕ, List, [], ◌∷◌, Bool, true, false, Some, if◌then◌else◌, option_map, unwrap_or, codes}
use Rattle.std.specs.Str.{bytes_eq}

-- ---- the arguments that the program accepts

-- the names of the forms of output
abbrev pub form_names : List (List ℕ)
form_names = codes "text" ∷ codes "json" ∷ codes "github" ∷ codes "junit" ∷ []

-- texts as the code represents them
abbrev pub Texts : Type 0
Texts = Bor (List (Bor (List ℕ)))

-- an option that takes a path, once
abbrev pub file : List ℕ → Rule
file name = record (new_rule name) { long = Some name; action = Some Set; value_names = 1 }

-- an option that takes a path and may be given several times
abbrev pub files : List ℕ → Rule
files name = record (file name) { action = Some Append }

-- an option without a value
abbrev pub flag : List ℕ → Rule
flag name = record (new_rule name) { long = Some name; action = Some SetTrue }

-- the option for the folders within folders, also by its letter, R: the character 82
abbrev pub recursive : Rule
recursive = record (flag (codes "recursive")) { short = Some 82 }

abbrev pub required : Rule → Rule
required a = record a { required = true }

-- an option that takes one value or more
abbrev pub one_or_more : Rule → Rule
one_or_more a = record a {
  range = Some (record { start_inclusive = 1; end_inclusive = usize_max });
}

-- the option for the form of output: one of these, text by default
abbrev pub output : Texts → Rule
output forms = record (file (codes "output")) { parser = Some (Names forms); defaults = codes "text" ∷ [] }

-- the paths of objects, one or more
abbrev pub objects : Rule
objects = one_or_more (required (record (new_rule (codes "objects")) {
  action = Some Append;
  value_names = 1;
}))

-- the path of a policy
abbrev pub policy : Rule
policy = record (new_rule (codes "policy")) { action = Some Set; value_names = 1; required = true }

-- a command with the options that all commands have
abbrev pub command : Texts → List ℕ → App
command forms name = with_rule (new_app name) (output forms)

unfoldable pub check_words : Texts → App
check_words forms =
    with_rule (with_rule (with_rule (with_rule (with_rule (with_rule (command forms (codes "check")) (files (codes "crds")))
    (files (codes "old"))) (flag (codes "ignore-missing-crds"))) (flag (codes "allow-none"))) recursive) objects

unfoldable pub review_words : Texts → App
review_words forms =
    with_rule (with_rule (command forms (codes "review")) (one_or_more (required (files (codes "crds"))))) recursive

unfoldable pub admit_words : Texts → App
admit_words forms =
    with_rule (with_rule (with_rule (with_rule (with_rule (with_rule (command forms (codes "admit")) policy)
    (file (codes "request"))) (file (codes "object"))) (file (codes "old"))) (file (codes "params")))
    (file (codes "namespace"))

-- the program itself: its name, `--version`, and a required command; without arguments it prints
-- its help
abbrev pub program_words : App
program_words =
    on_top (λ s. record s { has_version = true; subcommand_required = true; arg_required_else_help = true })
    (new_app (codes "kubecel"))

unfoldable pub words : Texts → App
words forms =
    with_subcommand (with_subcommand (with_subcommand program_words (check_words forms).top)
    (review_words forms).top) (admit_words forms).top

-- ---- the command that results from what `clap` parsed

-- all values of an option; none if it wasn't given
abbrev pub all_of : Found → List ℕ → List (List ℕ)
all_of f name = unwrap_or (option_map raw_values (matched_of f name)) []

-- whether an option without a value was given: `clap` takes its value for `true` then
abbrev pub is_set : Found → List ℕ → Bool
is_set f name = option_map_or (λ value. bytes_eq value (codes "true")) (first_value f name) false

abbrev pub check_asked : Found → CheckData
check_asked f = record {
  crds = all_of f (codes "crds");
  olds = all_of f (codes "old");
  objects = all_of f (codes "objects");
  ignores_missing = is_set f (codes "ignore-missing-crds");
  allows_none = is_set f (codes "allow-none");
}

abbrev pub admit_asked : Found → AdmitData
admit_asked f = record {
  policy = unwrap_or (first_value f (codes "policy")) [];
  request = first_value f (codes "request");
  object = first_value f (codes "object");
  old = first_value f (codes "old");
  params = first_value f (codes "params");
  namespace = first_value f (codes "namespace");
}

-- the command of this name
abbrev pub command_of : List ℕ → Found → Asked
command_of name f = if bytes_eq name (codes "check") then check (check_asked f) else (
    if bytes_eq name (codes "review") then review (all_of f (codes "crds")) else admit (admit_asked f))

-- text has colours on a terminal
abbrev pub text_form : Bool → Output
text_form is_terminal = if is_terminal then form.Coloured else form.Text

abbrev pub form_named : List ℕ → Bool → Output
form_named name is_terminal = if bytes_eq name (codes "json") then form.Json else (
    if bytes_eq name (codes "github") then form.Github else (
    if bytes_eq name (codes "junit") then form.Junit else text_form is_terminal))

-- the form of output with the name given, text by default
abbrev pub output_of : Found → Bool → Output
output_of f is_terminal =
    option_map_or (λ name. form_named name is_terminal)
    (first_value f (codes "output")) (text_form is_terminal)

-- ---- views of the code's values

-- an argument with these rules
abbrev pub IsOption : Rule → Arg → Type 0
IsOption r a = (rule_of a ≡ r) × (a.global ≡ false)

-- a command that accepts these arguments
abbrev pub Understands : App → Command → Type 0
Understands a c = (app_of c ≡ a) × ((out-Command c).has_globals ≡ false)
