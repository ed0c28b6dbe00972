-- Trusted by the clauses of celcheck.
-- The commands in the words of a command line.
use Rattle.celcheck_cli.specs.declared.words.Command.{Command}
use Rattle.celcheck_cli.specs.declared.words.Command.TheVariants as command
use Rattle.celcheck_cli.specs.declared.words.Named.{Named}
use Rattle.std.specs.Prelude.{ℕ, List, [], ◌∷◌, Option, Some, None, option_map, codes, if◌then◌else◌}
use Rattle.std.specs.Str.{bytes_eq}

-- the files that `check` names: a schema, an object and, optionally, the old object
pub record Paths : Type 0 where
  pub schema : List ℕ
  pub object : List ℕ
  pub old : Option (List ℕ)

pub data CommandData : Type 0 where
  -- validates an object
  check : Paths → CommandData
  -- evaluates the expression in a text
  eval : List ℕ → CommandData
  -- evaluates the validations of a policy, given the paths of the policy and of an object
  vap : List ℕ → List ℕ → CommandData
  -- lints the schema at a path
  lint : List ℕ → CommandData

abbrev pub command_of_one : List ℕ → List ℕ → Option CommandData
command_of_one name word =
    if bytes_eq name (codes "eval") then Some (eval word) else
    (if bytes_eq name (codes "lint") then Some (lint word) else None)

abbrev pub command_of_two : List ℕ → List ℕ → List ℕ → Option CommandData
command_of_two name first second =
    if bytes_eq name (codes "check")
    then Some (check (record { schema = first; object = second; old = None }))
    else (if bytes_eq name (codes "vap") then Some (vap first second) else None)

abbrev pub command_of_three : List ℕ → List ℕ → List ℕ → List ℕ → Option CommandData
command_of_three name first second third =
    if bytes_eq name (codes "check")
    then Some (check (record { schema = first; object = second; old = Some third }))
    else None

-- the command in the words `check SCHEMA OBJECT [OLD]`, `eval TEXT`, `vap POLICY OBJECT` or `lint
-- SCHEMA`; other words are no command
unfoldable pub command_of : List (List ℕ) → Option CommandData
command_of [] = None
command_of (name ∷ []) = None
command_of (name ∷ word ∷ []) = command_of_one name word
command_of (name ∷ first ∷ second ∷ []) = command_of_two name first second
command_of (name ∷ first ∷ second ∷ third ∷ []) = command_of_three name first second third
command_of (name ∷ first ∷ second ∷ third ∷ more ∷ rest) = None

-- if the command is `check`
abbrev pub IfCheck : Option CommandData → (Paths → Type 0) → Type 0
IfCheck (Some (check named)) P = P named
IfCheck _ P = Unit {0}

-- if the command is `eval`
abbrev pub IfEval : Option CommandData → (List ℕ → Type 0) → Type 0
IfEval (Some (eval text)) P = P text
IfEval _ P = Unit {0}

-- if the command is `vap`
abbrev pub IfVap : Option CommandData → (List ℕ → List ℕ → Type 0) → Type 0
IfVap (Some (vap policy object)) P = P policy object
IfVap _ P = Unit {0}

-- if the command is `lint`
abbrev pub IfLint : Option CommandData → (List ℕ → Type 0) → Type 0
IfLint (Some (lint schema)) P = P schema
IfLint _ P = Unit {0}

-- ---- views of the code's values

abbrev pub named_view : Named → Paths
named_view n = record { schema = n.schema.now; object = n.object.now; old = option_map (λ s. s.now) n.old }

abbrev pub command_view : Command → CommandData
command_view (command.Check n) = check (named_view n)
command_view (command.Eval text) = eval text.now
command_view (command.Vap policy object) = vap policy.now object.now
command_view (command.Lint schema) = lint schema.now
