-- Trusted by laws alone.
-- What a call stands for. Sources: section "Macros" of the CEL language definition; documentation of
-- CEL-Go, `cel.OptionalTypes`, `ext.Bindings` and `ext.TwoVarComprehensions`.
use Rattle.std.specs.Prelude.{ℕ, nat_eq, List, [], ◌∷◌, codes, Option, Some, None, option_map, if◌then◌else◌}
use Rattle.std.specs.Map.{lookup}
use Rattle.std.specs.Option.{option_and_then, option_or, unwrap_or}
use Rattle.std.specs.Str.{bytes_eq}
use Rattle.cel_syntax_ast.specs.declared.expr.MacroKind.TheVariants as macro
use Rattle.cel_syntax_ast.specs.Calls.{kind_of}
use Rattle.kube_server_syntax.specs.Tree.{Tree, ident, round, Trees, no_trees, tree_and}
use Rattle.kube_server_translation.specs.declared.kind.CallKind.{CallKind}
use Rattle.kube_server_translation.specs.declared.kind.CallKind.TheVariants as kind

-- the name that a tree is, if it is one
abbrev pub name_of : Tree → Option (List ℕ)
name_of (ident p x) = Some x
name_of (round p t) = name_of t
name_of _ = None

-- ---- tables: names with what a call stands for

abbrev pub Table : Type 0
Table = List (List ℕ × CallKind)

-- with one argument and without a target
abbrev pub globals : Table
globals = (codes "has", kind.Has) ∷ (codes "dyn", kind.Dynamic) ∷ (codes "type", kind.Type) ∷ []

-- on a target, by the number of arguments
abbrev pub methods_of_none : Table
methods_of_none = (codes "hasValue", kind.HasValue) ∷ (codes "value", kind.Value) ∷ []

abbrev pub methods_of_one : Table
methods_of_one = (codes "or", kind.Or) ∷ (codes "orValue", kind.OrValue) ∷ []

abbrev pub methods_of_two : Table
methods_of_two = (codes "optMap", kind.OptMap) ∷ (codes "optFlatMap", kind.OptFlatMap) ∷ []

abbrev pub methods_of_three : Table
methods_of_three =
    (codes "all", kind.TwoVariables macro.All)
    ∷ (codes "exists", kind.TwoVariables macro.Exists)
    ∷ (codes "existsOne", kind.TwoVariables macro.ExistsOne)
    ∷ (codes "exists_one", kind.TwoVariables macro.ExistsOne)
    ∷ (codes "transformList", kind.TwoVariables macro.Map)
    ∷ (codes "transformMap", kind.TransformMap)
    ∷ (codes "transformMapEntry", kind.TransformMapEntry)
    ∷ []

abbrev pub methods_of_four : Table
methods_of_four =
    (codes "transformList", kind.TwoVariables macro.Map)
    ∷ (codes "transformMap", kind.TransformMap)
    ∷ (codes "transformMapEntry", kind.TransformMapEntry)
    ∷ []

-- on the name `optional`, and on the name `cel`
abbrev pub optionals_of_none : Table
optionals_of_none = (codes "none", kind.Optional) ∷ []

abbrev pub optionals_of_one : Table
optionals_of_one = (codes "of", kind.Optional) ∷ (codes "ofNonZeroValue", kind.Optional) ∷ []

abbrev pub bindings_of_three : Table
bindings_of_three = (codes "bind", kind.Bind) ∷ []

-- ---- the tables of a call with `n` arguments

abbrev pub methods : ℕ → Table
methods n =
    if nat_eq n 0 then methods_of_none
    else (if nat_eq n 1 then methods_of_one
    else (if nat_eq n 2 then methods_of_two
    else (if nat_eq n 3 then methods_of_three
    else (if nat_eq n 4 then methods_of_four else []))))

abbrev pub optionals : ℕ → Table
optionals n = if nat_eq n 0 then optionals_of_none else (if nat_eq n 1 then optionals_of_one else [])

abbrev pub bindings : ℕ → Table
bindings n = if nat_eq n 3 then bindings_of_three else []

-- those of the functions and macros that begin with a name
abbrev pub dotted : List ℕ → ℕ → Table
dotted x n =
    if bytes_eq x (codes "optional") then optionals n
    else (if bytes_eq x (codes "cel") then bindings n else [])

-- ---- the kind of a call with `n` arguments

abbrev pub kind_in : Table → List ℕ → Option CallKind
kind_in table w = lookup (bytes_eq w) table

abbrev pub global_kind : List ℕ → ℕ → CallKind
global_kind w n = unwrap_or (kind_in (if nat_eq n 1 then globals else []) w) kind.Ordinary

-- the kind on a target, given the name that the target is, if it is one
abbrev pub method_kind : Option (List ℕ) → List ℕ → ℕ → CallKind
method_kind target w n =
    unwrap_or
    (option_or (option_and_then (λ x. kind_in (dotted x n) w) target)
    (option_or (option_map kind.OneVariable (kind_of w n)) (kind_in (methods n) w)))
    kind.Ordinary

abbrev pub kind_of_call : Trees → List ℕ → ℕ → CallKind
kind_of_call no_trees w n = global_kind w n
kind_of_call (tree_and t ts) w n = method_kind (name_of t) w n
