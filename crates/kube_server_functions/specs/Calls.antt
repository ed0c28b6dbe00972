-- Trusted by the clauses of other library calls.
-- The answers to calls of these functions. The operands are the receiver, if there is one, followed
-- by the arguments; `name` is the function's name in errors.
use Rattle.std.specs.Prelude.{ℕ, List, Option, Some, None, Ok, Err}
use Rattle.cel_value.specs.Data.{Data, text}
use Rattle.cel_value.specs.Faults.{no_overload}
use Rattle.cel_value.specs.View.{kind_of}
use Rattle.cel_semantics.specs.Outcome.{Outcome}
use Rattle.kube_server_authorizer.specs.Methods as authorizer
use Rattle.kube_server_times.specs.Spans.{getter}
use Rattle.kube_server_values.specs.Bools.{bool_of}
use Rattle.kube_server_values.specs.Maps.{map_of_pairs, map_of_maps}
use Rattle.kube_server_values.specs.Optionals.{some_of, none_of_all, some_of_nonzero, or_optional, or_value}
use Rattle.kube_server_values.specs.Pairs.{pairs_of}
use Rattle.kube_server_values.specs.Selections.{field_optional, index_optional}
use Rattle.kube_server_values.specs.Types.{type_name}
use Rattle.kube_server_functions.specs.declared.functions.Function.{Function}
use Rattle.kube_server_functions.specs.declared.functions.Function.TheVariants as function

abbrev pub answer : Function → List ℕ → Option Data → Option Data → Option Data → Outcome
answer function.OptionalNone name v w x = Ok none_of_all
answer function.OptionalOf name (Some v) w x = Ok (some_of v)
answer function.OptionalOfNonZeroValue name (Some v) w x = some_of_nonzero v
answer function.Bool name (Some v) w x = bool_of v
answer function.Dynamic name (Some v) w x = Ok v
answer function.Pairs name (Some v) w x = pairs_of v
answer function.MapOfPairs name (Some v) w x = map_of_pairs v
answer function.MapOfMaps name (Some v) w x = map_of_maps v
answer function.TypeName name (Some v) w x = Ok (text (type_name (kind_of v)))
answer (function.Getter f) name (Some v) w x = getter f name v w
answer (function.Authorizer f) name (Some v) w x = authorizer.answer f name v w x
answer function.Or name (Some v) (Some w) x = or_optional v w
answer function.OrValue name (Some v) (Some w) x = or_value v w
answer function.OptionalField name (Some v) (Some w) x = field_optional v w
answer function.OptionalIndex name (Some v) (Some w) x = index_optional v w
answer f name None w x = Err (no_overload name)
answer f name v None x = Err (no_overload name)
