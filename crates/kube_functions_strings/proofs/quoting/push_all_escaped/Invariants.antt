use Rattle.std.proofs.Common.{◌≡◌, ◌++◌, string_bytes}
use Rattle.std.specs.List.{flat_map}
use Rattle.kube_functions_strings.specs.Escapes.{escaped_character}
use Rattle.kube_functions_strings.proofs.quoting.push_all_escaped.Given as goal

abbrev pub invariant-loop-character : goal.invariant-loop-character
invariant-loop-character l = string_bytes l.out ≡ string_bytes l.fn.out ++ flat_map (escaped_character l.form) l.yielded
