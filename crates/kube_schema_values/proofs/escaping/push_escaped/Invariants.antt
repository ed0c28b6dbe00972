use Rattle.std.proofs.Common.{◌≡◌, ◌++◌, string_bytes}
use Rattle.std.specs.Str.Iter.{chars_rest}
use Rattle.kube_schema_values.specs.Escape.{escaped_text, held_text}
use Rattle.kube_schema_values.proofs.escaping.push_escaped.Given as goal

abbrev pub invariant-loop-character : goal.invariant-loop-character
invariant-loop-character l =
    string_bytes l.out ++ escaped_text (held_text l.holds_underscore ++ chars_rest l.character-iterator) ≡ string_bytes l.initial.out ++ escaped_text l.name
