use Rattle.std.proofs.Common.{◌≡◌, ◌++◌, length, string_bytes}
use denote.Text.{Utf8}
use denote.Shadow.{shadow}
use Rattle.kube_schema_values.specs.Unescape.{unescaped_text}
use Rattle.kube_schema_values.proofs.unescaping.unescaped.Given as goal

-- records that each `&str` that the loop changes is UTF-8
abbrev pub invariant-loop-name : goal.invariant-loop-name
invariant-loop-name l = shadow (Utf8 l.rest) × (string_bytes l.name ++ unescaped_text 0 l.rest ≡ unescaped_text 0 l.text)

abbrev pub decreases-loop-name : goal.decreases-loop-name
decreases-loop-name l = length l.rest
