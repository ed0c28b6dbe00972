use Rattle.std.proofs.Common.{arith}
use Rattle.std.proofs.lemmas.List.{map-append}
use Rattle.std.proofs.lemmas.Map.Text.{text_keys}
use Rattle.kube_types.proofs.urls.query.add_value.Goals as goal

pub returns : goal.returns
returns c = record { answer = λ other. grind (arith, text_keys, map-append) }
