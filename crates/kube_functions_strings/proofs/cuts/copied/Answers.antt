use Rattle.std.proofs.Common.{rules}
use Rattle.std.proofs.lemmas.Str.{encodes-chars}
use Rattle.kube_functions_strings.proofs.cuts.copied.Goals as goal

pub returns : goal.returns
returns c = search (rules, encodes-chars)
