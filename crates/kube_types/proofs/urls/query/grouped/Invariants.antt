use Rattle.std.proofs.Common.{◌≡◌, ℕ, List, map}
use Rattle.std.specs.BTreeMap.{get_by_text}
use Rattle.std.specs.Option.{option_map}
use Rattle.kube_types.specs.Url.Query.{values_of}
use Rattle.kube_types.specs.Url.Shown.{pair_texts, texts}
use Rattle.kube_types.proofs.urls.query.grouped.Given as goal

abbrev pub invariant-loop-name : goal.invariant-loop-name
invariant-loop-name l = (other : List ℕ) → option_map texts (get_by_text l.query other) ≡ values_of (map pair_texts l.yielded) other
