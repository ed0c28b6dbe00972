-- Trusted by the headline.
-- What kube-cel makes of `oldSelf` in a rule that sets `optionalOldSelf` and has no old value (Kubernetes
-- documentation, "Transition rules", has an optional there): null.
use Rattle.cel_value.specs.Data.{Data, null}
use Rattle.serde_json.specs.Data.{Data as Json}
use Rattle.std.specs.Prelude.{Option, Some, None}

-- bound as in other rules if there is an old value
abbrev pub null_if_none : Option Json → Option Data
null_if_none None = Some null
null_if_none (Some old) = None
