-- Trusted by the clauses of policies.
-- The text of a refusal, and its kind as an I/O error.
use Rattle.std.specs.Prelude.{ℕ, List, codes}
use Rattle.std.specs.declared.io.ErrorKind.{ErrorKind}
use Rattle.std.specs.declared.io.ErrorKind.TheVariants.{InvalidInput, OutOfMemory}
use Rattle.kube_types_refused.specs.declared.Refused.{Refused}
use Rattle.kube_types_refused.specs.declared.Refused.TheVariants.{Memory, TooLarge}

abbrev pub refusal_text : Refused → List ℕ
refusal_text Memory = codes "memory is refused"
refusal_text TooLarge = codes "a text is too large"

abbrev pub refusal_kind : Refused → ErrorKind
refusal_kind Memory = OutOfMemory
refusal_kind TooLarge = InvalidInput
