-- Scaffolding: only proofs and private clauses cite it.
-- What is wrong with a macro, in words for users.
use Rattle.std.specs.Prelude.{ℕ, List, codes}
use Rattle.kube_server_translation.specs.declared.error.Malformed.{Malformed}
use Rattle.kube_server_translation.specs.declared.error.Malformed.TheVariants.{Variable, SameVariables, Selection}

abbrev pub text_of : Malformed → List ℕ
text_of Variable = codes "the variable of a macro must be a name"
text_of SameVariables = codes "the two variables of a macro must have different names"
text_of Selection = codes "has() takes the selection of a field, as in has(a.b)"
