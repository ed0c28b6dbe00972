-- Scaffolding: only proofs and private clauses cite it.
-- The functions that the rules of a compiled schema may call.
use Rattle.kube_cel.specs.Compiled.{compiled_accessors}
use Rattle.kube_functions.specs.Kube.{all_library}
use Rattle.std.specs.Prelude.{◌≡◌}
use mathlib.Core.Path.{refl}

pub one_library : {F : Type 0} (functions : F) → all_library ≡ compiled_accessors.library
unfolding compiled_accessors
one_library functions = refl
