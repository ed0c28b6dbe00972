-- Names that have no form.
use Rattle.cel.specs.Form.{Form}
use Rattle.cel.specs.Form.TheVariants.{Unknown, Wrong, Known}
use Rattle.kube_cel_analysis.specs.Findings.{is_unknown, is_unknown_form}
use Rattle.kube_functions.specs.Names.{unknown_by_name}
use Rattle.kube_functions.specs.Kube.{all_library}
use Rattle.kube_functions.specs.declared.sets.KubeFunctions.TheVariants.{All}
use Rattle.std.proofs.Common.{◌≡◌, ℕ, List, Bool, true, false, refl, ap}

form_is_unknown : (form : Form) → is_unknown_form form ≡ true → form ≡ Unknown
form_is_unknown Unknown h = refl
form_is_unknown Wrong h = cc
form_is_unknown Known h = cc

pub no_form : (name : List ℕ) → is_unknown name ≡ true → (receiver : Bool) (count : ℕ) → all_library.form_of name receiver count ≡ Unknown
unfolding is_unknown
no_form name h receiver count = unknown_by_name All name false receiver 0 count (form_is_unknown (all_library.form_of name false 0) h)

pub reported : (name : List ℕ) (receiver : Bool) (count : ℕ) → all_library.form_of name receiver count ≡ Unknown → is_unknown name ≡ true
unfolding is_unknown
reported name receiver count h = ap is_unknown_form (unknown_by_name All name receiver false count 0 h)
