-- Trusted by the clauses of other library calls.
-- A name that is unknown in one form is unknown in all.
use Rattle.cel_semantics.specs.declared.functions.Form.{Form}
use Rattle.cel_semantics.specs.declared.functions.Form.TheVariants.{Unknown, Wrong, Known}
use Rattle.cel_stdlib.specs.Names.{standard_unknown}
use Rattle.cel_stdlib.specs.Standard.{standard_form}
use Rattle.kube_functions.specs.Kube.{added_form, either_form, is_added, kube_form, kube_library}
use Rattle.kube_functions.specs.Table.{function_named}
use Rattle.kube_functions.specs.Table as table
use Rattle.kube_functions.specs.declared.functions.Declaration.{Declaration}
use Rattle.kube_functions.specs.declared.sets.KubeFunctions.{KubeFunctions}
use Rattle.kube_functions.specs.declared.sets.KubeFunctions.TheVariants.{Standard, All}
use Rattle.std.proofs.Common.{◌≡◌, ℕ, List, Bool, true, false, ◌||◌, Option, Some, None, if◌then◌else◌, refl, ap, ◌∙◌}
use Rattle.std.specs.Option.{option_map_or}
use Rattle.std.specs.Prelude.{is_some}

not_added : (taken added : Bool) → (if taken then Known else (if added then Wrong else Unknown)) ≡ Unknown → added ≡ false
not_added true added h = cc
not_added false true h = cc
not_added false false h = refl

added_unknown : (name : List ℕ) (other : Bool) (number : ℕ) → is_added name ≡ false → added_form name other number ≡ Unknown
added_unknown name true number h = by (function_named name true) (function_named name false) h
  where
    by : (m g : Option Declaration) → (is_some m || is_some g) ≡ false
        → (if option_map_or (λ d. table.takes d number) m false then Known else (if is_some m || is_some g then Wrong else Unknown)) ≡ Unknown
    by None None h = refl
    by None (Some g) h = cc
    by (Some m) g h = cc
added_unknown name false number h = by (function_named name true) (function_named name false) h
  where
    by : (m g : Option Declaration) → (is_some m || is_some g) ≡ false
        → (if option_map_or (λ d. table.takes d number) g false then Known else (if is_some m || is_some g then Wrong else Unknown)) ≡ Unknown
    by None None h = refl
    by None (Some g) h = cc
    by (Some m) g h = cc

either_first : (form other : Form) → either_form form other ≡ Unknown → form ≡ Unknown
either_first Known other h = cc
either_first Wrong Known h = cc
either_first Wrong Wrong h = cc
either_first Wrong Unknown h = cc
either_first Unknown other h = refl

either_second : (form other : Form) → either_form form other ≡ Unknown → other ≡ Unknown
either_second Known other h = cc
either_second Wrong Known h = cc
either_second Wrong Wrong h = cc
either_second Wrong Unknown h = cc
either_second Unknown other h = h

pub kube_unknown : (name : List ℕ) (receiver other : Bool) (count number : ℕ) → kube_form name receiver count ≡ Unknown → kube_form name other number ≡ Unknown
kube_unknown name receiver other count number h =
    let first = standard_unknown name receiver other count number (either_first (standard_form name receiver count) (added_form name receiver count) h) in
    let second = added_unknown name other number (not_added _ (is_added name) (either_second (standard_form name receiver count) (added_form name receiver count) h)) in
    ap (λ form. either_form form (added_form name other number)) first ∙ second

pub unknown_by_name : (functions : KubeFunctions) (name : List ℕ) (receiver other : Bool) (count number : ℕ)
    → (kube_library functions).form_of name receiver count ≡ Unknown → (kube_library functions).form_of name other number ≡ Unknown
unknown_by_name Standard = standard_unknown
unknown_by_name All = kube_unknown
