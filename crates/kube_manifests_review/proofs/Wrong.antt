-- A call in a form that the function doesn't have.
use Rattle.std.proofs.Common.{◌≡◌, ℕ, List, [], ◌∷◌, Bool, Option, is_some, length, ap, ◌∙◌}
use Rattle.cel.specs.Form.TheVariants.{Wrong}
use Rattle.cel_syntax.specs.Term.{Term}
use Rattle.kube_functions.specs.Kube.{all_library}
use Rattle.kube_manifests_review.specs.Calls.{Text, call_candidates, form_candidates, text_candidate, wrong_text}
use Rattle.kube_manifests_review.specs.Candidates.{always}
use Rattle.kube_manifests_review.specs.declared.finding.ReviewKind.TheVariants as kind

pub wrong_candidate : (t : Text) (r : Option Term) (name : List ℕ) (ts : List Term) (has : Bool) (n : ℕ) → has ≡ is_some r → n ≡ length ts → Wrong ≡ all_library.form_of name has n
    → text_candidate t kind.Call (wrong_text name has n) always ∷ [] ≡ call_candidates t r name ts
wrong_candidate t r name ts has n e f g =
    ap (λ b. text_candidate t kind.Call (wrong_text name b n) always ∷ []) e ∙ ap (λ m. text_candidate t kind.Call (wrong_text name (is_some r) m) always ∷ []) f
    ∙ ap (λ w. form_candidates w t r name ts) (g ∙ ap (λ b. all_library.form_of name b n) e ∙ ap (λ m. all_library.form_of name (is_some r) m) f)
