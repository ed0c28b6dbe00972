-- The candidates for the findings of the linter, one finding after another.
use Rattle.std.proofs.Common.{◌≡◌, ℕ, List, [], ◌∷◌, ◌++◌, Option, refl, sym, ap, ◌∙◌, append_assoc, append-nil}
use Rattle.kube_cel_analysis.specs.Findings as linter
use Rattle.kube_manifests_review.specs.Candidates.{Candidate}
use Rattle.kube_manifests_review.specs.Linted.{last_lacking, lint_candidate, lint_candidates}

-- the rule that was last found to call what is lacking, after all findings
abbrev pub last_of : Option (List ℕ) → List linter.Finding → Option (List ℕ)
last_of last [] = last
last_of last (f ∷ fs) = last_of (last_lacking last f) fs

pub last_of_more : (last : Option (List ℕ)) (fs : List linter.Finding) (f : linter.Finding) → last_of last (fs ++ f ∷ []) ≡ last_lacking (last_of last fs) f
last_of_more last [] f = refl
last_of_more last (g ∷ fs) f = last_of_more (last_lacking last g) fs f

pub lint_more : (base : List ℕ) (last : Option (List ℕ)) (fs : List linter.Finding) (f : linter.Finding)
    → lint_candidates base last (fs ++ f ∷ []) ≡ lint_candidates base last fs ++ lint_candidate base (last_of last fs) f
lint_more base last [] f = append-nil (lint_candidate base last f)
lint_more base last (g ∷ fs) f =
    ap (λ r. lint_candidate base last g ++ r) (lint_more base (last_lacking last g) fs f)
    ∙ sym (append_assoc (lint_candidate base last g) (lint_candidates base (last_lacking last g) fs) (lint_candidate base (last_of (last_lacking last g) fs) f))
