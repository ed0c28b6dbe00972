-- The findings under a book of patterns.
use Rattle.std.proofs.Common.{◌≡◌, ℕ, List, [], ◌∷◌, ◌++◌, Bool, Option, Some, None, is_none, is_err, option_map, Result, Ok, Err, refl, ap, ◌∙◌}
use Rattle.std.proofs.lemmas.List.{flat_map_more}
use Rattle.cel.specs.Book.{Book, matched_by, pattern_in}
use Rattle.cel.specs.Outcome.{outcome_view}
use Rattle.cel_value.specs.declared.error.ExecutionError.{ExecutionError}
use Rattle.cel_value.specs.declared.value.Value.{Value}
use Rattle.kube_manifests_review.specs.Candidates.{Candidate, due, is_refused, due_finding}

-- one more candidate
pub due_more : (ds : List Candidate) (d : Candidate) (b : Book) → due ds b ++ due_finding b d ≡ due (ds ++ d ∷ []) b
unfolding due
due_more ds d b = flat_map_more (due_finding b) [] ds d

none_mapped : {A B : Type 0} (f : A → B) (o : Option A) → is_none (option_map f o) ≡ is_none o
none_mapped f None = refl
none_mapped f (Some a) = refl

-- `matches` on the empty text has no answer exactly if the pattern is refused
pub refused_at : (b : Book) (p : List ℕ) (o : Option Bool) → o ≡ matched_by b p [] → is_none o ≡ is_refused p b
unfolding matched_by is_refused
refused_at b p o e = ap is_none e ∙ none_mapped _ (pattern_in b p)

pub err_seen : (r : Result Value ExecutionError) → is_err (outcome_view r) ≡ is_err r
err_seen (Ok v) = refl
err_seen (Err e) = refl
