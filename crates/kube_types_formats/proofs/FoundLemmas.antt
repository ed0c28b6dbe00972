-- The texts of a table's faults, one rule at a time.
use Rattle.std.proofs.Common.{◌≡◌, ℕ, ◌+◌, ◌<◌, ◌≤◌, Bool, true, false, List, [], ◌∷◌, ◌++◌, length, get_or, drop, refl, sym, ap, ◌∙◌, append_assoc}
use Rattle.std.proofs.lemmas.List.{at_drop_more, at_drop_all, append-nil}
use Rattle.kube_types_formats.specs.declared.fault.Fault.{Fault}
use Rattle.kube_types_formats.specs.Found.{faults_found}

pub chosen_first : (prefix : List ℕ) (rule : Bool × Fault) (rules : List (Bool × Fault)) → faults_found prefix (rule ∷ []) ++ faults_found prefix rules ≡ faults_found prefix (rule ∷ rules)
unfolding faults_found
chosen_first prefix (true, fault) rules = refl
chosen_first prefix (false, fault) rules = refl

-- one more rule
pub chosen_turn : (prefix : List ℕ) (rules : List (Bool × Fault)) (i : ℕ) (rule : Bool × Fault) (before after : List (List ℕ)) → i < length rules → after ≡ before ++ faults_found prefix (get_or rules i rule ∷ []) → after ++ faults_found prefix (drop (i + 1) rules) ≡ before ++ faults_found prefix (drop i rules)
chosen_turn prefix rules i rule before after h added =
    ap (λ texts. texts ++ faults_found prefix (drop (i + 1) rules)) added
    ∙ (append_assoc before (faults_found prefix (get_or rules i rule ∷ [])) (faults_found prefix (drop (i + 1) rules))
    ∙ ap (λ texts. before ++ texts) (chosen_first prefix (get_or rules i rule) (drop (i + 1) rules)
    ∙ sym (at_drop_more (faults_found prefix) rules i rule h)))

chosen_end : (prefix : List ℕ) (rules : List (Bool × Fault)) (i : ℕ) → length rules ≤ i → faults_found prefix (drop i rules) ≡ []
unfolding faults_found
chosen_end prefix rules i h = at_drop_all (faults_found prefix) rules i h

-- no rule is left
pub chosen_done : (prefix : List ℕ) (rules : List (Bool × Fault)) (i : ℕ) (before after : List (List ℕ)) → length rules ≤ i → after ++ faults_found prefix (drop i rules) ≡ before → after ≡ before
chosen_done prefix rules i before after h e =
    sym (append-nil after) ∙ (ap (λ texts. after ++ texts) (sym (chosen_end prefix rules i h)) ∙ e)
