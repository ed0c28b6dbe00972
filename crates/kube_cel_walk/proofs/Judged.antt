-- The errors at one place.
use Rattle.cel.specs.Alike.{NamesAlike}
use Rattle.cel.specs.Part.{Part}
use Rattle.cel.specs.Book.{Book}
use Rattle.cel.specs.Bindings.{Bindings, binding}
use Rattle.kube_cel_walk.specs.Errors.{ErrorData}
use Rattle.kube_cel_walk.specs.RuleErrors.{too_deep}
use Rattle.kube_schema_rules.specs.Visit.{Visit}
use Rattle.kube_cel_walk.proofs.ReadVerdicts.{names_rooted, verdicts_read}
use Rattle.kube_cel_walk.specs.Verdicts.{list_of_option, verdict, with_old, with_root}
use Rattle.kube_cel_walk.specs.Answers.{bound_at, place_bindings, rule_verdicts, verdicts}
use Rattle.kube_cel_walk.specs.WalkAccessors.{WalkAccessors}
use Rattle.kube_schema_rules.specs.Demands.{rules_read}
use Rattle.std.proofs.Common.{◌≡◌, ◌==◌, ℕ, List, [], ◌∷◌, Bool, true, false, length, map, Option, None, option_map, codes, if◌then◌else◌, refl, sym, ap, ◌∙◌, subst, arith}
use Rattle.std.proofs.lemmas.Bool.Decides.{nat_tests}
use Rattle.std.specs.List.{flat_map}

pub none_of : {A B : Type 0} (f : A → B) (xs : List A) → (length xs == 0) ≡ true → map f xs ≡ []
none_of f [] h = refl
none_of f (x ∷ xs) h =
    let some : (length (x ∷ xs) == 0) ≡ false = grind (arith, nat_tests) in
    cc

module _ {S : Type 0} (form : WalkAccessors S) where
  -- `self`, then `oldSelf`, then the names of the root context
  pub placed : (read : List ℕ → Option Part) (s : Visit S) (e1 e2 : Bindings) → NamesAlike read e1 (with_old (option_map (bound_at form s) s.old) ((codes "self", bound_at form s s.value) ∷ []))
      → ((y : List ℕ) → binding y e2 ≡ binding y (with_root s.root e1)) → NamesAlike read e2 (place_bindings form s)
  unfolding place_bindings
  placed read s e1 e2 h1 h2 = names_rooted read s.root e2 e1 (with_old (option_map (bound_at form s) s.old) ((codes "self", bound_at form s s.value) ∷ [])) h1 h2

  -- `self` alone, where there are no other names
  pub alone : (read : List ℕ → Option Part) (s : Visit S) (e : Bindings) → s.old ≡ None → s.root ≡ None
      → NamesAlike read e ((codes "self", bound_at form s s.value) ∷ []) → NamesAlike read e (place_bindings form s)
  unfolding place_bindings
  alone read s e no_old no_root h =
      subst (λ o. NamesAlike read e (with_root s.root (with_old (option_map (bound_at form s) o) ((codes "self", bound_at form s s.value) ∷ [])))) (sym no_old)
      (subst (λ r. NamesAlike read e (with_root r ((codes "self", bound_at form s s.value) ∷ []))) (sym no_root) h)

  at_depth : Book → Visit S → Bool → Bool → List ErrorData
  at_depth b s t runs = if t then too_deep s.path ∷ [] else (if runs then rule_verdicts form b (place_bindings form s) s else [])

  pub deep_found : (b : Book) (s : Visit S) → s.depth ≡ 65 → verdicts form b s ≡ too_deep s.path ∷ []
  unfolding verdicts at_depth
  deep_found b s e =
      let t : (s.depth == 65) ≡ true = grind (arith, nat_tests, e) in
      ap (λ t. at_depth b s t (form.runs_at s.node s.value)) t

  pub no_rules_found : (b : Book) (s : Visit S) → form.rules s.node ≡ [] → rule_verdicts form b (place_bindings form s) s ≡ []
  unfolding rule_verdicts
  no_rules_found b s n = ap (flat_map (λ r. list_of_option (verdict form b (place_bindings form s) s r))) n

  -- either way
  none_run : (runs : Bool) (es : List ErrorData) → es ≡ [] → (if runs then es else []) ≡ []
  none_run true es e = e
  none_run false es e = refl

  pub none_found : (b : Book) (s : Visit S) → (s.depth == 65) ≡ false → form.rules s.node ≡ [] → verdicts form b s ≡ []
  unfolding verdicts at_depth
  none_found b s t n = ap (λ t. at_depth b s t (form.runs_at s.node s.value)) t ∙ none_run (form.runs_at s.node s.value) (rule_verdicts form b (place_bindings form s) s) (no_rules_found b s n)

  pub shallow_found : (b : Book) (s : Visit S) → (s.depth == 65) ≡ false → form.runs_at s.node s.value ≡ true → verdicts form b s ≡ rule_verdicts form b (place_bindings form s) s
  unfolding verdicts at_depth
  shallow_found b s t r = λ i. at_depth b s (t i) (r i)

  pub unrun_found : (b : Book) (s : Visit S) → (s.depth == 65) ≡ false → form.runs_at s.node s.value ≡ false → verdicts form b s ≡ []
  unfolding verdicts at_depth
  unrun_found b s t r = λ i. at_depth b s (t i) (r i)

  pub rules_found : (b : Book) (s : Visit S) (e : Bindings) → NamesAlike (λ x. rules_read x (form.rules s.node)) e (place_bindings form s)
      → flat_map (λ r. list_of_option (verdict form b e s r)) (form.rules s.node) ≡ rule_verdicts form b (place_bindings form s) s
  unfolding rule_verdicts
  rules_found b s e h = verdicts_read form b e (place_bindings form s) s (form.rules s.node) h
