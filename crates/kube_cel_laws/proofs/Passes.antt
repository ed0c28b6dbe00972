-- What has no error under a book has none under a book that refuses no more.
use Rattle.cel.specs.Checks.{judgement, value_judgement}
use Rattle.cel.specs.Book.{Book, IsPlain}
use Rattle.cel.specs.Bindings.{Bindings}
use Rattle.cel.specs.Outcome.{Outcome}
use Rattle.cel_syntax.specs.Term.{Term}
use Rattle.cel_value.specs.Parts.{bool_in}
use Rattle.cel_value.specs.View.{kind_of}
use Rattle.cel_value.specs.declared.kind.Kind.{Kind}
use Rattle.kube_cel.specs.Answers.{IsReportOf, report_of}
use Rattle.kube_cel_laws.proofs.Books.{plain_refuses_least}
use Rattle.kube_cel_laws.proofs.Functions.{tree_kept}
use Rattle.kube_cel_laws.proofs.Results.{Keeps}
use Rattle.kube_cel_laws.specs.Books.{RefusesNoMore}
use Rattle.kube_cel.specs.WalkAnswers.{answer, place_bindings, rule_verdicts, verdicts}
use Rattle.kube_cel.specs.Errors.{ErrorData}
use Rattle.kube_cel.specs.RuleErrors.{too_deep}
use Rattle.kube_cel.specs.Verdicts.{bound_verdict, is_applicable, judged_error, list_of_option, outcome_in, rule_bindings, verdict}
use Rattle.kube_cel.specs.WalkAccessors.{WalkAccessors}
use Rattle.kube_cel.specs.Raw.{raw_accessors}
use Rattle.kube_functions.specs.Kube.{all_library}
use Rattle.kube_functions.specs.declared.sets.KubeFunctions.TheVariants.{All}
use Rattle.kube_schema.specs.Compilation.{Compiled, Malformed}
use Rattle.kube_schema.specs.Rules.{Fields}
use Rattle.kube_schema.specs.Visit.{Visit, candidates, goes}
use Rattle.kube_schema.specs.Walk.{answers, if_some, leads, places}
use Rattle.std.proofs.Common.{◌≡◌, ◌==◌, ℕ, List, [], ◌∷◌, ◌++◌, Bool, true, false, Option, Some, None, option_map, Result, Ok, Err, flat_map, if◌then◌else◌, refl, sym, ap, subst, ◌∙◌}

-- ---- lists of errors

left_none : {A : Type 0} (xs ys : List A) → xs ++ ys ≡ [] → xs ≡ []
left_none [] ys e = refl
left_none (x ∷ xs) ys e = cc

right_none : {A : Type 0} (xs ys : List A) → xs ++ ys ≡ [] → ys ≡ []
right_none [] ys e = e
right_none (x ∷ xs) ys e = cc

none_kept : {A E : Type 0} (f g : A → List E) → ((x : A) → f x ≡ [] → g x ≡ []) → (xs : List A) → flat_map f xs ≡ [] → flat_map g xs ≡ []
none_kept f g h [] e = refl
none_kept f g h (x ∷ xs) e = λ i. h x (left_none (f x) (flat_map f xs) e) i ++ none_kept f g h xs (right_none (f x) (flat_map f xs) e) i

listed_none : {A : Type 0} (o : Option A) → list_of_option o ≡ [] → o ≡ None
listed_none None e = refl
listed_none (Some a) e = cc

unless_deep : (deep : Bool) (x : ErrorData) (xs ys : List ErrorData) → (xs ≡ [] → ys ≡ []) → (if deep then x ∷ [] else xs) ≡ [] → (if deep then x ∷ [] else ys) ≡ []
unless_deep true x xs ys h e = cc
unless_deep false x xs ys h e = h e

if_run : (runs : Bool) (xs ys : List ErrorData) → (xs ≡ [] → ys ≡ []) → (if runs then xs else []) ≡ [] → (if runs then ys else []) ≡ []
if_run true xs ys h e = h e
if_run false xs ys h e = refl

-- ---- the verdict of a rule

value_passes : (path : List ℕ) (r : Fields) (m n : Option Outcome) (k : Kind) (o : Option Bool) → judged_error path r (value_judgement m k o) ≡ None → judged_error path r (value_judgement n k o) ≡ None
value_passes path r m n k (Some true) e = refl
value_passes path r m n k (Some false) e = cc
value_passes path r m n k None e = cc

outcome_passes : (path : List ℕ) (r : Fields) (m n : Option Outcome) (x y : Outcome) → Keeps x y → judged_error path r (judgement m x) ≡ None → judged_error path r (judgement n y) ≡ None
outcome_passes path r m n (Ok v) y k e = subst (λ z. judged_error path r (judgement n z) ≡ None) (sym k) (value_passes path r m n (kind_of v) (bool_in v) e)
outcome_passes path r m n (Err x) y k e = cc

if_applicable : (applies : Bool) (o p : Option ErrorData) → (o ≡ None → p ≡ None) → (if applies then o else None) ≡ None → (if applies then p else None) ≡ None
if_applicable true o p h e = h e
if_applicable false o p h e = refl

module _ (strict lenient : Book) (no_more : RefusesNoMore lenient strict) where
  outcome_kept : (e : Bindings) (t : Term) → Keeps (outcome_in all_library strict e t) (outcome_in all_library lenient e t)
  unfolding outcome_in
  outcome_kept e t = tree_kept strict lenient no_more All t e

  bound_passes : (e : Bindings) (path : List ℕ) (c : Compiled) → bound_verdict all_library strict e path c ≡ None → bound_verdict all_library lenient e path c ≡ None
  unfolding bound_verdict
  bound_passes e path c h = outcome_passes path c.fields (option_map (outcome_in all_library strict e) c.message_tree) (option_map (outcome_in all_library lenient e) c.message_tree)
      (outcome_in all_library strict e c.tree) (outcome_in all_library lenient e c.tree) (outcome_kept e c.tree) h

  -- ---- all places

  module _ {S : Type 0} (form : WalkAccessors S) (is : form.library ≡ all_library) where
    compiled_passes : (e : Bindings) (path : List ℕ) (c : Compiled) → bound_verdict form.library strict e path c ≡ None → bound_verdict form.library lenient e path c ≡ None
    compiled_passes e path c h = ap (λ l. bound_verdict l lenient e path c) is ∙ bound_passes e path c (sym (ap (λ l. bound_verdict l strict e path c) is) ∙ h)

    rule_passes : (e : Bindings) (s : Visit S) (r : Result Compiled Malformed) → verdict form strict e s r ≡ None → verdict form lenient e s r ≡ None
    unfolding verdict
    rule_passes e s (Err m) h = cc
    rule_passes e s (Ok c) h =
        let f = rule_bindings form e s c.fields in
        if_applicable (is_applicable s.old c) (bound_verdict form.library strict f s.path c) (bound_verdict form.library lenient f s.path c) (compiled_passes f s.path c) h

    rules_pass : (e : Bindings) (s : Visit S) → rule_verdicts form strict e s ≡ [] → rule_verdicts form lenient e s ≡ []
    unfolding rule_verdicts
    rules_pass e s = none_kept (λ r. list_of_option (verdict form strict e s r)) (λ r. list_of_option (verdict form lenient e s r))
        (λ r h. ap list_of_option (rule_passes e s r (listed_none (verdict form strict e s r) h))) (form.rules s.node)

    place_passes : (s : Visit S) → verdicts form strict s ≡ [] → verdicts form lenient s ≡ []
    unfolding verdicts
    place_passes s =
        let runs = form.runs_at s.node s.value in
        let first = rule_verdicts form strict (place_bindings form s) s in
        let second = rule_verdicts form lenient (place_bindings form s) s in
        unless_deep (s.depth == 65) (too_deep s.path) (if runs then first else []) (if runs then second else []) (if_run runs first second (rules_pass (place_bindings form s) s))

    reached_passes : (o : Option (Visit S)) → if_some (verdicts form strict) o ≡ [] → if_some (verdicts form lenient) o ≡ []
    reached_passes None e = refl
    reached_passes (Some s) e = place_passes s e

    pub answer_passes : (n : ℕ) (s : Visit S) → answer form strict n s ≡ [] → answer form lenient n s ≡ []
    unfolding answer answers
    answer_passes n s = none_kept (λ p. if_some (verdicts form strict) (leads (goes form.steps) p s)) (λ p. if_some (verdicts form lenient) (leads (goes form.steps) p s))
        (λ p. reached_passes (leads (goes form.steps) p s)) (places (goes form.steps) (candidates form.steps) n s)

-- ---- reports

pub reported_none : (found : List ErrorData) → Ok tt ≡ report_of found → found ≡ []
reported_none [] e = refl
reported_none (x ∷ xs) e = cc

pub report_passes : (plain : Book) → IsPlain plain → {S : Type 0} (form : WalkAccessors S) → form.library ≡ all_library → (root : Visit S) → IsReportOf form root (Ok tt) → answer form plain 65 root ≡ []
report_passes plain is_plain form is root r = answer_passes r.0 plain (plain_refuses_least plain r.0 is_plain r.1) form is 65 root (reported_none (answer form r.0 65 root) r.2)

pub raw_library : raw_accessors.library ≡ all_library
unfolding raw_accessors
raw_library = refl
