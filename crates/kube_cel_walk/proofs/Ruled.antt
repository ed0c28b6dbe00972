-- The verdict of one rule, case by case.
use Rattle.cel.specs.Checks.{judgement, value_judgement}
use Rattle.cel.specs.Book.{Book}
use Rattle.cel.specs.Bindings.{Bindings, binding}
use Rattle.cel.specs.Library.{Library}
use Rattle.cel.specs.Outcome.{Outcome}
use Rattle.cel_syntax.specs.Term.{Term}
use Rattle.cel_value.specs.Data.{Data}
use Rattle.cel_value.specs.Parts.{bool_in}
use Rattle.cel_value.specs.View.{kind_of}
use Rattle.cel_value.specs.declared.kind.Kind.{Kind}
use Rattle.kube_cel_walk.specs.AddedErrors.{is_true}
use Rattle.kube_cel_walk.specs.Errors.{ErrorData}
use Rattle.kube_cel_walk.specs.RuleErrors.{malformed_error}
use Rattle.cel.proofs.Bound.{meaning_same}
use Rattle.kube_cel_walk.specs.Verdicts.{is_applicable, is_old_optional, judged_error, optional_old_at, outcome_in, bound_verdict, compiled_verdict, verdict, with_old}
use Rattle.kube_cel_walk.specs.WalkAccessors.{WalkAccessors}
use Rattle.kube_schema_rules.specs.Compilation.{Compiled, Malformed}
use Rattle.kube_schema_rules.specs.Rules.{Fields}
use Rattle.kube_schema_rules.specs.Visit.{Visit}
use Rattle.std.proofs.Common.{◌≡◌, ℕ, List, Bool, true, false, Option, Some, None, option_map, unwrap_or, Result, Ok, Err, if◌then◌else◌, sym, ap, ◌∙◌, refl, true≢false}

-- ---- names that are bound to the same values

pub outcome_same : (l : Library) (b : Book) (t : Term) (e f : Bindings) → ((x : List ℕ) → binding x e ≡ binding x f) → outcome_in l b e t ≡ outcome_in l b f t
unfolding outcome_in
outcome_same l b t e f h = meaning_same l b t e f h

reported_same : (l : Library) (b : Book) (o : Option Term) (e f : Bindings) → ((x : List ℕ) → binding x e ≡ binding x f) → option_map (outcome_in l b e) o ≡ option_map (outcome_in l b f) o
reported_same l b None e f h = refl
reported_same l b (Some t) e f h = ap Some (outcome_same l b t e f h)

pub verdict_same : (l : Library) (b : Book) (path : List ℕ) (c : Compiled) (e f : Bindings) → ((x : List ℕ) → binding x e ≡ binding x f) → bound_verdict l b e path c ≡ bound_verdict l b f path c
unfolding bound_verdict
verdict_same l b path c e f h = λ i. judged_error path c.fields (judgement (reported_same l b c.message_tree e f h i) (outcome_same l b c.tree e f h i))

-- ---- a rule under given bindings

pub outcome_found : (l : Library) (b : Book) (e : Bindings) (path : List ℕ) (c : Compiled) (o : Outcome) → o ≡ outcome_in l b e c.tree
    → judged_error path c.fields (judgement (option_map (outcome_in l b e) c.message_tree) o) ≡ bound_verdict l b e path c
unfolding bound_verdict
outcome_found l b e path c o q = ap (λ o. judged_error path c.fields (judgement (option_map (outcome_in l b e) c.message_tree) o)) q

true_value : (path : List ℕ) (r : Fields) (m : Option Outcome) (k : Kind) (o : Option Bool) → unwrap_or o false ≡ true → judged_error path r (value_judgement m k o) ≡ None
true_value path r m k None h = absurd (true≢false (sym h))
true_value path r m k (Some false) h = absurd (true≢false (sym h))
true_value path r m k (Some true) h = refl

true_outcome : (path : List ℕ) (r : Fields) (m : Option Outcome) (o : Outcome) → is_true o ≡ true → judged_error path r (judgement m o) ≡ None
true_outcome path r m (Ok v) h = true_value path r m (kind_of v) (bool_in v) h
true_outcome path r m (Err e) h = absurd (true≢false (sym h))

-- no error if it is true
pub true_found : (l : Library) (b : Book) (e : Bindings) (path : List ℕ) (c : Compiled) (o : Outcome) → o ≡ outcome_in l b e c.tree → is_true o ≡ true → bound_verdict l b e path c ≡ None
true_found l b e path c o q h = sym (outcome_found l b e path c o q) ∙ true_outcome path c.fields (option_map (outcome_in l b e) c.message_tree) o h

-- ---- whether a rule applies, and how

abbrev judged : Library → Book → Bindings → Option Data → List ℕ → Compiled → Bool → Bool → Option ErrorData
judged l b e old path c applicable optional = if applicable then bound_verdict l b (if optional then with_old old e else e) path c else None

module _ {S : Type 0} (form : WalkAccessors S) where
  pub malformed_found : (b : Book) (e : Bindings) (s : Visit S) (r : Result Compiled Malformed) (m : Malformed) (x : ErrorData)
      → Err m ≡ r → x ≡ malformed_error s.path m → Some x ≡ verdict form b e s r
  unfolding verdict
  malformed_found b e s r m x p q = ap Some q ∙ ap (verdict form b e s) p

  pub compiled_found : (b : Book) (e : Bindings) (s : Visit S) (r : Result Compiled Malformed) (c : Compiled) (o : Option ErrorData)
      → Ok c ≡ r → o ≡ compiled_verdict form b e s c → o ≡ verdict form b e s r
  unfolding verdict
  compiled_found b e s r c o p q = q ∙ ap (verdict form b e s) p

  pub skipped_found : (b : Book) (e : Bindings) (s : Visit S) (c : Compiled) → is_applicable s.old c ≡ false → None ≡ compiled_verdict form b e s c
  skipped_found b e s c a = sym (ap (λ a. judged form.library b e (optional_old_at form s) s.path c a (is_old_optional c.fields)) a)

  pub plain_found : (b : Book) (e : Bindings) (s : Visit S) (c : Compiled) (o : Option ErrorData) → is_applicable s.old c ≡ true → is_old_optional c.fields ≡ false
      → o ≡ bound_verdict form.library b e s.path c → o ≡ compiled_verdict form b e s c
  plain_found b e s c o a n q = q ∙ sym (λ i. judged form.library b e (optional_old_at form s) s.path c (a i) (n i))

  pub optional_found : (b : Book) (e : Bindings) (s : Visit S) (c : Compiled) (o : Option ErrorData) → is_applicable s.old c ≡ true → is_old_optional c.fields ≡ true
      → o ≡ bound_verdict form.library b (with_old (optional_old_at form s) e) s.path c → o ≡ compiled_verdict form b e s c
  optional_found b e s c o a n q = q ∙ sym (λ i. judged form.library b e (optional_old_at form s) s.path c (a i) (n i))
