-- The errors under books that refuse the same texts.
use Rattle.cel.specs.Checks.{judgement}
use Rattle.cel_patterns.proofs.Entries.{entries-IsBook}
use Rattle.cel.specs.Book.{Book, Extends, IsBook, IsPlain, IsRefused}
use Rattle.cel.specs.Entries.{entries_of}
use Rattle.cel.specs.PatternBook.{PatternBook}
use Rattle.cel_patterns.proofs.Books.{Extends-refl}
use Rattle.cel.specs.Bindings.{Bindings}
use Rattle.cel_syntax.specs.Term.{Term}
use Rattle.kube_cel.proofs.Alike.{judged_alike}
use Rattle.kube_cel.specs.Answers.{report_of}
use Rattle.kube_cel.specs.Compiled.{compiled_accessors}
use Rattle.kube_cel.specs.Raw.{raw_accessors}
use Rattle.kube_cel.specs.Starts.{defaulted_start, tree_start}
use Rattle.kube_cel_walk.specs.Errors.{ErrorData}
use Rattle.kube_cel_walk.specs.RuleErrors.{too_deep}
use Rattle.kube_schema.specs.Visit.{Root, Visit, candidates, goes}
use Rattle.kube_schema.specs.Walk.{answers}
use Rattle.kube_cel_walk.specs.Verdicts.{bound_verdict, is_applicable, judged_error, list_of_option, outcome_in, rule_bindings, verdict}
use Rattle.kube_cel_walk.specs.Answers.{answer, place_bindings, rule_verdicts, verdicts}
use Rattle.kube_cel_walk.specs.WalkAccessors.{WalkAccessors}
use Rattle.kube_functions.specs.Kube.{all_library}
use Rattle.kube_functions.proofs.Alike.{plain_alike}
use Rattle.kube_functions.proofs.UnderBooks.{means_same}
use Rattle.kube_functions.specs.declared.sets.KubeFunctions.TheVariants.{All}
use Rattle.kube_schema.specs.View.{view_of}
use Rattle.kube_schema.specs.Compilation.{Compiled, Malformed}
use Rattle.serde_json.specs.Data.{Data}
use Rattle.std.proofs.Common.{◌≡◌, ◌↔◌, ◌==◌, ℕ, List, [], ◌∷◌, Option, None, option_map, Result, Ok, Err, if◌then◌else◌, refl, sym, ap, ◌∙◌}
use Rattle.std.specs.List.{flat_map}

module _ (a b : Book) (alike : (text : List ℕ) → IsRefused a text ↔ IsRefused b text) where
  outcome_same : (e : Bindings) (t : Term) → outcome_in all_library a e t ≡ outcome_in all_library b e t
  unfolding outcome_in
  outcome_same e t = means_same a b alike All t e

  bound_same : (e : Bindings) (path : List ℕ) (c : Compiled) → bound_verdict all_library a e path c ≡ bound_verdict all_library b e path c
  unfolding bound_verdict
  bound_same e path c = λ i. judged_error path c.fields (judgement (option_map (λ t. outcome_same e t i) c.message_tree) (outcome_same e c.tree i))

  module _ {S : Type 0} (form : WalkAccessors S) (is : form.library ≡ all_library) where
    compiled_same : (e : Bindings) (path : List ℕ) (c : Compiled) → bound_verdict form.library a e path c ≡ bound_verdict form.library b e path c
    compiled_same e path c = ap (λ l. bound_verdict l a e path c) is ∙ bound_same e path c ∙ sym (ap (λ l. bound_verdict l b e path c) is)

    verdict_same : (e : Bindings) (s : Visit S) (r : Result Compiled Malformed) → verdict form a e s r ≡ verdict form b e s r
    unfolding verdict
    verdict_same e s (Err m) = refl
    verdict_same e s (Ok c) = ap (λ v. if is_applicable s.old c then v else None) (compiled_same (rule_bindings form e s c.fields) s.path c)

    rules_same : (e : Bindings) (s : Visit S) → rule_verdicts form a e s ≡ rule_verdicts form b e s
    unfolding rule_verdicts
    rules_same e s = λ i. flat_map (λ r. list_of_option (verdict_same e s r i)) (form.rules s.node)

    verdicts_same : (s : Visit S) → verdicts form a s ≡ verdicts form b s
    unfolding verdicts
    verdicts_same s = ap (λ vs. if s.depth == 65 then too_deep s.path ∷ [] else (if form.runs_at s.node s.value then vs else [])) (rules_same (place_bindings form s) s)

    pub answer_same : (n : ℕ) (s : Visit S) → answer form a n s ≡ answer form b n s
    unfolding answer
    answer_same n s = λ i. answers (goes form.steps) (candidates form.steps) (λ t. verdicts_same t i) n s

pub plain_same : {S : Type 0} (a b : Book) → IsBook a → IsBook b → IsPlain a → IsPlain b → (form : WalkAccessors S) → form.library ≡ all_library → (root : Visit S) → answer form a 65 root ≡ answer form b 65 root
plain_same a b is_a is_b plain_a plain_b form is root = answer_same a b (plain_alike a b is_a is_b plain_a plain_b) form is 65 root

-- ---- lent books

abbrev Report : Type 0
Report = Result (Unit {0}) (List ErrorData)

-- two calls with one lent book, by the schema and by its tree in
-- either order: under the book as it is at the end, both give one list
pub tree_after_schema : (between after : Book) (schema value : Data) (old : Option Data) (root : Option Root) (first second : Report) → Extends after between
    → ((b : Book) → Extends b between → first ≡ report_of (answer raw_accessors b 65 (defaulted_start schema value old root)))
    → ((b : Book) → Extends b after → second ≡ report_of (answer compiled_accessors b 65 (tree_start (view_of 65 schema) value old root)))
    → first ≡ second
tree_after_schema between after schema value old root first second kept f s =
    f after kept ∙ sym (ap report_of (judged_alike after schema value old root (view_of 65 schema) refl)) ∙ sym (s after (Extends-refl after))

pub schema_after_tree : (between after : Book) (schema value : Data) (old : Option Data) (root : Option Root) (first second : Report) → Extends after between
    → ((b : Book) → Extends b between → first ≡ report_of (answer compiled_accessors b 65 (tree_start (view_of 65 schema) value old root)))
    → ((b : Book) → Extends b after → second ≡ report_of (answer raw_accessors b 65 (defaulted_start schema value old root)))
    → first ≡ second
schema_after_tree between after schema value old root first second kept f s =
    f after kept ∙ ap report_of (judged_alike after schema value old root (view_of 65 schema) refl) ∙ sym (s after (Extends-refl after))

pub under_plain : {S : Type 0} (lent : PatternBook) (plain : Book) → IsPlain (entries_of lent) → IsBook plain → IsPlain plain → (form : WalkAccessors S) → form.library ≡ all_library → (root : Visit S) (r : Report)
    → ((b : Book) → Extends b (entries_of lent) → r ≡ report_of (answer form b 65 root)) → r ≡ report_of (answer form plain 65 root)
under_plain lent plain plain_lent is_book is_plain form is root r h =
    h (entries_of lent) (Extends-refl (entries_of lent)) ∙ ap report_of (plain_same (entries_of lent) plain (entries-IsBook lent) is_book plain_lent is_plain form is root)
