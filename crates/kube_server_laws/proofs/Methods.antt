-- Methods of optionals.
use Rattle.std.proofs.Common.{◌≡◌, ℕ, List, [], ◌∷◌, codes, true, false, ◌||◌, Option, Some, None, Ok, Err, refl, ap, ◌∙◌, sym, if◌then◌else◌}
use Rattle.std.specs.Prelude.{is_some}
use Rattle.cel_patterns.specs.Book.{Book}
use Rattle.cel_value.specs.Data.{Data, bool, list, optional as optional_data, Items, no_items, item as item_and}
use Rattle.cel_value.specs.Find.{option_items}
use Rattle.cel_value.specs.Same.{items_have_double}
use Rattle.cel_semantics.specs.Bindings.{Bindings}
use Rattle.cel_semantics.specs.Calls.{call_outcome, receiver_of}
use Rattle.cel_semantics.specs.Decisions.{truth, branch_outcome}
use Rattle.cel_semantics.specs.Macros.{image_if, all_results, made_of as result_of}
use Rattle.cel_semantics.specs.Meaning.{meaning}
use Rattle.cel_semantics.specs.Outcome.{Outcome, and_then, all_values, no_doubles}
use Rattle.cel_syntax_ast.specs.Term as term
use Rattle.cel_syntax_ast.specs.Term.{Term, no_terms}
use Rattle.cel_syntax_ast.specs.declared.expr.MacroKind.TheVariants as macro
use Rattle.kube_server_functions.specs.Server.{server_library}
use Rattle.kube_server_laws.specs.Premises.{Holds, Means, MeansIn}
use Rattle.kube_server_laws.proofs.Calls.{as_kind, alone_made, has_value_kind, means_value, or_kind, taken, two_made, value_means}
use Rattle.kube_server_laws.proofs.Choices.{Choice, present, absent, failed, choose, if_set_chooses}
use Rattle.kube_server_laws.proofs.Outcomes.{alone, filtered, is_held_of, over, truth_of}
use Rattle.kube_server_laws.proofs.Terms.{bound_means}
use Rattle.kube_server_syntax.specs.Tree.{Tree, call, no_trees, tree_and}
use Rattle.kube_server_syntax.specs.declared.node.Place.{Place}
use Rattle.kube_server_translation.specs.Calls.{after, call_made}
use Rattle.kube_server_translation.specs.Forms as form
use Rattle.kube_server_translation.specs.Kinds.{name_of}
use Rattle.kube_server_translation.specs.Made.{Made, plain, optional, member, held, type_of, Names, is_optional, value_of, held_of, has_value, or_optional}
use Rattle.kube_server_translation.specs.Translation.{made}
use Rattle.kube_server_translation.specs.declared.kind.CallKind.TheVariants as kind

-- ---- hasValue

test_is : (r s : Outcome) (o : Option Data) → and_then (all_results (and_then (truth (codes "map") r) (image_if s) ∷ [])) (result_of macro.Map) ≡ Ok (list (option_items o)) → r ≡ truth_of (is_some o)
test_is (Ok (bool true)) (Ok v) (Some d) h = refl
test_is (Ok (bool true)) (Ok v) None h = cc
test_is (Ok (bool true)) (Err e) o h = cc
test_is (Ok (bool false)) s None h = refl
test_is (Ok (bool false)) s (Some d) h = cc
test_is (Err e) s o h = cc
test_is (Ok v) s o h = cc

-- a method without arguments
abbrev method_outcome : Book → List ℕ → Outcome → Outcome
method_outcome book w r = and_then (all_values (r ∷ [])) (λ rs. call_outcome server_library book w (receiver_of rs) [])

optional_has : (book : Book) (r : Outcome) (o : Option Data)
    → filtered (λ d. method_outcome book (codes "hasValue") (Ok d)) (λ d. method_outcome book (codes "value") (Ok d)) (alone r) ≡ Ok (list (option_items o))
    → method_outcome book (codes "hasValue") r ≡ truth_of (is_some o)
optional_has book (Ok d) o h = test_is (method_outcome book (codes "hasValue") (Ok d)) (method_outcome book (codes "value") (Ok d)) o h
optional_has book (Err e) o h = cc

choice_has : (c : Choice) (s : Outcome) (o : Option Data) → choose c (alone s) (Ok (list no_items)) ≡ Ok (list (option_items o)) → choose c (truth_of true) (truth_of false) ≡ truth_of (is_some o)
choice_has present (Ok v) (Some d) h = refl
choice_has present (Ok v) None h = cc
choice_has present (Err e) o h = cc
choice_has absent s None h = refl
choice_has absent s (Some d) h = cc
choice_has (failed e) s o h = cc

path_has : (book : Book) (t : Term) (x : List ℕ) (env : Bindings) (o : Option Data)
    → meaning server_library book (form.if_set t x (term.list_of (form.one (term.select t x))) (term.list_of no_terms)) env ≡ Ok (list (option_items o))
    → meaning server_library book (form.if_set t x (term.literal (bool true)) (term.literal (bool false))) env ≡ truth_of (is_some o)
path_has book t x env o h =
    let n = if_set_chooses book t x env in
    n.1 (term.literal (bool true)) (term.literal (bool false))
    ∙ choice_has n.0 (meaning server_library book (term.select t x) env) o (sym (n.1 (term.list_of (form.one (term.select t x))) (term.list_of no_terms)) ∙ h)

has_value_means : (book : Book) (m : Made) (env : Bindings) (o : Option Data) → is_optional m ≡ true → meaning server_library book (held_of m) env ≡ Ok (list (option_items o))
    → meaning server_library book (has_value m) env ≡ truth_of (is_some o)
has_value_means book (plain t) env o b h = cc
has_value_means book (optional t) env o b h = optional_has book (meaning server_library book t env) o h
has_value_means book (member t x) env o b h = path_has book (form.copied t) x env o h
has_value_means book (held l) env o b h = ap (over macro.Exists (λ d. truth_of true)) h ∙ is_held_of o
has_value_means book (type_of t) env o b h = cc

pub has_value_law : (book : Book) (names : Names) (p : Place) (o : Tree) (env : Bindings) (w : Option Data) → Holds book names o env (Ok w)
    → Means book names (call p (tree_and o no_trees) (codes "hasValue") no_trees) env (Ok (bool (is_some w)))
has_value_law book names p o env w h =
    value_means book names (call p (tree_and o no_trees) (codes "hasValue") no_trees) env (Ok (bool (is_some w))) (plain (has_value h.0))
    (as_kind names p (codes "hasValue") (tree_and o no_trees) no_trees kind.HasValue (has_value_kind (name_of o))
    ∙ ap (λ z. after (alone_made z) (λ ts. Ok (call_made kind.HasValue (codes "hasValue") [] ts []))) h.1)
    (has_value_means book h.0 env w h.2 h.3)

-- ---- or

or_of_some : (book : Book) (t p : Term) (env : Bindings) (v : Data) (ds : Items) → items_have_double (item_and v ds) ≡ false
    → meaning server_library book t env ≡ Ok (optional_data (item_and v ds))
    → meaning server_library book (form.bound (codes "@value") t (term.conditional (form.has_value form.its_value) form.its_value (term.call (form.one form.its_value) (codes "or") (form.one p)))) env
    ≡ Ok (optional_data (item_and v ds))
or_of_some book t p env v ds n h =
    bound_means book (codes "@value") t (term.conditional (form.has_value form.its_value) form.its_value (term.call (form.one form.its_value) (codes "or") (form.one p))) env
    ∙ (ap (λ z. and_then z (λ d. meaning server_library book (term.conditional (form.has_value form.its_value) form.its_value (term.call (form.one form.its_value) (codes "or") (form.one p))) ((codes "@value", d) ∷ env))) h
    ∙ ap (λ c. branch_outcome (truth (codes "?:") (if c || false then Err no_doubles else truth_of true)) (Ok (optional_data (item_and v ds)))
    (meaning server_library book (term.call (form.one form.its_value) (codes "or") (form.one p)) ((codes "@value", optional_data (item_and v ds)) ∷ env))) n)

or_of_none : (book : Book) (t p : Term) (env : Bindings) (es : Items) → items_have_double es ≡ false
    → meaning server_library book t env ≡ Ok (optional_data no_items)
    → meaning server_library book p ((codes "@value", optional_data no_items) ∷ env) ≡ Ok (optional_data es)
    → meaning server_library book (form.bound (codes "@value") t (term.conditional (form.has_value form.its_value) form.its_value (term.call (form.one form.its_value) (codes "or") (form.one p)))) env
    ≡ Ok (optional_data es)
or_of_none book t p env es n h k =
    bound_means book (codes "@value") t (term.conditional (form.has_value form.its_value) form.its_value (term.call (form.one form.its_value) (codes "or") (form.one p))) env
    ∙ (ap (λ z. and_then z (λ d. meaning server_library book (term.conditional (form.has_value form.its_value) form.its_value (term.call (form.one form.its_value) (codes "or") (form.one p))) ((codes "@value", d) ∷ env))) h
    ∙ (ap (λ z. and_then (all_values (z ∷ [])) (λ vs. call_outcome server_library book (codes "or") (Some (optional_data no_items)) vs)) k
    ∙ ap (λ c. if false || (c || false) then Err no_doubles else Ok (optional_data es)) n))

-- `o.or(p)`
abbrev pub or_call : Place → Tree → Tree → Tree
or_call q o p = call q (tree_and o no_trees) (codes "or") (tree_and p no_trees)

pub or_some_law : (book : Book) (names : Names) (q : Place) (o p : Tree) (env : Bindings) (v : Data) (ds : Items) (r : Outcome)
    → items_have_double (item_and v ds) ≡ false → Means book names o env (Ok (optional_data (item_and v ds))) → Means book names p env r
    → Means book names (or_call q o p) env (Ok (optional_data (item_and v ds)))
or_some_law book names q o p env v ds r d h k =
    let m = taken book env (Ok (optional_data (item_and v ds))) (made names o) h in
    let n = taken book env r (made names p) k in
    value_means book names (or_call q o p) env (Ok (optional_data (item_and v ds))) (optional (or_optional m.0 (value_of n.0)))
    (as_kind names q (codes "or") (tree_and o no_trees) (tree_and p no_trees) kind.Or (or_kind (name_of o))
    ∙ two_made (call_made kind.Or (codes "or") []) (made names o) (made names p) m.0 n.0 m.1 n.1)
    (or_of_some book (value_of m.0) (value_of n.0) env v ds d (means_value book names o env (Ok (optional_data (item_and v ds))) m.0 m.1 h))

pub or_none_law : (book : Book) (names : Names) (q : Place) (o p : Tree) (env : Bindings) (es : Items)
    → items_have_double es ≡ false → Means book names o env (Ok (optional_data no_items)) → MeansIn book names p [] env (Ok (optional_data es))
    → Means book names (or_call q o p) env (Ok (optional_data es))
or_none_law book names q o p env es d h k =
    let m = taken book env (Ok (optional_data no_items)) (made names o) h in
    let n = taken book env (Ok (optional_data es)) (made names p) (k [] refl) in
    value_means book names (or_call q o p) env (Ok (optional_data es)) (optional (or_optional m.0 (value_of n.0)))
    (as_kind names q (codes "or") (tree_and o no_trees) (tree_and p no_trees) kind.Or (or_kind (name_of o))
    ∙ two_made (call_made kind.Or (codes "or") []) (made names o) (made names p) m.0 n.0 m.1 n.1)
    (or_of_none book (value_of m.0) (value_of n.0) env es d (means_value book names o env (Ok (optional_data no_items)) m.0 m.1 h)
    (means_value book names p ((codes "@value", optional_data no_items) ∷ env) (Ok (optional_data es)) n.0 n.1 (k ((codes "@value", optional_data no_items) ∷ []) refl)))
