-- Macros with two variables.
use Rattle.std.proofs.Common.{◌≡◌, ℕ, zero, suc, List, [], ◌∷◌, map, codes, Bool, true, false, ◌&&◌, ◌||◌, Option, Some, None, Result, Ok, Err, refl, ap, ◌∙◌, pos, if◌then◌else◌}
use Rattle.std.specs.Option.{option_map_or}
use Rattle.std.specs.Str.{bytes_eq}
use Rattle.cel_patterns.specs.Book.{Book}
use Rattle.cel_value.specs.Data.{Data, int, list, map_of, Items, no_items, item as item_and, Entries, no_entries, entry}
use Rattle.cel_value.specs.Faults.{Fault, undeclared}
use Rattle.cel_value.specs.Same.{has_double}
use Rattle.cel_value.specs.View.{items_of}
use Rattle.cel_semantics.specs.Bindings.{Bindings}
use Rattle.cel_semantics.specs.Calls.{call_outcome}
use Rattle.cel_semantics.specs.Decisions.{decision}
use Rattle.cel_semantics.specs.Macros.{iteration_result_of, all_results, macro_of, with_result}
use Rattle.cel_semantics.specs.Meaning.{meaning, strictly}
use Rattle.cel_semantics.specs.Members.{index_outcome}
use Rattle.cel_semantics.specs.Outcome.{Outcome, and_then, all_values, no_doubles}
use Rattle.cel_semantics.specs.Ranges.{items_list, key_data}
use Rattle.cel_syntax_ast.specs.Term as term
use Rattle.cel_syntax_ast.specs.Term.{Term, no_terms}
use Rattle.cel_syntax_ast.specs.declared.expr.MacroKind.{MacroKind}
use Rattle.cel_syntax_ast.specs.declared.expr.MacroKind.TheVariants as macro
use Rattle.kube_server_functions.specs.Server.{server_library}
use Rattle.kube_server_laws.specs.Premises.{Means, MeansIn, begins_at, is_range, parts_of, with_indices, with_keys}
use Rattle.kube_server_laws.proofs.Calls.{all_kind, alone_made, as_kind, exists_kind, means_value, taken, transform_list_kind, value_means}
use Rattle.kube_server_laws.proofs.Outcomes.{over}
use Rattle.kube_server_laws.proofs.Terms.{bound_means}
use Rattle.kube_server_syntax.specs.Tree.{Tree, ident, call, no_trees, tree_and}
use Rattle.kube_server_syntax.specs.declared.node.Place.{Place}
use Rattle.kube_server_translation.specs.Calls.{Translated, after, call_made, with_variables, wrong}
use Rattle.kube_server_translation.specs.Forms.{bound, item, its_pair, over_pairs, pairs_of, with_both}
use Rattle.kube_server_translation.specs.Kinds.{method_kind, name_of}
use Rattle.kube_server_translation.specs.Made.{Made, plain, Names, made_of, value_of}
use Rattle.kube_server_translation.specs.Translation.{made, made_all, is_optional_name}
use Rattle.kube_server_translation.specs.declared.error.Malformed.TheVariants.{SameVariables}
use Rattle.kube_server_translation.specs.declared.kind.CallKind.TheVariants as kind
use Rattle.kube_server_values.specs.Pairs.{pair, indexed, keyed}
use Rattle.kube_server_values.specs.Pairs as pairs

-- ---- the body

-- a name that a text can have isn't `@pair`
not_pair : (x : List ℕ) → begins_at x ≡ false → bytes_eq (codes "@pair") x ≡ false
not_pair [] h = refl
not_pair (b ∷ bs) h = ap (λ c. c && bytes_eq (codes "pair") bs) h

pub body_means : (book : Book) (x y : List ℕ) (b : Term) (env : Bindings) (i d : Data) → begins_at x ≡ false
    → meaning server_library book (with_both x y b) ((codes "@pair", pair i d) ∷ env) ≡ meaning server_library book b ((y, d) ∷ (x, i) ∷ (codes "@pair", pair i d) ∷ env)
body_means book x y b env i d h =
    bound_means book x (item its_pair 0) (bound y (item its_pair 1) b) ((codes "@pair", pair i d) ∷ env)
    ∙ (bound_means book y (item its_pair 1) b ((x, i) ∷ (codes "@pair", pair i d) ∷ env)
    ∙ ap (λ c. and_then (strictly index_outcome (option_map_or Ok (if c then Some i else Some (pair i d)) (Err (undeclared (codes "@pair")))) (Ok (int (pos 1))))
    (λ v. meaning server_library book b ((y, v) ∷ (x, i) ∷ (codes "@pair", pair i d) ∷ env))) (not_pair x h))

-- ---- the pairs

listed_again : (vs : List Data) → items_list (items_of vs) ≡ vs
listed_again [] = refl
listed_again (v ∷ vs) = ap (λ z. v ∷ z) (listed_again vs)

-- the pairs of a list or a map
abbrev pub pairs_in : Data → List Data
pairs_in (list ds) = indexed 0 ds
pairs_in (map_of es) = keyed es
pairs_in _ = []

pairs_of_range : (v : Data) → is_range v ≡ true → pairs.pairs_of v ≡ Ok (list (items_of (pairs_in v)))
pairs_of_range (list ds) h = refl
pairs_of_range (map_of es) h = refl
pairs_of_range v h = cc

pub pairs_mean : (book : Book) (r : Term) (env : Bindings) (v : Data) → is_range v ≡ true → has_double v ≡ false → meaning server_library book r env ≡ Ok v
    → meaning server_library book (pairs_of r) env ≡ Ok (list (items_of (pairs_in v)))
pairs_mean book r env v h k e =
    ap (λ z. and_then (all_values (z ∷ [])) (λ vs. call_outcome server_library book (codes "@pairs") None vs)) e
    ∙ (ap (λ c. if false || (c || false) then Err no_doubles else pairs.pairs_of v) k
    ∙ pairs_of_range v h)

images_of_indexed : {A : Type 0} (f : Data → A) (g : Data → Data → A) → ((i d : Data) → f (pair i d) ≡ g i d) → (n : ℕ) (ds : Items) → map f (indexed n ds) ≡ map (λ e. g e.0 e.1) (with_indices n ds)
images_of_indexed f g h n no_items = refl
images_of_indexed f g h n (item_and d ds) =
    ap (λ z. z ∷ map f (indexed (suc n) ds)) (h (int (pos n)) d) ∙ ap (λ zs. g (int (pos n)) d ∷ zs) (images_of_indexed f g h (suc n) ds)

images_of_keyed : {A : Type 0} (f : Data → A) (g : Data → Data → A) → ((i d : Data) → f (pair i d) ≡ g i d) → (es : Entries) → map f (keyed es) ≡ map (λ e. g e.0 e.1) (with_keys es)
images_of_keyed f g h no_entries = refl
images_of_keyed f g h (entry k d es) =
    ap (λ z. z ∷ map f (keyed es)) (h (key_data k) d) ∙ ap (λ zs. g (key_data k) d ∷ zs) (images_of_keyed f g h es)

pub images : (f : Data → Outcome) (g : Data → Data → Outcome) → ((i d : Data) → f (pair i d) ≡ g i d) → (v : Data) → is_range v ≡ true → map f (pairs_in v) ≡ map (λ e. g e.0 e.1) (parts_of v)
images f g h (list ds) k = images_of_indexed f g h 0 ds
images f g h (map_of es) k = images_of_keyed f g h es
images f g h v k = cc

-- ---- the macros

pub over_listed : (k : MacroKind) (body : Data → Outcome) (vs : List Data) → over k body (Ok (list (items_of vs))) ≡ macro_of k (map body vs) (map (λ d. iteration_result_of k d [] (body d)) vs)
over_listed k body vs = ap (λ z. macro_of k (map body z) (map (λ d. iteration_result_of k d [] (body d)) z)) (listed_again vs)

one_more : (r : Outcome) (gs : Result (List Data) Fault) → and_then (and_then r (λ v. Ok (Some v))) (λ o. and_then gs (λ ds. Ok (with_result o ds))) ≡ and_then r (λ v. and_then gs (λ vs. Ok (v ∷ vs)))
one_more (Ok v) gs = refl
one_more (Err e) gs = refl

results_are_values : (body : Data → Outcome) (vs : List Data) → all_results (map (λ d. iteration_result_of macro.Map d [] (body d)) vs) ≡ all_values (map body vs)
results_are_values body [] = refl
results_are_values body (v ∷ vs) =
    ap (λ z. and_then (and_then (body v) (λ w. Ok (Some w))) (λ o. and_then z (λ ds. Ok (with_result o ds)))) (results_are_values body vs)
    ∙ one_more (body v) (all_values (map body vs))

-- the outcome of a macro, by those of its body
abbrev pub outcome_of : MacroKind → List Outcome → Outcome
outcome_of macro.All rs = decision false (codes "all") rs
outcome_of macro.Exists rs = decision true (codes "exists") rs
outcome_of macro.ExistsOne rs = Err no_doubles
outcome_of macro.Map rs = and_then (all_values rs) (λ vs. Ok (list (items_of vs)))
outcome_of macro.Filter rs = Err no_doubles

-- the macros that this is said of
abbrev pub is_simple : MacroKind → Bool
is_simple macro.All = true
is_simple macro.Exists = true
is_simple macro.Map = true
is_simple _ = false

pub outcomes : (k : MacroKind) (body : Data → Outcome) (vs : List Data) → is_simple k ≡ true → macro_of k (map body vs) (map (λ d. iteration_result_of k d [] (body d)) vs) ≡ outcome_of k (map body vs)
outcomes macro.All body vs h = refl
outcomes macro.Exists body vs h = refl
outcomes macro.Map body vs h = ap (λ z. and_then z (λ ds. Ok (list (items_of ds)))) (results_are_values body vs)
outcomes macro.ExistsOne body vs h = cc
outcomes macro.Filter body vs h = cc

pairs_macro_means : (book : Book) (k : MacroKind) (r b : Term) (x y : List ℕ) (env : Bindings) (v : Data) (f : Data → Data → Outcome)
    → is_simple k ≡ true → is_range v ≡ true → has_double v ≡ false → begins_at x ≡ false
    → meaning server_library book r env ≡ Ok v
    → ((i d : Data) → meaning server_library book b ((y, d) ∷ (x, i) ∷ (codes "@pair", pair i d) ∷ env) ≡ f i d)
    → meaning server_library book (over_pairs k r no_terms (with_both x y b)) env ≡ outcome_of k (map (λ e. f e.0 e.1) (parts_of v))
pairs_macro_means book k r b x y env v f s g u n e h =
    ap (over k (λ d. meaning server_library book (with_both x y b) ((codes "@pair", d) ∷ env))) (pairs_mean book r env v g u e)
    ∙ (over_listed k (λ d. meaning server_library book (with_both x y b) ((codes "@pair", d) ∷ env)) (pairs_in v)
    ∙ (outcomes k (λ d. meaning server_library book (with_both x y b) ((codes "@pair", d) ∷ env)) (pairs_in v) s
    ∙ ap (outcome_of k) (images (λ d. meaning server_library book (with_both x y b) ((codes "@pair", d) ∷ env)) f (λ i d. body_means book x y b env i d n ∙ h i d) v g)))

-- ---- the calls

-- `r.w(x, y, b)`
abbrev pub two_call : Place → Place → Place → Tree → List ℕ → List ℕ → List ℕ → Tree → Tree
two_call p q s r w x y b = call p (tree_and r no_trees) w (tree_and (ident q x) (tree_and (ident s y) (tree_and b no_trees)))

pub two_headed : (f : List Made → List Made → Made) (a c : Made) (r s : Translated Made) (m n : Made) → r ≡ Ok m → s ≡ Ok n
    → after (alone_made r) (λ ts. after (after (after (alone_made s) (λ ms. Ok (c ∷ ms))) (λ ms. Ok (a ∷ ms))) (λ us. Ok (f ts us))) ≡ Ok (f (m ∷ []) (a ∷ c ∷ n ∷ []))
two_headed f a c r s m n h k =
    ap (λ z. after (alone_made z) (λ ts. after (after (after (alone_made s) (λ ms. Ok (c ∷ ms))) (λ ms. Ok (a ∷ ms))) (λ us. Ok (f ts us)))) h
    ∙ ap (λ z. after (after (after (alone_made z) (λ ms. Ok (c ∷ ms))) (λ ms. Ok (a ∷ ms))) (λ us. Ok (f (m ∷ []) us))) k

two_made_is : (names : Names) (p q s : Place) (r b : Tree) (w x y : List ℕ) (k : MacroKind) (m n : Made)
    → ((t : Option (List ℕ)) → method_kind t w 3 ≡ kind.TwoVariables k) → bytes_eq x y ≡ false
    → made names r ≡ Ok m → made ((y, false) ∷ (x, false) ∷ names) b ≡ Ok n
    → made names (two_call p q s r w x y b) ≡ Ok (plain (over_pairs k (value_of m) no_terms (with_both x y (value_of n))))
two_made_is names p q s r b w x y k m n kinds unlike h e =
    as_kind names p w (tree_and r no_trees) (tree_and (ident q x) (tree_and (ident s y) (tree_and b no_trees))) (kind.TwoVariables k) (kinds (name_of r))
    ∙ (ap (λ c. after (if c then wrong SameVariables (ident s y) else Ok (x ∷ y ∷ [])) (λ xs. after (made_all names names zero (tree_and r no_trees))
    (λ ts. after (made_all names (with_variables xs names) 2 (tree_and (ident q x) (tree_and (ident s y) (tree_and b no_trees)))) (λ us. Ok (call_made (kind.TwoVariables k) w xs ts us))))) unlike
    ∙ two_headed (call_made (kind.TwoVariables k) w (x ∷ y ∷ [])) (made_of (is_optional_name names x) (term.ident x)) (made_of (is_optional_name names y) (term.ident y)) (made names r) (made ((y, false) ∷ (x, false) ∷ names) b) m n h e)

two_law : (k : MacroKind) (w : List ℕ) → ((t : Option (List ℕ)) → method_kind t w 3 ≡ kind.TwoVariables k) → is_simple k ≡ true
    → (book : Book) (names : Names) (p q s : Place) (r b : Tree) (x y : List ℕ) (env : Bindings) (v : Data) (f : Data → Data → Outcome)
    → begins_at x ≡ false → bytes_eq x y ≡ false → is_range v ≡ true → has_double v ≡ false → Means book names r env (Ok v)
    → ((i d : Data) → MeansIn book ((y, false) ∷ (x, false) ∷ names) b ((y, d) ∷ (x, i) ∷ []) env (f i d))
    → Means book names (two_call p q s r w x y b) env (outcome_of k (map (λ e. f e.0 e.1) (parts_of v)))
two_law k w kinds simple book names p q s r b x y env v f n u g d h e =
    let m = taken book env (Ok v) (made names r) h in
    let l = taken book ((y, v) ∷ (x, v) ∷ env) (f v v) (made ((y, false) ∷ (x, false) ∷ names) b) (e v v [] refl) in
    value_means book names (two_call p q s r w x y b) env (outcome_of k (map (λ e. f e.0 e.1) (parts_of v))) (plain (over_pairs k (value_of m.0) no_terms (with_both x y (value_of l.0))))
    (two_made_is names p q s r b w x y k m.0 l.0 kinds u m.1 l.1)
    (pairs_macro_means book k (value_of m.0) (value_of l.0) x y env v f simple g d n (means_value book names r env (Ok v) m.0 m.1 h)
    (λ i a. means_value book ((y, false) ∷ (x, false) ∷ names) b ((y, a) ∷ (x, i) ∷ (codes "@pair", pair i a) ∷ env) (f i a) l.0 l.1 (e i a ((codes "@pair", pair i a) ∷ []) refl)))

pub all_law : (book : Book) (names : Names) (p q s : Place) (r b : Tree) (x y : List ℕ) (env : Bindings) (v : Data) (f : Data → Data → Outcome)
    → begins_at x ≡ false → bytes_eq x y ≡ false → is_range v ≡ true → has_double v ≡ false → Means book names r env (Ok v)
    → ((i d : Data) → MeansIn book ((y, false) ∷ (x, false) ∷ names) b ((y, d) ∷ (x, i) ∷ []) env (f i d))
    → Means book names (two_call p q s r (codes "all") x y b) env (decision false (codes "all") (map (λ e. f e.0 e.1) (parts_of v)))
all_law = two_law macro.All (codes "all") all_kind refl

pub exists_law : (book : Book) (names : Names) (p q s : Place) (r b : Tree) (x y : List ℕ) (env : Bindings) (v : Data) (f : Data → Data → Outcome)
    → begins_at x ≡ false → bytes_eq x y ≡ false → is_range v ≡ true → has_double v ≡ false → Means book names r env (Ok v)
    → ((i d : Data) → MeansIn book ((y, false) ∷ (x, false) ∷ names) b ((y, d) ∷ (x, i) ∷ []) env (f i d))
    → Means book names (two_call p q s r (codes "exists") x y b) env (decision true (codes "exists") (map (λ e. f e.0 e.1) (parts_of v)))
exists_law = two_law macro.Exists (codes "exists") exists_kind refl

pub transform_list_law : (book : Book) (names : Names) (p q s : Place) (r b : Tree) (x y : List ℕ) (env : Bindings) (v : Data) (f : Data → Data → Outcome)
    → begins_at x ≡ false → bytes_eq x y ≡ false → is_range v ≡ true → has_double v ≡ false → Means book names r env (Ok v)
    → ((i d : Data) → MeansIn book ((y, false) ∷ (x, false) ∷ names) b ((y, d) ∷ (x, i) ∷ []) env (f i d))
    → Means book names (two_call p q s r (codes "transformList") x y b) env (and_then (all_values (map (λ e. f e.0 e.1) (parts_of v))) (λ vs. Ok (list (items_of vs))))
transform_list_law = two_law macro.Map (codes "transformList") transform_list_kind refl
