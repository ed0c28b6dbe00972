-- `transformMap`.
use Rattle.std.proofs.Common.{◌≡◌, ℕ, zero, List, [], ◌∷◌, map, codes, Bool, true, false, ◌||◌, Option, None, Result, Ok, Err, refl, ap, ◌∙◌, if◌then◌else◌}
use Rattle.std.specs.Str.{bytes_eq}
use Rattle.cel_patterns.specs.Book.{Book}
use Rattle.cel_value.specs.Data.{Data, list}
use Rattle.cel_value.specs.Faults.{Fault}
use Rattle.cel_value.specs.Same.{has_double, items_have_double}
use Rattle.cel_value.specs.View.{items_of}
use Rattle.cel_semantics.specs.Bindings.{Bindings}
use Rattle.cel_semantics.specs.Calls.{call_outcome}
use Rattle.cel_semantics.specs.Meaning.{meaning}
use Rattle.cel_semantics.specs.Outcome.{Outcome, and_then, all_values, no_doubles}
use Rattle.cel_syntax_ast.specs.Calls.{kind_of, kind_of_three}
use Rattle.cel_syntax_ast.specs.Term as term
use Rattle.cel_syntax_ast.specs.Term.{Term, no_terms}
use Rattle.cel_syntax_ast.specs.declared.expr.MacroKind.TheVariants as macro
use Rattle.kube_server_functions.specs.Server.{server_library}
use Rattle.kube_server_laws.specs.Premises.{Means, MeansIn, begins_at, is_range, map_of_all, parts_of}
use Rattle.kube_server_laws.proofs.Calls.{as_kind, means_value, on_any, taken, value_means}
use Rattle.kube_server_laws.proofs.Outcomes.{over}
use Rattle.kube_server_laws.proofs.Pairs.{body_means, images, over_listed, outcomes, pairs_in, pairs_mean, two_call, two_headed}
use Rattle.kube_server_syntax.specs.Tree.{Tree, ident, no_trees, tree_and}
use Rattle.kube_server_syntax.specs.declared.node.Place.{Place}
use Rattle.kube_server_translation.specs.Calls.{after, call_made, keyed, with_variables, wrong}
use Rattle.kube_server_translation.specs.Forms.{map_of_pairs, over_pairs, with_both}
use Rattle.kube_server_translation.specs.Kinds.{method_kind, name_of}
use Rattle.kube_server_translation.specs.Made.{Made, plain, Names, made_of, value_of}
use Rattle.kube_server_translation.specs.Translation.{made, made_all, is_optional_name}
use Rattle.kube_server_translation.specs.declared.error.Malformed.TheVariants.{SameVariables}
use Rattle.kube_server_translation.specs.declared.kind.CallKind.TheVariants as kind
use Rattle.kube_server_values.specs.Pairs.{pair}
use Rattle.kube_server_values.specs.Maps as maps

transform_map_kind : (t : Option (List ℕ)) → method_kind t (codes "transformMap") 3 ≡ kind.TransformMap
unfolding kind_of kind_of_three
transform_map_kind t = on_any (codes "transformMap") 3 kind.TransformMap refl refl refl t

-- the pair of a key and an outcome
keyed_outcome : (i : Data) (r : Outcome) → and_then (all_values (Ok i ∷ r ∷ [])) (λ vs. Ok (list (items_of vs))) ≡ and_then r (λ w. Ok (pair i w))
keyed_outcome i (Ok w) = refl
keyed_outcome i (Err e) = refl

keyed_means : (book : Book) (x y : List ℕ) (b : Term) (env : Bindings) (i d : Data) (r : Outcome) → begins_at x ≡ false
    → meaning server_library book b ((y, d) ∷ (x, i) ∷ (codes "@pair", pair i d) ∷ env) ≡ r
    → meaning server_library book (keyed (with_both x y b)) ((codes "@pair", pair i d) ∷ env) ≡ and_then r (λ w. Ok (pair i w))
keyed_means book x y b env i d r n h =
    ap (λ z. and_then (all_values (Ok i ∷ z ∷ [])) (λ vs. Ok (list (items_of vs)))) (body_means book x y b env i d n ∙ h) ∙ keyed_outcome i r

-- the map of what a list holds
collected : (book : Book) (rs : List Outcome)
    → and_then (all_values (and_then (all_values rs) (λ vs. Ok (list (items_of vs))) ∷ [])) (λ ws. call_outcome server_library book (codes "@map_of_pairs") None ws)
    ≡ and_then (all_values rs) map_of_all
collected book rs = by (all_values rs)
  where
    tested : (vs : List Data) (c : Bool) → (if false || (c || false) then Err no_doubles else maps.map_of_pairs (list (items_of vs))) ≡ (if c then Err no_doubles else maps.map_of_pairs (list (items_of vs)))
    tested vs true = refl
    tested vs false = refl

    by : (z : Result (List Data) Fault) → and_then (all_values (and_then z (λ vs. Ok (list (items_of vs))) ∷ [])) (λ ws. call_outcome server_library book (codes "@map_of_pairs") None ws) ≡ and_then z map_of_all
    by (Ok vs) = tested vs (items_have_double (items_of vs))
    by (Err e) = refl

transform_map_means : (book : Book) (r b : Term) (x y : List ℕ) (env : Bindings) (v : Data) (f : Data → Data → Outcome)
    → is_range v ≡ true → has_double v ≡ false → begins_at x ≡ false → meaning server_library book r env ≡ Ok v
    → ((i d : Data) → meaning server_library book b ((y, d) ∷ (x, i) ∷ (codes "@pair", pair i d) ∷ env) ≡ f i d)
    → meaning server_library book (map_of_pairs (over_pairs macro.Map r no_terms (keyed (with_both x y b)))) env
    ≡ and_then (all_values (map (λ e. and_then (f e.0 e.1) (λ w. Ok (pair e.0 w))) (parts_of v))) map_of_all
transform_map_means book r b x y env v f g u n e h =
    ap (λ z. and_then (all_values (z ∷ [])) (λ ws. call_outcome server_library book (codes "@map_of_pairs") None ws))
    (ap (over macro.Map body) (pairs_mean book r env v g u e)
    ∙ (over_listed macro.Map body (pairs_in v)
    ∙ (outcomes macro.Map body (pairs_in v) refl
    ∙ ap (λ rs. and_then (all_values rs) (λ vs. Ok (list (items_of vs)))) (images body (λ i d. and_then (f i d) (λ w. Ok (pair i w))) (λ i d. keyed_means book x y b env i d (f i d) n (h i d)) v g))))
    ∙ collected book (map (λ e. and_then (f e.0 e.1) (λ w. Ok (pair e.0 w))) (parts_of v))
  where
    body : Data → Outcome
    body d = meaning server_library book (keyed (with_both x y b)) ((codes "@pair", d) ∷ env)

transform_map_made : (names : Names) (p q s : Place) (r b : Tree) (x y : List ℕ) (m n : Made) → bytes_eq x y ≡ false → made names r ≡ Ok m → made ((y, false) ∷ (x, false) ∷ names) b ≡ Ok n
    → made names (two_call p q s r (codes "transformMap") x y b) ≡ Ok (plain (map_of_pairs (over_pairs macro.Map (value_of m) no_terms (keyed (with_both x y (value_of n))))))
transform_map_made names p q s r b x y m n unlike h e =
    as_kind names p (codes "transformMap") (tree_and r no_trees) (tree_and (ident q x) (tree_and (ident s y) (tree_and b no_trees))) kind.TransformMap (transform_map_kind (name_of r))
    ∙ (ap (λ c. after (if c then wrong SameVariables (ident s y) else Ok (x ∷ y ∷ [])) (λ xs. after (made_all names names zero (tree_and r no_trees))
    (λ ts. after (made_all names (with_variables xs names) 2 (tree_and (ident q x) (tree_and (ident s y) (tree_and b no_trees)))) (λ us. Ok (call_made kind.TransformMap (codes "transformMap") xs ts us))))) unlike
    ∙ two_headed (call_made kind.TransformMap (codes "transformMap") (x ∷ y ∷ [])) (made_of (is_optional_name names x) (term.ident x)) (made_of (is_optional_name names y) (term.ident y)) (made names r) (made ((y, false) ∷ (x, false) ∷ names) b) m n h e)

pub transform_map_law : (book : Book) (names : Names) (p q s : Place) (r b : Tree) (x y : List ℕ) (env : Bindings) (v : Data) (f : Data → Data → Outcome)
    → begins_at x ≡ false → bytes_eq x y ≡ false → is_range v ≡ true → has_double v ≡ false → Means book names r env (Ok v)
    → ((i d : Data) → MeansIn book ((y, false) ∷ (x, false) ∷ names) b ((y, d) ∷ (x, i) ∷ []) env (f i d))
    → Means book names (two_call p q s r (codes "transformMap") x y b) env (and_then (all_values (map (λ e. and_then (f e.0 e.1) (λ w. Ok (pair e.0 w))) (parts_of v))) map_of_all)
transform_map_law book names p q s r b x y env v f n u g d h e =
    let m = taken book env (Ok v) (made names r) h in
    let l = taken book ((y, v) ∷ (x, v) ∷ env) (f v v) (made ((y, false) ∷ (x, false) ∷ names) b) (e v v [] refl) in
    value_means book names (two_call p q s r (codes "transformMap") x y b) env (and_then (all_values (map (λ k. and_then (f k.0 k.1) (λ w. Ok (pair k.0 w))) (parts_of v))) map_of_all)
    (plain (map_of_pairs (over_pairs macro.Map (value_of m.0) no_terms (keyed (with_both x y (value_of l.0))))))
    (transform_map_made names p q s r b x y m.0 l.0 u m.1 l.1)
    (transform_map_means book (value_of m.0) (value_of l.0) x y env v f g d n (means_value book names r env (Ok v) m.0 m.1 h)
    (λ i a. means_value book ((y, false) ∷ (x, false) ∷ names) b ((y, a) ∷ (x, i) ∷ (codes "@pair", pair i a) ∷ env) (f i a) l.0 l.1 (e i a ((codes "@pair", pair i a) ∷ []) refl)))
