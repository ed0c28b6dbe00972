-- `optional.of`, `optional.none`, optional items, and types that are compared.
use Rattle.std.proofs.Common.{◌≡◌, ℕ, List, [], ◌∷◌, ◌++◌, codes, Bool, true, false, ◌||◌, Option, Some, None, option_map, is_some, Ok, Err, refl, ap, ◌∙◌, if◌then◌else◌}
use Rattle.std.specs.List.{list_any}
use Rattle.std.specs.Map.{lookup}
use Rattle.std.specs.Option.{unwrap_or}
use Rattle.std.specs.Str.{bytes_eq}
use Rattle.cel_patterns.specs.Book.{Book}
use Rattle.cel_value.specs.Data.{Data, bool, text, list, no_items, item as item_and}
use Rattle.cel_value.specs.Find.{option_items}
use Rattle.cel_value.specs.Same.{has_double, items_have_double, same}
use Rattle.cel_value.specs.View.{items_of, kind_of as kind_of_data}
use Rattle.cel_semantics.specs.Bindings.{Bindings}
use Rattle.cel_semantics.specs.Calls.{call_outcome, receiver_of}
use Rattle.cel_semantics.specs.Meaning.{strictly}
use Rattle.cel_semantics.specs.Operators.{binary_outcome}
use Rattle.cel_semantics.specs.Outcome.{and_then, all_values, no_doubles}
use Rattle.cel_syntax_ast.specs.Calls.{kind_of}
use Rattle.cel_syntax_ast.specs.Term as term
use Rattle.cel_syntax_ast.specs.Term.{Term}
use Rattle.cel_syntax_ast.specs.declared.expr.BinaryOperator.TheVariants.{Equal}
use Rattle.kube_functions_lists.specs.Lists.{flat_item}
use Rattle.kube_server_functions.specs.Server.{server_library}
use Rattle.kube_server_laws.specs.Premises.{Holds, Means, held_value}
use Rattle.kube_server_laws.proofs.Calls.{alone_made, as_kind, means_value, taken, value_means}
use Rattle.kube_server_laws.proofs.Values.{some_is}
use Rattle.kube_server_syntax.specs.Tree.{Tree, binary, call, ident, list_of, no_trees, tree_and, item_and as tree_item, no_items as no_tree_items}
use Rattle.kube_server_syntax.specs.declared.node.Place.{Place}
use Rattle.kube_server_translation.specs.Calls.{after, call_made}
use Rattle.kube_server_translation.specs.Forms as form
use Rattle.kube_server_translation.specs.Kinds.{method_kind}
use Rattle.kube_server_translation.specs.Made.{Made, plain, optional, type_of, Names, list_with, made_of, operated, type_names, value_of, values_of, both_names, if_type}
use Rattle.kube_server_translation.specs.Translation.{made, is_optional_name}
use Rattle.kube_server_translation.specs.declared.kind.CallKind.TheVariants as kind
use Rattle.kube_server_values.specs.Optionals.{none_of_all}
use Rattle.kube_server_values.specs.Types.{type_name}

-- ---- optional.of, optional.none

of_kind : method_kind (Some (codes "optional")) (codes "of") 1 ≡ kind.Optional
unfolding kind_of
of_kind = refl

none_kind : method_kind (Some (codes "optional")) (codes "none") 0 ≡ kind.Optional
unfolding kind_of
none_kind = refl

-- the name `optional`
abbrev name_made : Names → List Made
name_made names = made_of (is_optional_name names (codes "optional")) (term.ident (codes "optional")) ∷ []

pub optional_of : (book : Book) (names : Names) (p q : Place) (t : Tree) (env : Bindings) (v : Data) → Means book names t env (Ok v)
    → Means book names (call p (tree_and (ident q (codes "optional")) no_trees) (codes "of") (tree_and t no_trees)) env (held_value (Some v))
optional_of book names p q t env v h =
    let m = taken book env (Ok v) (made names t) h in
    value_means book names (call p (tree_and (ident q (codes "optional")) no_trees) (codes "of") (tree_and t no_trees)) env (held_value (Some v))
    (optional (term.qualified (codes "optional.of") (values_of (m.0 ∷ []))))
    (as_kind names p (codes "of") (tree_and (ident q (codes "optional")) no_trees) (tree_and t no_trees) kind.Optional of_kind
    ∙ ap (λ z. after (alone_made z) (λ us. Ok (call_made kind.Optional (codes "of") [] (name_made names) us))) m.1)
    (ap (λ r. and_then (all_values (r ∷ [])) (λ vs. call_outcome server_library book (codes "optional.of") None vs)) (means_value book names t env (Ok v) m.0 m.1 h)
    ∙ some_is book v)

pub optional_none : (book : Book) (names : Names) (p q : Place) (env : Bindings)
    → Means book names (call p (tree_and (ident q (codes "optional")) no_trees) (codes "none") no_trees) env (Ok none_of_all)
optional_none book names p q env =
    value_means book names (call p (tree_and (ident q (codes "optional")) no_trees) (codes "none") no_trees) env (Ok none_of_all)
    (optional (term.qualified (codes "optional.none") (values_of [])))
    (as_kind names p (codes "none") (tree_and (ident q (codes "optional")) no_trees) no_trees kind.Optional none_kind) refl

-- ---- an optional item

kept : (d : Data) → flat_item d 0 ≡ d ∷ []
kept (list ds) = refl
kept d = refl

flattened : (book : Book) (w : Option Data) → items_have_double (option_items w) ≡ false
    → call_outcome server_library book (codes "flatten") (Some (list (item_and (list (option_items w)) no_items))) [] ≡ Ok (list (option_items w))
flattened book None h = refl
flattened book (Some d) h =
    ap (λ c. if (if (if c then true else false) then true else false) || false then Err no_doubles
    else Ok (list (items_of (((flat_item d 0) ++ []) ++ [])))) (first_of (has_double d) h)
    ∙ ap (λ ds. Ok (list (items_of ((ds ++ []) ++ [])))) (kept d)
  where
    first_of : (c : Bool) → (if c then true else false) ≡ false → c ≡ false
    first_of true k = cc
    first_of false k = refl

pub optional_item : (book : Book) (names : Names) (p : Place) (o : Tree) (env : Bindings) (w : Option Data) → items_have_double (option_items w) ≡ false → Holds book names o env (Ok w)
    → Means book names (list_of p (tree_item true o no_tree_items)) env (Ok (list (option_items w)))
optional_item book names p o env w d h =
    value_means book names (list_of p (tree_item true o no_tree_items)) env (Ok (list (option_items w))) (plain (list_with ((true, h.0) ∷ [])))
    (ap (λ r. after (after r (λ m. after (Ok []) (λ ps. Ok ((true, m) ∷ ps)))) (λ ps. Ok (plain (list_with ps)))) h.1)
    (ap (λ r. and_then (all_values (and_then (all_values (r ∷ [])) (λ vs. Ok (list (items_of vs))) ∷ []))
    (λ rs. call_outcome server_library book (codes "flatten") (receiver_of rs) [])) h.3
    ∙ flattened book w d)

-- ---- types

type_made : (names : Names) (q : Place) (t : Tree) (m : Made) → made names t ≡ Ok m → made names (call q no_trees (codes "type") (tree_and t no_trees)) ≡ Ok (type_of (value_of m))
type_made names q t m h = ap (λ z. after (alone_made z) (λ us. Ok (call_made kind.Type (codes "type") [] [] us))) h

named_type : (names : Names) (n : List ℕ) → lookup (bytes_eq n) names ≡ None → made_of (is_optional_name names n) (term.ident n) ≡ plain (term.ident n)
named_type names n h = ap (λ o. made_of (unwrap_or o false) (term.ident n)) h

compared_by_name : (names : Names) (t : Term) (n : List ℕ) → lookup (bytes_eq n) names ≡ None → list_any (bytes_eq n) type_names ≡ true
    → operated names Equal (type_of t) (plain (term.ident n)) ≡ term.binary Equal (form.type_name t) (term.literal (text n))
compared_by_name names t n h k =
    ap (λ o. unwrap_or (both_names Equal (Some (form.type_name t)) (option_map (λ s. term.literal (text s))
    (if is_some o then None else if_type n))) (term.binary Equal (form.type_of t) (term.ident n))) h
    ∙ ap (λ c. unwrap_or (both_names Equal (Some (form.type_name t)) (option_map (λ s. term.literal (text s))
    (if c then Some n else None))) (term.binary Equal (form.type_of t) (term.ident n))) k

pub type_is : (book : Book) (names : Names) (p q s : Place) (t : Tree) (n : List ℕ) (env : Bindings) (v : Data)
    → lookup (bytes_eq n) names ≡ None → list_any (bytes_eq n) type_names ≡ true → has_double v ≡ false → Means book names t env (Ok v)
    → Means book names (binary p Equal (call q no_trees (codes "type") (tree_and t no_trees)) (ident s n)) env (Ok (bool (same (text (type_name (kind_of_data v))) (text n))))
type_is book names p q s t n env v h k d e =
    let m = taken book env (Ok v) (made names t) e in
    value_means book names (binary p Equal (call q no_trees (codes "type") (tree_and t no_trees)) (ident s n)) env (Ok (bool (same (text (type_name (kind_of_data v))) (text n))))
    (plain (term.binary Equal (form.type_name (value_of m.0)) (term.literal (text n))))
    (ap (λ r. after r (λ a. after (made names (ident s n)) (λ b. Ok (plain (operated names Equal a b))))) (type_made names q t m.0 m.1)
    ∙ (ap (λ b. Ok (plain (operated names Equal (type_of (value_of m.0)) b))) (named_type names n h)
    ∙ ap (λ u. Ok (plain u)) (compared_by_name names (value_of m.0) n h k)))
    (ap (λ r. strictly (binary_outcome Equal) (and_then (all_values (r ∷ [])) (λ vs. call_outcome server_library book (codes "@type_name") None vs)) (Ok (text n))) (means_value book names t env (Ok v) m.0 m.1 e)
    ∙ ap (λ c. strictly (binary_outcome Equal) (if false || (c || false) then Err no_doubles else Ok (text (type_name (kind_of_data v)))) (Ok (text n))) d)
