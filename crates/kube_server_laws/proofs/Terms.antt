-- The meanings of the terms that the translation makes.
use Rattle.std.proofs.Common.{◌≡◌, ℕ, List, [], ◌∷◌, codes, true, false, Option, Some, None, Ok, Err, refl, ap, ◌∙◌, if◌then◌else◌}
use Rattle.std.specs.Prelude.{is_some}
use Rattle.std.specs.Option.{option_map_or}
use Rattle.cel_patterns.specs.Book.{Book}
use Rattle.cel_value.specs.Data.{KeyData, text_key, Data, bool, list, map_of, no_items, item as item_and, Entries}
use Rattle.cel_value.specs.Faults.{Fault, no_key}
use Rattle.cel_value.specs.Find.{find, option_items}
use Rattle.cel_semantics.specs.Bindings.{Bindings}
use Rattle.cel_semantics.specs.Decisions.{truth, branch_outcome, decision}
use Rattle.cel_semantics.specs.Macros.{image_if, all_results, made_of}
use Rattle.cel_semantics.specs.Meaning.{meaning}
use Rattle.cel_semantics.specs.Members.{selection, has_member}
use Rattle.cel_semantics.specs.Outcome.{Outcome, and_then}
use Rattle.cel_syntax_ast.specs.Term.{Term, select, conditional}
use Rattle.cel_syntax_ast.specs.declared.expr.MacroKind.TheVariants as kind
use Rattle.kube_server_functions.specs.Server.{server_library}
use Rattle.kube_server_laws.specs.Premises.{is_map}
use Rattle.kube_server_laws.proofs.Outcomes.{alone, condition, filtered, held_or, named, selected_is_there}
use Rattle.kube_server_translation.specs.Forms.{bound, if_set, is_held, is_set, item, item_or, its_list, members_in}
use Rattle.kube_server_values.specs.Limits.{member_limit}

pub bound_means : (book : Book) (x : List ℕ) (e b : Term) (env : Bindings)
    → meaning server_library book (bound x e b) env ≡ and_then (meaning server_library book e env) (λ v. meaning server_library book b ((x, v) ∷ env))
bound_means book x e b env = named (meaning server_library book e env) (λ v. meaning server_library book b ((x, v) ∷ env))

-- ---- lists of at most one item

pub item_or_means : (book : Book) (l c : Term) (env : Bindings) (o : Option Data) → meaning server_library book l env ≡ Ok (list (option_items o))
    → meaning server_library book (item_or l c) env ≡ option_map_or Ok o (meaning server_library book c ((codes "@held", list (option_items o)) ∷ env))
item_or_means book l c env o h =
    bound_means book (codes "@held") l (conditional (is_held its_list) (item its_list 0) c) env
    ∙ (ap (λ r. and_then r (λ v. meaning server_library book (conditional (is_held its_list) (item its_list 0) c) ((codes "@held", v) ∷ env))) h
    ∙ held_or o (meaning server_library book c ((codes "@held", list (option_items o)) ∷ env)))

pub item_or_fails : (book : Book) (l c : Term) (env : Bindings) (e : Fault) → meaning server_library book l env ≡ Err e → meaning server_library book (item_or l c) env ≡ Err e
item_or_fails book l c env e h =
    bound_means book (codes "@held") l (conditional (is_held its_list) (item its_list 0) c) env
    ∙ ap (λ r. and_then r (λ v. meaning server_library book (conditional (is_held its_list) (item its_list 0) c) ((codes "@held", v) ∷ env))) h

-- ---- members that may be absent

-- the test of a member, given the outcome of `has`
abbrev pub set_outcome : Outcome → Outcome
set_outcome r = decision true (codes "||") (decision false (codes "&&") (Err member_limit ∷ r ∷ []) ∷ r ∷ [])

pub is_set_means : (book : Book) (t : Term) (x : List ℕ) (env : Bindings)
    → meaning server_library book (is_set t x) env ≡ set_outcome (and_then (meaning server_library book t env) (λ v. has_member (text_key x) v))
is_set_means book t x env = refl

-- the members of the items of a list, given the list's outcome
abbrev pub members_outcome : List ℕ → Outcome → Outcome
members_outcome x r = filtered (λ d. set_outcome (has_member (text_key x) d)) (λ d. selection (text_key x) d) r

pub members_in_means : (book : Book) (l : Term) (x : List ℕ) (env : Bindings) → meaning server_library book (members_in l x) env ≡ members_outcome x (meaning server_library book l env)
members_in_means book l x env = refl

picked : (k : KeyData) (o : Option Data)
    → and_then (all_results (and_then (truth (codes "map") (set_outcome (Ok (bool (is_some o))))) (image_if (option_map_or Ok o (Err (no_key k)))) ∷ [])) (made_of kind.Map) ≡ Ok (list (option_items o))
picked k None = refl
picked k (Some d) = refl

pub members_of_map : (x : List ℕ) (es : Entries) → members_outcome x (Ok (list (item_and (map_of es) no_items))) ≡ Ok (list (option_items (find (text_key x) es)))
members_of_map x es = picked (text_key x) (find (text_key x) es)

pub members_of_other : (x : List ℕ) (v : Data) → is_map v ≡ false → members_outcome x (Ok (list (item_and v no_items))) ≡ Err member_limit
members_of_other x (map_of es) h = cc
members_of_other x v h = refl

-- ---- the member of a path

-- by the value of the path
abbrev pub set_by : Outcome → Outcome → Outcome → Outcome
set_by r present absent = branch_outcome (truth (codes "?:") (set_outcome r)) present absent

pub if_set_means : (book : Book) (t : Term) (x : List ℕ) (present absent : Term) (env : Bindings) (v : Data) → meaning server_library book t env ≡ Ok v
    → meaning server_library book (if_set t x present absent) env ≡ set_by (has_member (text_key x) v) (meaning server_library book present env) (meaning server_library book absent env)
if_set_means book (select t y) x present absent env v h =
    condition (and_then (meaning server_library book t env) (λ w. has_member (text_key y) w)) (Ok (bool true))
    (set_by (and_then (meaning server_library book (select t y) env) (λ w. has_member (text_key x) w)) (meaning server_library book present env) (meaning server_library book absent env))
    (meaning server_library book (select t y) env) (selected_is_there (text_key y) (meaning server_library book t env) v h)
    ∙ ap (λ r. set_by (and_then r (λ w. has_member (text_key x) w)) (meaning server_library book present env) (meaning server_library book absent env)) h
if_set_means book t x present absent env v h =
    ap (λ r. set_by (and_then r (λ w. has_member (text_key x) w)) (meaning server_library book present env) (meaning server_library book absent env)) h

pub set_in_map : (o : Option Data) (present absent : Outcome) → set_by (Ok (bool (is_some o))) present absent ≡ (if is_some o then present else absent)
set_in_map None present absent = refl
set_in_map (Some d) present absent = refl

pub set_in_other : (k : KeyData) (v : Data) (present absent : Outcome) → is_map v ≡ false → set_by (has_member k v) present absent ≡ Err member_limit
set_in_other k (map_of es) present absent h = cc
set_in_other k v present absent h = refl

pub listed_member : (k : KeyData) (o : Option Data) → set_by (Ok (bool (is_some o))) (alone (option_map_or Ok o (Err (no_key k)))) (Ok (list no_items)) ≡ Ok (list (option_items o))
listed_member k None = refl
listed_member k (Some d) = refl
