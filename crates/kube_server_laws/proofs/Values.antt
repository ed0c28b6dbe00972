-- Optionals as values, `optFlatMap`, `dyn` and optional indices.
use Rattle.std.proofs.Common.{◌≡◌, ℕ, List, [], ◌∷◌, codes, Bool, true, false, ◌||◌, Option, Some, None, Ok, Err, refl, ap, ◌∙◌, sym, if◌then◌else◌}
use Rattle.cel_patterns.specs.Book.{Book}
use Rattle.cel_value.specs.Data.{Data, list, no_items}
use Rattle.cel_value.specs.Find.{option_items}
use Rattle.cel_value.specs.Same.{has_double}
use Rattle.cel_semantics.specs.Bindings.{Bindings}
use Rattle.cel_semantics.specs.Calls.{call_outcome}
use Rattle.cel_semantics.specs.Meaning.{meaning}
use Rattle.cel_semantics.specs.Outcome.{Outcome, and_then, all_values, no_doubles}
use Rattle.cel_syntax_ast.specs.Term as term
use Rattle.cel_syntax_ast.specs.Term.{Term, no_terms}
use Rattle.cel_syntax_ast.specs.declared.expr.MacroKind.TheVariants as macro
use Rattle.kube_server_functions.specs.Server.{server_library}
use Rattle.kube_server_laws.specs.Premises.{Holds, Means, Plain, Translates, held_value}
use Rattle.kube_server_laws.proofs.Calls.{alone_made, as_kind, headed, means_value, opt_flat_map_kind, taken, value_means}
use Rattle.kube_server_laws.proofs.Choices.{Choice, present, absent, failed, choose, if_set_chooses}
use Rattle.kube_server_laws.proofs.Outcomes.{alone, listed_item, over, over_one}
use Rattle.kube_server_laws.proofs.Terms.{item_or_fails, item_or_means}
use Rattle.kube_server_syntax.specs.Tree.{Tree, call, ident, index, no_trees, select, tree_and}
use Rattle.kube_server_syntax.specs.declared.node.Place.{Place}
use Rattle.kube_server_translation.specs.Calls.{Translated, after, call_made}
use Rattle.kube_server_translation.specs.Forms as form
use Rattle.kube_server_translation.specs.Kinds.{name_of}
use Rattle.kube_server_translation.specs.Made.{Made, plain, optional, member, held, type_of, Names, flat_mapped, held_of, indexed, is_optional, made_of, mapped, selected, value_of}
use Rattle.kube_server_translation.specs.Translation.{made, is_optional_name}
use Rattle.kube_server_translation.specs.declared.kind.CallKind.TheVariants as kind
use Rattle.kube_server_values.specs.Optionals.{some_of, none_of_all}
use Rattle.kube_server_values.specs.Selections.{index_optional}

-- ---- as values

some_outcome : Book → Outcome → Outcome
some_outcome book r = and_then (all_values (r ∷ [])) (λ vs. call_outcome server_library book (codes "optional.of") None vs)

list_value : (book : Book) (l : Term) (env : Bindings) (w : Option Data) → meaning server_library book l env ≡ Ok (list (option_items w))
    → meaning server_library book (form.optional_in l) env ≡ held_value w
list_value book l env None h =
    item_or_means book (form.each l (form.some form.its_value)) form.none env None
    (ap (over macro.Map (λ d. meaning server_library book (form.some form.its_value) ((codes "@value", d) ∷ env))) h)
list_value book l env (Some d) h = by (has_double d) refl
  where
    mapped_list : meaning server_library book (form.each l (form.some form.its_value)) env ≡ listed_item (meaning server_library book (form.some form.its_value) ((codes "@value", d) ∷ env))
    mapped_list = ap (over macro.Map (λ e. meaning server_library book (form.some form.its_value) ((codes "@value", e) ∷ env))) h
        ∙ over_one (λ e. meaning server_library book (form.some form.its_value) ((codes "@value", e) ∷ env)) d

    by : (c : Bool) → has_double d ≡ c → meaning server_library book (form.optional_in l) env ≡ (if c then Err no_doubles else Ok (some_of d))
    by true e = item_or_fails book (form.each l (form.some form.its_value)) form.none env no_doubles
        (mapped_list ∙ ap (λ c. listed_item (if false || (c || false) then Err no_doubles else Ok (some_of d))) e)
    by false e = item_or_means book (form.each l (form.some form.its_value)) form.none env (Some (some_of d))
        (mapped_list ∙ ap (λ c. listed_item (if false || (c || false) then Err no_doubles else Ok (some_of d))) e)

-- what is selected on an optional, as a value
through_value : (book : Book) (names : Names) (p : Place) (o : Tree) (q : Bool) (x : List ℕ) (env : Bindings) (w : Option Data) (l : Term)
    → made names (select p o q x) ≡ Ok (held l) → meaning server_library book l env ≡ Ok (list (option_items w))
    → Means book names (select p o q x) env (held_value w)
through_value book names p o q x env w l e h = value_means book names (select p o q x) env (held_value w) (held l) e (list_value book l env w h)

-- the optional member of a path
member_choice : (c : Choice) (s : Outcome) (f : Outcome → Outcome) (w : Option Data)
    → ((d : Data) → f (Ok d) ≡ held_value (Some d)) → choose c (alone s) (Ok (list no_items)) ≡ Ok (list (option_items w)) → choose c (f s) (Ok none_of_all) ≡ held_value w
member_choice present (Ok v) f (Some d) g h = let k : v ≡ d = cc in g v ∙ ap (λ z. held_value (Some z)) k
member_choice present (Ok v) f None g h = cc
member_choice present (Err e) f w g h = cc
member_choice absent s f None g h = refl
member_choice absent s f (Some d) g h = cc
member_choice (failed e) s f w g h = cc

pub some_is : (book : Book) (d : Data) → and_then (all_values (Ok d ∷ [])) (λ vs. call_outcome server_library book (codes "optional.of") None vs) ≡ held_value (Some d)
some_is book d = by (has_double d)
  where
    by : (c : Bool) → (if false || (c || false) then Err no_doubles else Ok (some_of d)) ≡ (if c then Err no_doubles else Ok (some_of d))
    by true = refl
    by false = refl

path_value : (book : Book) (t : Term) (x : List ℕ) (env : Bindings) (w : Option Data)
    → meaning server_library book (form.if_set t x (term.list_of (form.one (term.select t x))) (term.list_of no_terms)) env ≡ Ok (list (option_items w))
    → meaning server_library book (form.if_set t x (form.some (term.select t x)) form.none) env ≡ held_value w
path_value book t x env w h =
    let n = if_set_chooses book t x env in
    n.1 (form.some (term.select t x)) form.none
    ∙ member_choice n.0 (meaning server_library book (term.select t x) env)
    (λ r. and_then (all_values (r ∷ [])) (λ vs. call_outcome server_library book (codes "optional.of") None vs)) w (some_is book)
    (sym (n.1 (term.list_of (form.one (term.select t x))) (term.list_of no_terms)) ∙ h)

-- an optional that is no value as it stands
abbrev IsSelected : Made → Type 0
IsSelected (held l) = Unit {0}
IsSelected (member t x) = Unit {0}
IsSelected _ = ⊥

made_value : (book : Book) (m : Made) (env : Bindings) (w : Option Data) → IsSelected m → meaning server_library book (held_of m) env ≡ Ok (list (option_items w))
    → meaning server_library book (value_of m) env ≡ held_value w
made_value book (held l) env w s h = list_value book l env w h
made_value book (member t x) env w s h = path_value book (form.copied t) x env w h
made_value book (plain t) env w s h = absurd s
made_value book (optional t) env w s h = absurd s
made_value book (type_of t) env w s h = absurd s

is_selected : (m : Made) (q : Bool) (x : List ℕ) → is_optional (selected m q x) ≡ true → IsSelected (selected m q x)
is_selected (plain t) false x h = cc
is_selected (plain t) true x h = by (form.is_path t)
  where
    by : (b : Bool) → IsSelected (if b then member t x else held (form.members_in (term.list_of (form.one t)) x))
    by true = tt
    by false = tt
is_selected (optional t) q x h = tt
is_selected (member t y) q x h = tt
is_selected (held l) q x h = tt
is_selected (type_of t) false x h = cc
is_selected (type_of t) true x h = tt

pub selection_value : (book : Book) (names : Names) (p : Place) (o : Tree) (q : Bool) (x : List ℕ) (env : Bindings) (w : Option Data)
    → Holds book names (select p o q x) env (Ok w) → Means book names (select p o q x) env (held_value w)
selection_value book names p o q x env w h = by (made names o) refl
  where
    by : (z : Translated Made) → made names o ≡ z → Means book names (select p o q x) env (held_value w)
    by (Ok m) e =
        let same : Ok h.0 ≡ Ok (selected m q x) = sym h.1 ∙ ap (λ r. after r (λ n. Ok (selected n q x))) e in
        let k : h.0 ≡ selected m q x = cc in
        value_means book names (select p o q x) env (held_value w) (selected m q x) (ap (λ r. after r (λ n. Ok (selected n q x))) e)
        (made_value book (selected m q x) env w (is_selected m q x (ap is_optional (sym k) ∙ h.2)) (ap (λ n. meaning server_library book (held_of n) env) (sym k) ∙ h.3))
    by (Err f) e =
        let no : Ok h.0 ≡ Err f = sym h.1 ∙ ap (λ r. after r (λ n. Ok (selected n q x))) e in cc

-- ---- optFlatMap

flat_map_made : (names : Names) (p q : Place) (o b : Tree) (x : List ℕ) (m n : Made) → made names o ≡ Ok m → made ((x, false) ∷ names) b ≡ Ok n
    → made names (call p (tree_and o no_trees) (codes "optFlatMap") (tree_and (ident q x) (tree_and b no_trees))) ≡ Ok (held (flat_mapped x m n))
flat_map_made names p q o b x m n h k =
    as_kind names p (codes "optFlatMap") (tree_and o no_trees) (tree_and (ident q x) (tree_and b no_trees)) kind.OptFlatMap (opt_flat_map_kind (name_of o))
    ∙ headed (call_made kind.OptFlatMap (codes "optFlatMap") (x ∷ [])) (made_of (is_optional_name names x) (term.ident x)) (made names o) (made ((x, false) ∷ names) b) m n h k

pub flat_map_of_none : (book : Book) (names : Names) (p q : Place) (o b : Tree) (x : List ℕ) (env : Bindings)
    → Holds book names o env (Ok None) → Translates ((x, false) ∷ names) b
    → Holds book names (call p (tree_and o no_trees) (codes "optFlatMap") (tree_and (ident q x) (tree_and b no_trees))) env (Ok None)
flat_map_of_none book names p q o b x env h k = (
  held (flat_mapped x h.0 k.0),
  flat_map_made names p q o b x h.0 k.0 h.1 k.1,
  refl,
  item_or_means book (mapped x h.0 (held_of k.0)) (term.list_of no_terms) env None
      (ap (over macro.Map (λ d. meaning server_library book (held_of k.0) ((x, d) ∷ env))) h.3),
)

pub flat_map_of_some : (book : Book) (names : Names) (p q : Place) (o b : Tree) (x : List ℕ) (env : Bindings) (v : Data) (w : Option Data)
    → Holds book names o env (Ok (Some v)) → Holds book ((x, false) ∷ names) b ((x, v) ∷ env) (Ok w)
    → Holds book names (call p (tree_and o no_trees) (codes "optFlatMap") (tree_and (ident q x) (tree_and b no_trees))) env (Ok w)
flat_map_of_some book names p q o b x env v w h k = (
  held (flat_mapped x h.0 k.0),
  flat_map_made names p q o b x h.0 k.0 h.1 k.1,
  refl,
  item_or_means book (mapped x h.0 (held_of k.0)) (term.list_of no_terms) env (Some (list (option_items w)))
      (ap (over macro.Map (λ d. meaning server_library book (held_of k.0) ((x, d) ∷ env))) h.3
      ∙ (over_one (λ d. meaning server_library book (held_of k.0) ((x, d) ∷ env)) v ∙ ap listed_item k.3)),
)

-- ---- dyn

as_it_is : (z : Translated Made) → after (alone_made z) (λ us. Ok (call_made kind.Dynamic (codes "dyn") [] [] us)) ≡ z
as_it_is (Ok m) = refl
as_it_is (Err e) = refl

pub dyn_law : (names : Names) (p : Place) (t : Tree) → made names (call p no_trees (codes "dyn") (tree_and t no_trees)) ≡ made names t
dyn_law names p t = as_it_is (made names t)

-- ---- optional indices

pub optional_index : (book : Book) (names : Names) (p : Place) (a i : Tree) (env : Bindings) (v k : Data)
    → has_double v ≡ false → has_double k ≡ false → Plain book names a env (Ok v) → Means book names i env (Ok k)
    → Means book names (index p a true i) env (index_optional v k)
optional_index book names p a i env v k d e h g =
    let n = taken book env (Ok k) (made names i) g in
    value_means book names (index p a true i) env (index_optional v k) (indexed (plain h.0) true (value_of n.0))
    (ap (λ r. after r (λ m. after (made names i) (λ s. Ok (indexed m true (value_of s))))) h.1
    ∙ ap (λ r. after r (λ s. Ok (indexed (plain h.0) true (value_of s)))) n.1)
    (ap (λ r. and_then (all_values (r ∷ meaning server_library book (value_of n.0) env ∷ [])) (λ vs. call_outcome server_library book (codes "_[?_]") None vs)) h.2
    ∙ (ap (λ r. and_then (all_values (Ok v ∷ r ∷ [])) (λ vs. call_outcome server_library book (codes "_[?_]") None vs)) (means_value book names i env (Ok k) n.0 n.1 g)
    ∙ (ap (λ c. if false || (c || (has_double k || false)) then Err no_doubles else index_optional v k) d
    ∙ ap (λ c. if false || (false || (c || false)) then Err no_doubles else index_optional v k) e)))
