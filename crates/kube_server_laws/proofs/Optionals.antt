-- What is made of optionals.
use Rattle.std.proofs.Common.{◌≡◌, ℕ, List, [], ◌∷◌, ◌++◌, codes, true, false, Option, Some, None, Ok, Err, refl, ap, ◌∙◌, sym}
use Rattle.std.specs.Option.{option_map_or}
use Rattle.cel_patterns.specs.Book.{Book}
use Rattle.cel_value.specs.Data.{Data, list, no_items}
use Rattle.cel_value.specs.Faults.{Fault}
use Rattle.cel_value.specs.Find.{option_items}
use Rattle.cel_semantics.specs.Bindings.{Bindings}
use Rattle.cel_semantics.specs.Meaning.{meaning}
use Rattle.cel_semantics.specs.Outcome.{Outcome, and_then}
use Rattle.cel_syntax_ast.specs.Term as term
use Rattle.cel_syntax_ast.specs.Term.{Term}
use Rattle.cel_syntax_ast.specs.declared.expr.MacroKind.TheVariants as macro
use Rattle.kube_server_functions.specs.Server.{server_library}
use Rattle.kube_server_laws.specs.Premises.{AreMade, Holds, Means, MeansIn}
use Rattle.kube_server_laws.proofs.Calls.{as_kind, bind_kind, headed, means_value, opt_map_kind, or_value_kind, taken, Taken, two_made, alone_made, value_means, value_of_made}
use Rattle.kube_server_laws.proofs.Choices.{Choice, present, absent, failed, choose, if_set_chooses}
use Rattle.kube_server_laws.proofs.Outcomes.{alone, over, over_one, listed_item}
use Rattle.kube_server_laws.proofs.Terms.{bound_means, item_or_means}
use Rattle.kube_server_syntax.specs.Tree.{Tree, ident, call, no_trees, tree_and}
use Rattle.kube_server_syntax.specs.declared.node.Place.{Place}
use Rattle.kube_server_translation.specs.Calls.{Translated, after, call_made}
use Rattle.kube_server_translation.specs.Forms.{bound, copied, if_set, item_or, one}
use Rattle.kube_server_translation.specs.Kinds.{name_of}
use Rattle.kube_server_translation.specs.Made.{Made, plain, optional, member, held, type_of, Names, is_optional, value_of, held_of, made_of, mapped, or_value}
use Rattle.kube_server_translation.specs.Translation.{made, is_optional_name}
use Rattle.kube_server_translation.specs.declared.kind.CallKind.TheVariants as kind

-- ---- orValue

-- a list of one item that is listed like this
item_of : (s r : Outcome) (o : Option Data) → alone s ≡ Ok (list (option_items o)) → s ≡ option_map_or Ok o r
item_of (Ok v) r None h = cc
item_of (Ok v) r (Some d) h = cc
item_of (Err e) r o h = cc

abbrev empty_list : Outcome
empty_list = Ok (list no_items)

no_item : (r : Outcome) (o : Option Data) → empty_list ≡ Ok (list (option_items o)) → r ≡ option_map_or Ok o r
no_item r None h = refl
no_item r (Some d) h = cc

by_choice : (c : Choice) (s r : Outcome) (o : Option Data) → choose c (alone s) (Ok (list no_items)) ≡ Ok (list (option_items o)) → choose c s r ≡ option_map_or Ok o r
by_choice present s r o h = item_of s r o h
by_choice absent s r o h = no_item r o h
by_choice (failed e) s r o h = cc

member_or : (book : Book) (t : Term) (x : List ℕ) (c : Term) (env : Bindings) (o : Option Data) (r : Outcome)
    → meaning server_library book (if_set t x (term.list_of (one (term.select t x))) (term.list_of term.no_terms)) env ≡ Ok (list (option_items o))
    → meaning server_library book c env ≡ r
    → meaning server_library book (if_set t x (term.select t x) c) env ≡ option_map_or Ok o r
member_or book t x c env o r h k =
    let n = if_set_chooses book t x env in
    n.1 (term.select t x) c
    ∙ (ap (λ z. choose n.0 (meaning server_library book (term.select t x) env) z) k
    ∙ by_choice n.0 (meaning server_library book (term.select t x) env) r o
    (sym (n.1 (term.list_of (one (term.select t x))) (term.list_of term.no_terms)) ∙ h))

-- in all bindings of made names, `c` has this outcome
abbrev In : Book → Term → Bindings → Outcome → Type 0
In book c env r = (es : Bindings) → AreMade es → meaning server_library book c (es ++ env) ≡ r

list_or : (book : Book) (l c : Term) (env : Bindings) (o : Option Data) (r : Outcome) → meaning server_library book l env ≡ Ok (list (option_items o)) → In book c env r
    → meaning server_library book (item_or l c) env ≡ option_map_or Ok o r
list_or book l c env o r h k =
    item_or_means book l c env o h ∙ ap (option_map_or Ok o) (k ((codes "@held", list (option_items o)) ∷ []) refl)

or_value_means : (book : Book) (m : Made) (c : Term) (env : Bindings) (o : Option Data) (r : Outcome) → is_optional m ≡ true
    → meaning server_library book (held_of m) env ≡ Ok (list (option_items o)) → In book c env r
    → meaning server_library book (or_value m c) env ≡ option_map_or Ok o r
or_value_means book (plain t) c env o r b h k = cc
or_value_means book (optional t) c env o r b h k = list_or book (held_of (optional t)) c env o r h k
or_value_means book (member t x) c env o r b h k = member_or book (copied t) x c env o r h (k [] refl)
or_value_means book (held l) c env o r b h k = list_or book l c env o r h k
or_value_means book (type_of t) c env o r b h k = cc

pub or_value_law : (book : Book) (names : Names) (p : Place) (o c : Tree) (env : Bindings) (w : Option Data) (r : Outcome)
    → Holds book names o env (Ok w) → MeansIn book names c [] env r
    → Means book names (call p (tree_and o no_trees) (codes "orValue") (tree_and c no_trees)) env (option_map_or Ok w r)
or_value_law book names p o c env w r h k =
    let n = taken book env r (made names c) (k [] refl) in
    value_means book names (call p (tree_and o no_trees) (codes "orValue") (tree_and c no_trees)) env (option_map_or Ok w r) (plain (or_value h.0 (value_of n.0)))
    (as_kind names p (codes "orValue") (tree_and o no_trees) (tree_and c no_trees) kind.OrValue (or_value_kind (name_of o))
    ∙ two_made (call_made kind.OrValue (codes "orValue") []) (made names o) (made names c) h.0 n.0 h.1 n.1)
    (or_value_means book h.0 (value_of n.0) env w r h.2 h.3 (λ es b. means_value book names c (es ++ env) r n.0 n.1 (k es b)))

-- ---- optMap

pub opt_map_made : (names : Names) (p q : Place) (o b : Tree) (x : List ℕ) (m n : Made) → made names o ≡ Ok m → made ((x, false) ∷ names) b ≡ Ok n
    → made names (call p (tree_and o no_trees) (codes "optMap") (tree_and (ident q x) (tree_and b no_trees))) ≡ Ok (held (mapped x m (value_of n)))
opt_map_made names p q o b x m n h k =
    as_kind names p (codes "optMap") (tree_and o no_trees) (tree_and (ident q x) (tree_and b no_trees)) kind.OptMap (opt_map_kind (name_of o))
    ∙ headed (call_made kind.OptMap (codes "optMap") (x ∷ [])) (made_of (is_optional_name names x) (term.ident x)) (made names o) (made ((x, false) ∷ names) b) m n h k

pub opt_map_of_none : (book : Book) (names : Names) (p q : Place) (o b : Tree) (x : List ℕ) (env : Bindings)
    → Holds book names o env (Ok None) → Taken (made ((x, false) ∷ names) b)
    → Holds book names (call p (tree_and o no_trees) (codes "optMap") (tree_and (ident q x) (tree_and b no_trees))) env (Ok None)
opt_map_of_none book names p q o b x env h k = (
  held (mapped x h.0 (value_of k.0)),
  opt_map_made names p q o b x h.0 k.0 h.1 k.1,
  refl,
  ap (over macro.Map (λ d. meaning server_library book (value_of k.0) ((x, d) ∷ env))) h.3,
)

pub opt_map_of_some : (book : Book) (names : Names) (p q : Place) (o b : Tree) (x : List ℕ) (env : Bindings) (v d : Data)
    → Holds book names o env (Ok (Some v)) → Means book ((x, false) ∷ names) b ((x, v) ∷ env) (Ok d)
    → Holds book names (call p (tree_and o no_trees) (codes "optMap") (tree_and (ident q x) (tree_and b no_trees))) env (Ok (Some d))
opt_map_of_some book names p q o b x env v d h k =
    let n = taken book ((x, v) ∷ env) (Ok d) (made ((x, false) ∷ names) b) k in (
      held (mapped x h.0 (value_of n.0)),
      opt_map_made names p q o b x h.0 n.0 h.1 n.1,
      refl,
      ap (over macro.Map (λ e. meaning server_library book (value_of n.0) ((x, e) ∷ env))) h.3
          ∙ (over_one (λ e. meaning server_library book (value_of n.0) ((x, e) ∷ env)) v
          ∙ ap listed_item (means_value book ((x, false) ∷ names) b ((x, v) ∷ env) (Ok d) n.0 n.1 k)),
    )

pub opt_map_error : (book : Book) (names : Names) (p q : Place) (o b : Tree) (x : List ℕ) (env : Bindings) (v : Data) (e : Fault)
    → Holds book names o env (Ok (Some v)) → Means book ((x, false) ∷ names) b ((x, v) ∷ env) (Err e)
    → Holds book names (call p (tree_and o no_trees) (codes "optMap") (tree_and (ident q x) (tree_and b no_trees))) env (Err e)
opt_map_error book names p q o b x env v e h k =
    let n = taken book ((x, v) ∷ env) (Err e) (made ((x, false) ∷ names) b) k in (
      held (mapped x h.0 (value_of n.0)),
      opt_map_made names p q o b x h.0 n.0 h.1 n.1,
      refl,
      ap (over macro.Map (λ d. meaning server_library book (value_of n.0) ((x, d) ∷ env))) h.3
          ∙ (over_one (λ d. meaning server_library book (value_of n.0) ((x, d) ∷ env)) v
          ∙ ap listed_item (means_value book ((x, false) ∷ names) b ((x, v) ∷ env) (Err e) n.0 n.1 k)),
    )

-- ---- cel.bind

-- `cel.bind(x, e, b)`
abbrev pub binding_call : Place → Place → Place → List ℕ → Tree → Tree → Tree
binding_call p q s x e b =
    call p (tree_and (ident q (codes "cel")) no_trees) (codes "bind") (tree_and (ident s x) (tree_and e (tree_and b no_trees)))

bound_parts : (f : List Made → Made) (g : Made) (r s : Translated Made) (m n : Made) → r ≡ Ok m → s ≡ Ok n
    → after (after (after r (λ a. after (alone_made s) (λ ms. Ok (a ∷ ms)))) (λ ms. Ok (g ∷ ms))) (λ us. Ok (f us)) ≡ Ok (f (g ∷ m ∷ n ∷ []))
bound_parts f g r s m n h k =
    ap (λ z. after (after (after z (λ a. after (alone_made s) (λ ms. Ok (a ∷ ms)))) (λ ms. Ok (g ∷ ms))) (λ us. Ok (f us))) h
    ∙ ap (λ z. after (after (after (alone_made z) (λ ms. Ok (m ∷ ms))) (λ ms. Ok (g ∷ ms))) (λ us. Ok (f us))) k

bind_made : (names : Names) (p q s : Place) (x : List ℕ) (e b : Tree) (m n : Made) → made names e ≡ Ok m → made ((x, false) ∷ names) b ≡ Ok n
    → made names (binding_call p q s x e b) ≡ Ok (made_of (is_optional n) (bound x (value_of m) (value_of n)))
bind_made names p q s x e b m n h k =
    as_kind names p (codes "bind") (tree_and (ident q (codes "cel")) no_trees) (tree_and (ident s x) (tree_and e (tree_and b no_trees))) kind.Bind bind_kind
    ∙ bound_parts (call_made kind.Bind (codes "bind") (x ∷ []) (made_of (is_optional_name names (codes "cel")) (term.ident (codes "cel")) ∷ [])) (made_of (is_optional_name names x) (term.ident x)) (made names e) (made ((x, false) ∷ names) b) m n h k

bind_means : (book : Book) (names : Names) (p q s : Place) (x : List ℕ) (e b : Tree) (env : Bindings) (m n : Made) (r : Outcome) → made names e ≡ Ok m → made ((x, false) ∷ names) b ≡ Ok n
    → meaning server_library book (bound x (value_of m) (value_of n)) env ≡ r → Means book names (binding_call p q s x e b) env r
bind_means book names p q s x e b env m n r h k z =
    value_means book names (binding_call p q s x e b) env r (made_of (is_optional n) (bound x (value_of m) (value_of n))) (bind_made names p q s x e b m n h k)
    (ap (λ t. meaning server_library book t env) (value_of_made (is_optional n) (bound x (value_of m) (value_of n))) ∙ z)

pub bind_law : (book : Book) (names : Names) (p q s : Place) (x : List ℕ) (e b : Tree) (env : Bindings) (v : Data) (r : Outcome)
    → Means book names e env (Ok v) → Means book ((x, false) ∷ names) b ((x, v) ∷ env) r → Means book names (binding_call p q s x e b) env r
bind_law book names p q s x e b env v r h k =
    let m = taken book env (Ok v) (made names e) h in
    let n = taken book ((x, v) ∷ env) r (made ((x, false) ∷ names) b) k in
    bind_means book names p q s x e b env m.0 n.0 r m.1 n.1
    (bound_means book x (value_of m.0) (value_of n.0) env
    ∙ (ap (λ z. and_then z (λ d. meaning server_library book (value_of n.0) ((x, d) ∷ env))) (means_value book names e env (Ok v) m.0 m.1 h)
    ∙ means_value book ((x, false) ∷ names) b ((x, v) ∷ env) r n.0 n.1 k))

pub bind_error : (book : Book) (names : Names) (p q s : Place) (x : List ℕ) (e b : Tree) (env : Bindings) (f : Fault)
    → Means book names e env (Err f) → Taken (made ((x, false) ∷ names) b) → Means book names (binding_call p q s x e b) env (Err f)
bind_error book names p q s x e b env f h k =
    let m = taken book env (Err f) (made names e) h in
    bind_means book names p q s x e b env m.0 k.0 (Err f) m.1 k.1
    (bound_means book x (value_of m.0) (value_of k.0) env
    ∙ ap (λ z. and_then z (λ d. meaning server_library book (value_of k.0) ((x, d) ∷ env))) (means_value book names e env (Err f) m.0 m.1 h))
