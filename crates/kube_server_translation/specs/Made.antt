-- Trusted by laws alone.
-- What a tree is translated to, before it is known what is done with it, and what is made of that
-- (documentation of CEL-Go, `cel.OptionalTypes`).
use Rattle.std.specs.Prelude.{ℕ, List, [], ◌∷◌, ◌++◌, map, codes, Bool, true, false, ◌||◌, ◌&&◌, Option, Some, None, option_map, is_some, if◌then◌else◌}
use Rattle.std.specs.List.{list_any}
use Rattle.std.specs.Map.{lookup}
use Rattle.std.specs.Option.{option_and_then, unwrap_or}
use Rattle.std.specs.Str.{bytes_eq}
use Rattle.cel_value.specs.Data.{bool, text}
use Rattle.cel_syntax_ast.specs.Term as term
use Rattle.cel_syntax_ast.specs.Term.{Term, Terms, no_terms, Pairs, no_pairs, pair_and, terms_of}
use Rattle.cel_syntax_ast.specs.declared.expr.BinaryOperator.{BinaryOperator}
use Rattle.cel_syntax_ast.specs.declared.expr.BinaryOperator.TheVariants as operator
use Rattle.cel_syntax_ast.specs.declared.expr.MacroKind.TheVariants as kind
use Rattle.kube_server_translation.specs.Forms as form

pub data Made : Type 0 where
  -- a term that isn't known to be an optional
  plain : Term → Made
  -- one that is
  optional : Term → Made
  -- the optional member of a path
  member : Term → List ℕ → Made
  -- the optional of what a list holds, which has at most one item
  held : Term → Made
  -- the type of a term's value
  type_of : Term → Made

-- names that are bound, the innermost first, each with whether its value is an optional
abbrev pub Names : Type 0
Names = List (List ℕ × Bool)

-- ---- as a term

abbrev pub value_of : Made → Term
value_of (plain t) = t
value_of (optional t) = t
value_of (member t x) = form.if_set (form.copied t) x (form.some (term.select (form.copied t) x)) form.none
value_of (held l) = form.optional_in l
value_of (type_of t) = form.type_of t

abbrev pub values_of : List Made → Terms
values_of ms = terms_of (map value_of ms)

abbrev pub is_optional : Made → Bool
is_optional (plain t) = false
is_optional (optional t) = true
is_optional (member t x) = true
is_optional (held l) = true
is_optional (type_of t) = false

-- a term, and whether it is an optional
abbrev pub made_of : Bool → Term → Made
made_of false t = plain t
made_of true t = optional t

-- the list of what an optional holds
abbrev pub held_of : Made → Term
held_of (plain t) = form.list_in t
held_of (optional t) = form.list_in t
held_of (member t x) =
    form.if_set (form.copied t) x (term.list_of (form.one (term.select (form.copied t) x))) (term.list_of no_terms)
held_of (held l) = l
held_of (type_of t) = form.list_in (form.type_of t)

-- ---- selection and index: on an optional they go through it ("Field Selection", "Indexing")

-- a selection on what isn't known to be an optional
abbrev pub selection : Term → Bool → List ℕ → Made
selection t false x = plain (term.select t x)
selection t true x =
    if form.is_path t then member t x else held (form.members_in (term.list_of (form.one t)) x)

abbrev pub selected : Made → Bool → List ℕ → Made
selected m o x = if is_optional m then held (form.members_in (held_of m) x) else selection (value_of m) o x

abbrev pub indexed : Made → Bool → Term → Made
indexed m o i =
    if is_optional m || o then optional (term.call no_terms (codes "_[?_]") (form.two (value_of m) i))
    else plain (term.index (value_of m) i)

-- whether a selection finds something
abbrev pub tested : Made → Made
tested (plain (term.select t x)) = plain (term.has t x)
tested (held l) = plain (form.is_held l)
tested m = m

-- ---- methods of optionals ("HasValue", "Value", "Or", "OrValue", "OptMap", "OptFlatMap")

abbrev pub has_value : Made → Term
has_value (plain t) = form.has_value t
has_value (optional t) = form.has_value t
has_value (member t x) = form.if_set (form.copied t) x (term.literal (bool true)) (term.literal (bool false))
has_value (held l) = form.is_held l
has_value (type_of t) = form.has_value (form.type_of t)

abbrev pub or_value : Made → Term → Term
or_value (member t x) c = form.if_set (form.copied t) x (term.select (form.copied t) x) c
or_value m c = form.item_or (held_of m) c

-- the value, or the error of an optional without one
abbrev pub its_value : Made → Term
its_value (plain t) = form.held_value t
its_value (optional t) = form.held_value t
its_value (member t x) = or_value (member t x) (form.held_value form.none)
its_value (held l) = or_value (held l) (form.held_value form.none)
its_value (type_of t) = form.held_value (form.type_of t)

abbrev pub or_optional : Made → Term → Term
or_optional m p =
    form.bound (codes "@value") (value_of m)
    (term.conditional (form.has_value form.its_value) form.its_value
    (term.call (form.one form.its_value) (codes "or") (form.one p)))

abbrev pub mapped : List ℕ → Made → Term → Term
mapped x m b = term.macro kind.Map (held_of m) x no_terms b

abbrev pub flat_mapped : List ℕ → Made → Made → Term
flat_mapped x m b = form.item_or (mapped x m (held_of b)) (term.list_of no_terms)

-- ---- conditions: an optional if a branch is one

abbrev pub chosen : Term → Made → Made → Made
chosen c m n = made_of (is_optional m || is_optional n) (term.conditional c (value_of m) (value_of n))

-- ---- lists and maps ("Optional Element Setting", "Optional Field Setting")

abbrev pub piece : Bool × Made → Term
piece p = if p.0 then held_of p.1 else term.list_of (form.one (value_of p.1))

abbrev pub list_with : List (Bool × Made) → Term
list_with ps =
    if list_any (λ p. p.0) ps then form.joined (terms_of (map piece ps))
    else term.list_of (values_of (map (λ p. p.1) ps))

-- the list of at most one map of an entry
abbrev pub entry_piece : Bool × Term × Made → Term
entry_piece p =
    if p.0 then form.maps_with p.1 (held_of p.2)
    else term.list_of (form.one (term.map_with (pair_and p.1 (value_of p.2) no_pairs)))

abbrev pub map_with : List (Bool × Term × Made) → Term
map_with ps =
    if list_any (λ p. p.0) ps then form.map_of_maps (form.joined (terms_of (map entry_piece ps)))
    else term.map_with (term.pairs_of (map (λ p. (p.1, value_of p.2)) ps))

-- ---- types that are compared (CEL language definition, "Values", the types of values)

-- a path as a text has it
abbrev pub path_text : Term → Option (List ℕ)
path_text (term.ident x) = Some x
path_text (term.select t x) = option_map (λ s. s ++ (46 ∷ x)) (path_text t)
path_text _ = None

-- the identifier that a path begins with
abbrev pub root_of : Term → Option (List ℕ)
root_of (term.ident x) = Some x
root_of (term.select t x) = root_of t
root_of _ = None

unfoldable pub type_names : List (List ℕ)
type_names =
    codes "bool" ∷ codes "bytes" ∷ codes "double" ∷ codes "int" ∷ codes "list" ∷ codes "map" ∷ codes "null_type"
    ∷ codes "string" ∷ codes "type" ∷ codes "uint" ∷ codes "optional_type"
    ∷ codes "google.protobuf.Timestamp" ∷ codes "google.protobuf.Duration"
    ∷ codes "net.IP" ∷ codes "net.CIDR" ∷ codes "kubernetes.Quantity" ∷ codes "kubernetes.Semver"
    ∷ codes "kubernetes.URL" ∷ codes "kubernetes.NamedFormat" ∷ []

abbrev pub is_bound : Names → List ℕ → Bool
is_bound names x = is_some (lookup (bytes_eq x) names)

-- the text, if it is the name of a type
abbrev pub if_type : List ℕ → Option (List ℕ)
if_type s = if list_any (bytes_eq s) type_names then Some s else None

-- the name of a type that a path is, unless a macro binds the path's first name
abbrev pub type_named : Names → Term → Option (List ℕ)
type_named names t =
    option_and_then (λ x. if is_bound names x then None else option_and_then if_type (path_text t)) (root_of t)

-- the name of a type as a text
abbrev pub name_of_type : Names → Made → Option Term
name_of_type names (type_of t) = Some (form.type_name t)
name_of_type names (plain t) = option_map (λ s. term.literal (text s)) (type_named names t)
name_of_type names _ = None

abbrev pub is_equality : BinaryOperator → Bool
is_equality operator.Equal = true
is_equality operator.NotEqual = true
is_equality _ = false

abbrev pub is_type : Made → Bool
is_type (type_of t) = true
is_type _ = false

abbrev pub both_names : BinaryOperator → Option Term → Option Term → Option Term
both_names op (Some a) (Some b) = Some (term.binary op a b)
both_names op _ _ = None

-- the comparison of types by their names: at least one is that of a value
abbrev pub compared : Names → BinaryOperator → Made → Made → Option Term
compared names op m n =
    if is_equality op && (is_type m || is_type n) then both_names op (name_of_type names m) (name_of_type names n)
    else None

abbrev pub operated : Names → BinaryOperator → Made → Made → Term
operated names op m n = unwrap_or (compared names op m n) (term.binary op (value_of m) (value_of n))
