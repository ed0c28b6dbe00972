-- Trusted by laws alone.
-- Terms that stand for forms that the port's trees don't have: a value with a name, members that may
-- be absent, optionals. An optional is handled as the list of what it holds, which has at most one
-- item: a list may hold doubles, and no function is asked. The names that begin with `@` are made
-- here; no text has one. Sources: documentation of CEL-Go, `cel.OptionalTypes`, `ext.Bindings`.
use Rattle.std.specs.Prelude.{ℕ, pos, List, [], codes, Bool, true, false}
use Rattle.cel_value.specs.Data.{null, bool, int, text}
use Rattle.cel_syntax_ast.specs.Term.{Term, literal, ident, select, has, index, binary, conditional, list_of, map_with, call, qualified, macro, Terms, no_terms, term_and, no_pairs, pair_and}
use Rattle.cel_syntax_ast.specs.declared.expr.BinaryOperator.TheVariants.{Or, And}
use Rattle.cel_syntax_ast.specs.declared.expr.MacroKind.{MacroKind}
use Rattle.cel_syntax_ast.specs.declared.expr.MacroKind.TheVariants as kind

abbrev pub one : Term → Terms
one t = term_and t no_terms

abbrev pub two : Term → Term → Terms
two t u = term_and t (one u)

-- the item of a list at an index
abbrev pub item : Term → ℕ → Term
item t n = index t (literal (int (pos n)))

-- the items of a list, each as `f` of the variable `@value`
abbrev pub each : Term → Term → Term
each l f = macro kind.Map l (codes "@value") no_terms f

abbrev pub its_value : Term
its_value = ident (codes "@value")

-- ---- a name for a value

-- `b`, in which `x` is the value of `e`, evaluated once: `[e].map(x, b)[0]`
abbrev pub bound : List ℕ → Term → Term → Term
bound x e b = item (macro kind.Map (list_of (one e)) x no_terms b) 0

-- ---- lists of at most one item

-- whether there is an item
abbrev pub is_held : Term → Term
is_held l = macro kind.Exists l (codes "@value") no_terms (literal (bool true))

abbrev pub its_list : Term
its_list = ident (codes "@held")

-- the item, or else `c`, which isn't evaluated if there is one
abbrev pub item_or : Term → Term → Term
item_or l c = bound (codes "@held") l (conditional (is_held its_list) (item its_list 0) c)

-- ---- optionals

abbrev pub none : Term
none = qualified (codes "optional.none") no_terms

abbrev pub some : Term → Term
some t = qualified (codes "optional.of") (one t)

abbrev pub has_value : Term → Term
has_value t = call (one t) (codes "hasValue") no_terms

abbrev pub held_value : Term → Term
held_value t = call (one t) (codes "value") no_terms

-- the list of what an optional holds
abbrev pub list_in : Term → Term
list_in t = macro kind.Map (list_of (one t)) (codes "@value") (one (has_value its_value)) (held_value its_value)

-- the optional that holds what a list of at most one item does
abbrev pub optional_in : Term → Term
optional_in l = item_or (each l (some its_value)) none

-- ---- members that may be absent

-- the error that isn't judged, of a value that isn't a map
abbrev pub no_members : Term
no_members = call no_terms (codes "_?._") (two (literal null) (literal (text [])))

-- whether a value, which is given twice, has a member; that error if it isn't a map
abbrev pub has_or_limit : Term → Term → List ℕ → Term
has_or_limit t u x = binary Or (binary And no_members (has t x)) (has u x)

abbrev pub is_set : Term → List ℕ → Term
is_set t x = has_or_limit t t x

-- the members of the items of a list, of those that have it
abbrev pub members_in : Term → List ℕ → Term
members_in l x = macro kind.Map l (codes "@value") (one (is_set its_value x)) (select its_value x)

-- an identifier with any number of selections
abbrev pub is_path : Term → Bool
is_path (ident x) = true
is_path (select t x) = is_path t
is_path _ = false

-- a path, made once more; what isn't one is null
abbrev pub copied : Term → Term
copied (ident x) = ident x
copied (select t x) = select (copied t) x
copied _ = literal null

-- `present` if the value of a path has the member `x`, else `absent`. A path that ends at a member that is
-- absent has that error. Of the path's value only this member is read.
abbrev pub if_set : Term → List ℕ → Term → Term → Term
if_set (select t y) x present absent =
    conditional (has t y) (conditional (is_set (select t y) x) present absent) (select t y)
if_set t x present absent = conditional (is_set t x) present absent

-- ---- lists and maps with optional parts

-- the lists of a list, one after another
abbrev pub joined : Terms → Term
joined ls = call (one (list_of ls)) (codes "flatten") no_terms

abbrev pub its_key : Term
its_key = ident (codes "@key")

-- the list of at most one map: that of the key `k` and what the optional holds
abbrev pub maps_with : Term → Term → Term
maps_with k l =
    bound (codes "@key") k (each l (map_with (pair_and its_key its_value no_pairs)))

-- ---- two variables (documentation of CEL-Go, `ext.TwoVarComprehensions`)

-- pairs of an index with its item, or of a key with its value
abbrev pub pairs_of : Term → Term
pairs_of r = call no_terms (codes "@pairs") (one r)

abbrev pub its_pair : Term
its_pair = ident (codes "@pair")

-- `b`, in which `x` and `y` are the two parts of the pair
abbrev pub with_both : List ℕ → List ℕ → Term → Term
with_both x y b = bound x (item its_pair 0) (bound y (item its_pair 1) b)

-- a macro over pairs
abbrev pub over_pairs : MacroKind → Term → Terms → Term → Term
over_pairs k r f b = macro k (pairs_of r) (codes "@pair") f b

-- the map of a list of pairs, and that of a list of maps
abbrev pub map_of_pairs : Term → Term
map_of_pairs l = call no_terms (codes "@map_of_pairs") (one l)

abbrev pub map_of_maps : Term → Term
map_of_maps l = call no_terms (codes "@map_of_maps") (one l)

-- ---- types (CEL language definition, "Values", `type`)

abbrev pub type_of : Term → Term
type_of t = call no_terms (codes "type") (one t)

-- the name of a value's type
abbrev pub type_name : Term → Term
type_name t = call no_terms (codes "@type_name") (one t)
