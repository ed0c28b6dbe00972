-- Trusted by the headline.
-- The kinds of calls: macros, functions whose names contain a dot, and ordinary calls. Source:
-- section "Macros" of the CEL language definition, and the names of the Kubernetes CEL
-- libraries and of the CEL extension libraries.
use Rattle.std.specs.Prelude.{ℕ, ◌-◌, nat_eq, length, Bool, ◌&&◌, if◌then◌else◌, List, [], ◌∷◌, ◌++◌, Option, Some, None, codes}
use Rattle.std.specs.List.{list_any}
use Rattle.std.specs.Str.{bytes_eq}
use Rattle.cel_syntax_ast.specs.Term as tree
use Rattle.cel_syntax_ast.specs.Term.{Term, Terms, terms_of}
use Rattle.cel_syntax_ast.specs.declared.expr.MacroKind.{MacroKind}
use Rattle.cel_syntax_ast.specs.declared.expr.MacroKind.TheVariants as kind

-- ---- names with a dot: the library's name before it, the function's after it

-- the functions of a library
unfoldable pub functions_of : List ℕ → List (List ℕ)
functions_of x =
    if bytes_eq x (codes "lists") then codes "range" ∷ []
    else (if bytes_eq x (codes "sets") then codes "contains" ∷ codes "equivalent" ∷ codes "intersects" ∷ []
    else (if bytes_eq x (codes "strings") then codes "quote" ∷ []
    else (if bytes_eq x (codes "math") then codes "abs" ∷ codes "sign" ∷ codes "greatest" ∷ codes "least"
    ∷ codes "bitAnd" ∷ codes "bitOr" ∷ codes "bitXor" ∷ codes "bitNot" ∷ codes "bitShiftLeft"
    ∷ codes "bitShiftRight" ∷ []
    else (if bytes_eq x (codes "base64") then codes "encode" ∷ codes "decode" ∷ []
    else (if bytes_eq x (codes "jsonpatch") then codes "escapeKey" ∷ []
    else (if bytes_eq x (codes "ip") then codes "isCanonical" ∷ []
    else (if bytes_eq x (codes "format") then codes "named" ∷ codes "dns1123Label" ∷ codes "dns1123Subdomain"
    ∷ codes "dns1035Label" ∷ codes "dns1123LabelPrefix" ∷ codes "dns1123SubdomainPrefix"
    ∷ codes "dns1035LabelPrefix" ∷ codes "qualifiedName" ∷ codes "labelValue" ∷ codes "uri" ∷ codes "uuid"
    ∷ codes "byte" ∷ codes "date" ∷ codes "datetime" ∷ []
    else [])))))))

-- whether the two names, joined with a dot, are the name of a function
unfoldable pub is_qualified : List ℕ → List ℕ → Bool
is_qualified x w = list_any (bytes_eq w) (functions_of x)

-- ---- ordinary calls

-- the name of a plain identifier
abbrev pub identifier_of : Term → Option (List ℕ)
identifier_of (tree.ident x) = Some x
identifier_of _ = None

-- the name with a dot that a method call on an identifier denotes, if it is one of those
abbrev pub dotted_by : Option (List ℕ) → List ℕ → Option (List ℕ)
dotted_by None w = None
dotted_by (Some x) w = if is_qualified x w then Some (x ++ (46 ∷ w)) else None

abbrev pub call_by : Option (List ℕ) → Term → List ℕ → List Term → Term
call_by None t w us = tree.call (tree.term_and t tree.no_terms) w (terms_of us)
call_by (Some name) t w us = tree.qualified name (terms_of us)

-- A method call on an identifier that forms a name with a dot is a call of that
-- global function, even if the identifier is bound.
unfoldable pub plain_method : Term → List ℕ → List Term → Term
plain_method t w us = call_by (dotted_by (identifier_of t) w) t w us

-- ---- macros

-- the macros with a variable and one expression
unfoldable pub kind_of_two : List ℕ → Option MacroKind
kind_of_two w =
    if bytes_eq w (codes "all") then Some kind.All
    else (if bytes_eq w (codes "exists") then Some kind.Exists
    else (if bytes_eq w (codes "exists_one") then Some kind.ExistsOne
    else (if bytes_eq w (codes "map") then Some kind.Map
    else (if bytes_eq w (codes "filter") then Some kind.Filter else None))))

-- those with a variable, a filter and one expression
unfoldable pub kind_of_three : List ℕ → Option MacroKind
kind_of_three w = if bytes_eq w (codes "map") then Some kind.Map else None

-- the macro with this name and this number of arguments
unfoldable pub kind_of : List ℕ → ℕ → Option MacroKind
kind_of w n = if nat_eq n 2 then kind_of_two w else (if nat_eq n 3 then kind_of_three w else None)

-- a macro, if its variable is an identifier
abbrev pub macro_with : MacroKind → Term → Option (List ℕ) → Terms → Term → Option Term
macro_with k range None filter body = None
macro_with k range (Some x) filter body = Some (tree.macro k range x filter body)

-- The variable is a plain identifier.
abbrev pub macro_of : MacroKind → Term → List Term → Option Term
macro_of k range (x ∷ body ∷ []) = macro_with k range (identifier_of x) tree.no_terms body
macro_of k range (x ∷ filter ∷ body ∷ []) =
    macro_with k range (identifier_of x) (tree.term_and filter tree.no_terms) body
macro_of k range us = None

abbrev pub by_kind : Option MacroKind → Term → (MacroKind → Option Term) → Option Term
by_kind None plain other = Some plain
by_kind (Some k) plain other = other k

-- the method call on a target, or None if it is a malformed macro
unfoldable pub method_of : Term → List ℕ → List Term → Option Term
method_of t w us = by_kind (kind_of w (length us)) (plain_method t w us) (λ k. macro_of k t us)

-- The argument of `has` has to be a selection.
abbrev pub has_of : List Term → Option Term
has_of (tree.select t w ∷ []) = Some (tree.has t w)
has_of _ = None

-- the call of a global function, or None if it is a malformed macro
unfoldable pub call_of : List ℕ → List Term → Option Term
call_of w us =
    if bytes_eq w (codes "has") && nat_eq (length us) 1 then has_of us
    else Some (tree.call tree.no_terms w (terms_of us))

-- The highest level of a node's parts, given that of its arguments: the part of `has` is the
-- operand of the selection, one level below its argument.
abbrev pub parts_level : Term → ℕ → ℕ
parts_level (tree.has t w) l = l - 1
parts_level _ l = l
