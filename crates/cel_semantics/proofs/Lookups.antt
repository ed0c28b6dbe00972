-- Lookup of names, and the ranges of macros.
use Rattle.std.proofs.Common.{◌≡◌, ℕ, List, [], ◌∷◌, ◌++◌, Bool, true, false, cond, Option, Some, None, map, take, length, get_or, ◌+◌, ◌<◌, option_map, String, Global, Bor, rules, refl, ap, ◌∙◌, sym, append_assoc}
use Rattle.std.specs.BTreeMap.{is_at}
use Rattle.std.specs.Cmp.Lexicographic.{slice_cmp}
use Rattle.std.specs.Map.{lookup}
use Rattle.std.specs.Option.{option_or}
use Rattle.std.specs.Ordering.{nat_cmp}
use Rattle.std.specs.Str.{bytes_eq}
use Rattle.std.specs.String.{string_bytes}
use Rattle.std.proofs.lemmas.List.{take_more, map_push}
use Rattle.std.proofs.lemmas.Map.Text.{is_eq-slice_cmp}
use Rattle.cel_value.specs.Data.{Data}
use Rattle.cel_value.specs.Keys.{key_view}
use Rattle.cel_value.specs.View.{view, entries_view, items_of, items_view}
use Rattle.cel_value.specs.declared.key.Key.{Key}
use Rattle.cel_value.specs.declared.value.Value.{Value}
use Rattle.cel_semantics.specs.Bindings.{Bindings, binding, named_bindings, names_of, bindings}
use Rattle.cel_semantics.specs.Ranges.{keys_list, key_data, items_list}
use Rattle.cel_semantics.specs.declared.names.Names.{Names}
use Rattle.cel_semantics.specs.declared.scope.Scope.{Scope, the_lemmas as scope_lemmas}
use Rattle.cel_semantics.specs.declared.scope.Scope.TheVariants as scope

-- ---- names

either_or : (t : Bool) (d : Data) (p q r : Option Data) → p ≡ option_or q r → cond t (Some d) p ≡ option_or (cond t (Some d) q) r
either_or true d p q r h = refl
either_or false d p q r h = h

pub binding-append : (x : List ℕ) (a b : Bindings) → binding x (a ++ b) ≡ option_or (binding x a) (binding x b)
binding-append x [] b = refl
binding-append x (e ∷ es) b = either_or (bytes_eq x e.0) e.1 _ _ _ (binding-append x es b)

found : (t : Bool) (v : Value) (p : Option Value) (q : Option Data) → option_map view p ≡ q → option_map view (cond t (Some v) p) ≡ cond t (Some (view v)) q
found true v p q h = refl
found false v p q h = h

pub view-lookup : (x : List ℕ) (es : List (String Global × Value)) → option_map view (lookup (is_at (λ k. slice_cmp nat_cmp x (string_bytes k))) es) ≡ binding x (named_bindings es)
view-lookup x [] = refl
view-lookup x (e ∷ es) = rw (is_eq-slice_cmp x (string_bytes e.0)) (found (bytes_eq x (string_bytes e.0)) e.1 _ _ (view-lookup x es))

pub view_of_ref : (r : Option (Bor Value)) → option_map (λ x. view x.now) r ≡ option_map view (option_map (λ x. x.now) r)
view_of_ref None = refl
view_of_ref (Some x) = refl

pub bindings-Named : (n : Bor Names) (outer : Bor Scope) → bindings (scope.Named n outer) ≡ names_of n.now ++ bindings outer.now
bindings-Named n outer = search (rules, scope_lemmas)

pub bindings-Empty : bindings scope.Empty ≡ []
bindings-Empty = search (rules, scope_lemmas)

-- a name that is bound in the inner names
pub inner_here : (x : List ℕ) (a b : Bindings) (d : Data) → Some d ≡ binding x a → Some d ≡ binding x (a ++ b)
inner_here x a b d here = rw (binding-append x a b, ← here)

-- a name that isn't bound there
pub inner_past : (x : List ℕ) (a b : Bindings) (o : Option Data) → None ≡ binding x a → o ≡ binding x b → o ≡ binding x (a ++ b)
inner_past x a b o past e = rw (binding-append x a b, ← past) e

pub named_here : (x : List ℕ) (n : Bor Names) (outer : Bor Scope) (s : Scope) (d : Data) → s ≡ scope.Named n outer → Some d ≡ binding x (names_of n.now) → Some d ≡ binding x (bindings s)
named_here x n outer s d is here = rw (is, bindings-Named n outer) (inner_here x (names_of n.now) (bindings outer.now) d here)

pub named_past : (x : List ℕ) (n : Bor Names) (outer : Bor Scope) (s : Scope) (o : Option Data) → s ≡ scope.Named n outer → None ≡ binding x (names_of n.now) → o ≡ binding x (bindings outer.now) → o ≡ binding x (bindings s)
named_past x n outer s o is past e = rw (is, bindings-Named n outer) (inner_past x (names_of n.now) (bindings outer.now) o past e)

-- a scope without names of its own
pub inner_bindings : (b : Bindings) (n : Bor Names) (outer : Bor Scope) → b ≡ [] → b ++ bindings (scope.Named n outer) ≡ names_of n.now ++ bindings outer.now
inner_bindings b n outer h = ap (λ c. c ++ bindings (scope.Named n outer)) h ∙ bindings-Named n outer

-- ---- ranges

abbrev pub Entry : Type 0
Entry = Key × Value

pub keys_list-push : (es : List Entry) (e : Entry) → keys_list (entries_view (es ++ e ∷ [])) ≡ keys_list (entries_view es) ++ key_data (key_view e.0) ∷ []
keys_list-push [] e = refl
keys_list-push (f ∷ es) e = ap (λ ks. key_data (key_view f.0) ∷ ks) (keys_list-push es e)

pub items_list-items_of : (ds : List Data) → items_list (items_of ds) ≡ ds
items_list-items_of [] = refl
items_list-items_of (d ∷ ds) = ap (λ ks. d ∷ ks) (items_list-items_of ds)

pub listed_items : (vs : List Value) → items_list (items_view vs) ≡ map view vs
listed_items vs = items_list-items_of (map view vs)

-- ---- copies

-- one more copy
pub copied_more : (before xs : List Value) (i : ℕ) (x v : Value) (ys zs : List Value) → i < length xs → x ≡ get_or xs i x → view v ≡ view x → map view ys ≡ map view before ++ map view (take i xs) → zs ≡ ys ++ v ∷ []
    → map view zs ≡ map view before ++ map view (take (i + 1) xs)
copied_more before xs i x v ys zs lt is same done e =
    ap (map view) e ∙ map_push view ys v ∙ ap (λ ds. ds ++ view v ∷ []) done ∙ append_assoc (map view before) (map view (take i xs)) (view v ∷ [])
    ∙ ap (λ d. map view before ++ (map view (take i xs) ++ d ∷ [])) same
    ∙ ap (λ ds. map view before ++ ds) (sym (ap (map view) (take_more xs i x lt ∙ ap (λ y. take i xs ++ y ∷ []) (sym is)) ∙ map_push view (take i xs) x))
