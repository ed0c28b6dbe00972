-- New bindings of names, in a list and in a map.
use Rattle.std.proofs.Common.{◌≡◌, ℕ, zero, suc, List, [], ◌∷◌, ◌++◌, Bool, true, false, cond, Option, Some, None, take, length, get_or, ◌+◌, ◌<◌, ◌≤◌, option_map, String, Global, BTreeMap, refl, ap, ◌∙◌, sym, arith}
use Rattle.std.specs.Prelude.{MatchOption, slice_set}
use Rattle.std.specs.BTreeMap.{get_by_text, UpdatesBy}
use Rattle.std.specs.Bool.{one_answer}
use Rattle.std.specs.Option.{option_or}
use Rattle.std.specs.Str.{bytes_eq}
use Rattle.std.specs.String.{string_bytes, string_cmp}
use Rattle.std.proofs.lemmas.List.{take_more, take_all, map-append}
use Rattle.std.proofs.lemmas.Map.Text.{btree_map_updates_text}
use Rattle.std.proofs.lemmas.Slice.Eq.{bytes_eq-Decides}
use Rattle.cel_value.specs.Data.{Data, null}
use Rattle.cel_value.specs.View.{view}
use Rattle.cel_value.specs.declared.value.Value.{Value}
use Rattle.cel_semantics.specs.Bindings.{Bindings, binding, named_bindings, IsFirst}
use Rattle.cel_semantics.proofs.Lookups.{binding-append, inner_here, view-lookup}

abbrev pub Entry : Type 0
Entry = String Global × Value

-- ---- texts

same_text : (x y : List ℕ) → bytes_eq x y ≡ true → x ≡ y
same_text x y h = (bytes_eq-Decides x y).0 h

-- comparing with a key is comparing with its name
turned : (name k x : List ℕ) → name ≡ k → bytes_eq x k ≡ bytes_eq name x
turned name k x e = one_answer (bytes_eq x k) (bytes_eq name x) (bytes_eq-Decides x k)
    (λ t. sym (same_text name x t) ∙ e, λ q. (bytes_eq-Decides name x).1 (e ∙ sym q))

-- a name that isn't bound, under an equal text
unbound : (name x : List ℕ) (b : Bindings) → binding name b ≡ None → bytes_eq name x ≡ true → binding x b ≡ None
unbound name x b none h = ap (λ y. binding y b) (sym (same_text name x h)) ∙ none

-- ---- the first entry of a name

others : (t : Bool) (d : Data) (o : Option Data) → cond t (Some d) o ≡ None → (t ≡ false) × (o ≡ None)
others true d o h = absurd cc
others false d o h = (refl, h)

pub not_yet : (x : List ℕ) (es : List Entry) (i : ℕ) (e : Entry) → i < length es → e ≡ get_or es i e → bytes_eq (string_bytes e.0) x ≡ false → binding x (named_bindings (take i es)) ≡ None
    → binding x (named_bindings (take (i + 1) es)) ≡ None
not_yet x es i e lt is other none =
    let more : take (i + 1) es ≡ take i es ++ e ∷ [] = take_more es i e lt ∙ ap (λ y. take i es ++ y ∷ []) (sym is) in
    let past : bytes_eq x (string_bytes e.0) ≡ false = sym (turned x x (string_bytes e.0) refl) ∙ other in
    ap (λ l. binding x (named_bindings l)) more ∙ ap (binding x) (map-append (λ f. (string_bytes f.0, view f.1)) (take i es) (e ∷ [])) ∙ binding-append x (named_bindings (take i es)) (named_bindings (e ∷ []))
    ∙ ap (λ o. option_or o (binding x (named_bindings (e ∷ [])))) none ∙ ap (λ t. cond t (Some (view e.1)) None) past

pub not_there : (x : List ℕ) (es : List Entry) (i : ℕ) → length es ≤ i → binding x (named_bindings (take i es)) ≡ None → binding x (named_bindings es) ≡ None
not_there x es i le none = ap (λ l. binding x (named_bindings l)) (sym (take_all i es le)) ∙ none

pub first_here : (x : List ℕ) (es : List Entry) (i : ℕ) (e : Entry) → i < length es → e ≡ get_or es i e → binding x (named_bindings (take i es)) ≡ None → bytes_eq (string_bytes e.0) x ≡ true → IsFirst x es i
first_here x [] i e lt is none here = absurd (omega arith)
first_here x (f ∷ fs) zero e lt is none here = sym (turned x x (string_bytes f.0) refl) ∙ ap (λ g. bytes_eq (string_bytes g.0) x) (sym is) ∙ here
first_here x (f ∷ fs) (suc i) e lt is none here =
    let h = others (bytes_eq x (string_bytes f.0)) (view f.1) (binding x (named_bindings (take i fs))) none in
    (h.0, first_here x fs i e (omega (arith, lt)) is h.1 here)

-- ---- new bindings

either : (t : Bool) (d e : Data) (o : Option Data) → cond t (Some d) o ≡ cond t (Some d) (cond t (Some e) o)
either true d e o = refl
either false d e o = refl

-- two tests exclude each other
apart : (t u : Bool) (d e : Data) (o : Option Data) → (t ≡ true → u ≡ true → ⊥) → cond t (Some e) (cond u (Some d) o) ≡ cond u (Some d) (cond t (Some e) o)
apart true true d e o h = absurd (h refl refl)
apart true false d e o h = refl
apart false u d e o h = refl

not_same : (name k x : List ℕ) → bytes_eq name k ≡ false → bytes_eq x k ≡ true → bytes_eq name x ≡ true → ⊥
not_same name k x other h here =
    let e : bytes_eq name k ≡ true = (bytes_eq-Decides name k).1 (same_text name x here ∙ same_text x k h) in
    let f : false ≡ true = sym other ∙ e in
    absurd cc

-- a new value at a name's first entry
pub set_first : (x name : List ℕ) (es : List Entry) (i : ℕ) (e : Entry) (v : Value) → IsFirst name es i → e ≡ get_or es i e
    → binding x (named_bindings (slice_set es i (e.0, v))) ≡ cond (bytes_eq name x) (Some (view v)) (binding x (named_bindings es))
set_first x name [] i e v h is = absurd h
set_first x name (f ∷ fs) zero e v h is =
    let k = string_bytes f.0 in
    let key : string_bytes e.0 ≡ k = ap (λ g. string_bytes g.0) is in
    ap (λ s. cond (bytes_eq x s) (Some (view v)) (binding x (named_bindings fs))) key
    ∙ ap (λ t. cond t (Some (view v)) (binding x (named_bindings fs))) (turned name k x (same_text name k h))
    ∙ either (bytes_eq name x) (view v) (view f.1) (binding x (named_bindings fs))
    ∙ ap (λ t. cond (bytes_eq name x) (Some (view v)) (cond t (Some (view f.1)) (binding x (named_bindings fs)))) (sym (turned name k x (same_text name k h)))
set_first x name (f ∷ fs) (suc i) e v h is =
    let k = string_bytes f.0 in
    ap (λ o. cond (bytes_eq x k) (Some (view f.1)) o) (set_first x name fs i e v h.1 is)
    ∙ apart (bytes_eq x k) (bytes_eq name x) (view v) (view f.1) (binding x (named_bindings fs)) (not_same name k x h.0)

at_last : (t : Bool) (d : Data) (o : Option Data) → (t ≡ true → o ≡ None) → option_or o (cond t (Some d) None) ≡ cond t (Some d) o
at_last true d o h = ap (λ p. option_or p (Some d)) (h refl)
at_last false d None h = refl
at_last false d (Some e) h = refl

-- a new name at the end of a list
pub added_last : (x name : List ℕ) (es : List Entry) (k : String Global) (v : Value) → binding name (named_bindings es) ≡ None → string_bytes k ≡ name
    → binding x (named_bindings (es ++ (k, v) ∷ [])) ≡ cond (bytes_eq name x) (Some (view v)) (binding x (named_bindings es))
added_last x name es k v none is =
    ap (binding x) (map-append (λ f. (string_bytes f.0, view f.1)) es ((k, v) ∷ [])) ∙ binding-append x (named_bindings es) (named_bindings ((k, v) ∷ []))
    ∙ ap (λ t. option_or (binding x (named_bindings es)) (cond t (Some (view v)) None)) (turned name (string_bytes k) x (sym is))
    ∙ at_last (bytes_eq name x) (view v) (binding x (named_bindings es)) (unbound name x (named_bindings es) none)

above : (t : Bool) (d : Data) (p q r : Option Data) → p ≡ cond t (Some d) q → option_or p r ≡ cond t (Some d) (option_or q r)
above true d p q r h = ap (λ o. option_or o r) h
above false d p q r h = ap (λ o. option_or o r) h

below : (t : Bool) (d : Data) (p q r : Option Data) → (t ≡ true → p ≡ None) → q ≡ cond t (Some d) r → option_or p q ≡ cond t (Some d) (option_or p r)
below true d p q r h e = ap (λ o. option_or o q) (h refl) ∙ e
below false d p q r h e = ap (option_or p) e

-- a name bound in the inner names
pub bound_above : (x name : List ℕ) (a b outer : Bindings) (d : Data) → binding x a ≡ cond (bytes_eq name x) (Some d) (binding x b)
    → binding x (a ++ outer) ≡ cond (bytes_eq name x) (Some d) (binding x (b ++ outer))
bound_above x name a b outer d h =
    binding-append x a outer ∙ above (bytes_eq name x) d (binding x a) (binding x b) (binding x outer) h ∙ ap (cond (bytes_eq name x) (Some d)) (sym (binding-append x b outer))

-- a name bound in the outer names, not bound in the inner ones
pub bound_below : (x name : List ℕ) (inner a b : Bindings) (d : Data) → binding name inner ≡ None → binding x a ≡ cond (bytes_eq name x) (Some d) (binding x b)
    → binding x (inner ++ a) ≡ cond (bytes_eq name x) (Some d) (binding x (inner ++ b))
bound_below x name inner a b d none h =
    binding-append x inner a ∙ below (bytes_eq name x) d (binding x inner) (binding x a) (binding x b) (unbound name x inner none) h
    ∙ ap (cond (bytes_eq name x) (Some d)) (sym (binding-append x inner b))

mapped : (t : Bool) (v : Value) (p q : Option Value) → p ≡ cond t (Some v) q → option_map view p ≡ cond t (Some (view v)) (option_map view q)
mapped true v p q h = ap (option_map view) h
mapped false v p q h = ap (option_map view) h

-- a name bound in a map
pub inserted : (x name : List ℕ) (key : String Global) (v : Value) (m n : BTreeMap (String Global) Value) → string_bytes key ≡ name → UpdatesBy string_cmp (string_cmp key) m n (Some v)
    → binding x (named_bindings n.entries) ≡ cond (bytes_eq name x) (Some (view v)) (binding x (named_bindings m.entries))
inserted x name key v m n is updates =
    sym (view-lookup x n.entries)
    ∙ mapped (bytes_eq (string_bytes key) x) v (get_by_text n x) (get_by_text m x) (btree_map_updates_text (string_bytes key) m n (Some v) updates x)
    ∙ ap (cond (bytes_eq (string_bytes key) x) (Some (view v))) (view-lookup x m.entries)
    ∙ ap (λ y. cond (bytes_eq y x) (Some (view v)) (binding x (named_bindings m.entries))) is

-- ---- taken values

-- a name's first entry has what the name is bound to
pub found_first : (name : List ℕ) (es : List Entry) (i : ℕ) (e : Entry) → IsFirst name es i → e ≡ get_or es i e → Some (view e.1) ≡ binding name (named_bindings es)
found_first name [] i e h is = absurd h
found_first name (f ∷ fs) zero e h is =
    ap (λ g. Some (view g.1)) is ∙ sym (ap (λ t. cond t (Some (view f.1)) (binding name (named_bindings fs))) h)
found_first name (f ∷ fs) (suc i) e h is =
    found_first name fs i e h.1 is ∙ sym (ap (λ t. cond t (Some (view f.1)) (binding name (named_bindings fs))) h.0)

-- a value is taken of some bindings, or they stay the same
abbrev pub Takes : Option Value → List ℕ → Bindings → Bindings → Type 0
Takes r name a b = MatchOption r (a ≡ b)
    (λ v. (Some (view v) ≡ binding name b) × ((x : List ℕ) → binding x a ≡ cond (bytes_eq name x) (Some null) (binding x b)))

pub taken_above : (r : Option Value) (name : List ℕ) (a b outer : Bindings) → Takes r name a b → Takes r name (a ++ outer) (b ++ outer)
taken_above None name a b outer h = ap (λ l. l ++ outer) h
taken_above (Some v) name a b outer h =
    (inner_here name b outer (view v) h.0, λ x. bound_above x name a b outer null (h.1 x))
