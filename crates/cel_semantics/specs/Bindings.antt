-- Trusted by the headline.
-- Names and the values that they are bound to (CEL language
-- definition, "Name Resolution" and "Environment").
use Rattle.std.specs.Prelude.{◌≡◌, ℕ, zero, suc, true, false, List, [], ◌∷◌, ◌++◌, map, Option, Some, None, String, string_bytes, if◌then◌else◌}
use Rattle.std.specs.declared.alloc.Global.{Global}
use Rattle.std.specs.Str.{bytes_eq}
use Rattle.cel_value.specs.Data.{Data}
use Rattle.cel_value.specs.View.{view}
use Rattle.cel_value.specs.declared.value.Value.{Value}
use Rattle.cel_semantics.specs.declared.context.Context.{Context}
use Rattle.cel_semantics.specs.declared.names.Names.{Names}
use Rattle.cel_semantics.specs.declared.scope.Scope.{Scope, fold-Scope}
use Rattle.cel_semantics.specs.declared.scope.Scope.TheOpen.{Scope-F}

-- names with their values, the innermost first
abbrev pub Bindings : Type 0
Bindings = List (List ℕ × Data)

-- the value that a name is bound to: that of its innermost binding
abbrev pub binding : List ℕ → Bindings → Option Data
binding x [] = None
binding x (e ∷ es) = if bytes_eq x e.0 then Some e.1 else binding x es

abbrev pub named_bindings : List (String Global × Value) → Bindings
named_bindings es = map (λ e. (string_bytes e.0, view e.1)) es

-- the names of one scope
abbrev pub names_of : Names → Bindings
names_of n = named_bindings n.first.items ++ named_bindings n.others.entries

-- the index is that of the first entry with this name
abbrev pub IsFirst : List ℕ → List (String Global × Value) → ℕ → Type 0
IsFirst x [] i = ⊥
IsFirst x (e ∷ es) zero = bytes_eq x (string_bytes e.0) ≡ true
IsFirst x (e ∷ es) (suc i) = (bytes_eq x (string_bytes e.0) ≡ false) × IsFirst x es i

abbrev pub bindings_step : Scope-F Bindings → Bindings
bindings_step Scope-F.Empty = []
bindings_step (Scope-F.Named names outer) = names_of names.now ++ outer.now

abbrev pub bindings : Scope → Bindings
bindings = fold-Scope Bindings bindings_step

-- the bindings of a context: its own, then those of the scopes around it
abbrev pub bindings_of : {F : Type 0} → Context F → Bindings
bindings_of c = names_of c.names ++ bindings c.outer

abbrev pub functions_of : {F : Type 0} → Context F → F
functions_of c = c.functions
