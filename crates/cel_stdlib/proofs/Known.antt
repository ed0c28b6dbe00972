-- What the lookup of a called function tells about its name and the form of the call.
use Rattle.std.proofs.Common.{◌≡◌, ℕ, Bool, true, false, List, Option, Some, None, refl, sym}
use Rattle.std.proofs.lemmas.Option.{none-some}
use Rattle.std.specs.Prelude.{if◌then◌else◌}
use Rattle.std.specs.Option.{option_and_then, option_map_or}
use Rattle.cel_semantics.specs.declared.functions.Form.{Form}
use Rattle.cel_semantics.specs.declared.functions.Form.TheVariants.{Unknown, Wrong, Known}
use Rattle.cel_stdlib.specs.Standard.{known_if, standard_form}
use Rattle.cel_stdlib.specs.Table.{function_named, takes, known_function}
use Rattle.cel_stdlib.specs.declared.names.Function.{Function}

module _ (receiver : Bool) (count : ℕ) where
  abbrev if_taken : Option Function → Option Function
  if_taken o = option_and_then (λ f. if takes f receiver count then Some f else None) o

  abbrev form_of : Option Function → Form
  form_of o = option_map_or (λ f. known_if (takes f receiver count)) o Unknown

  named_by : (f g : Function) (b : Bool) → (if b then Some g else None) ≡ Some f → Some g ≡ Some f
  named_by f g true h = h
  named_by f g false h = absurd (none-some _ h)

  named : (f : Function) (o : Option Function) → if_taken o ≡ Some f → o ≡ Some f
  named f None h = h
  named f (Some g) h = named_by f g (takes g receiver count) h

  known_by : (f g : Function) (b : Bool) → (if b then Some g else None) ≡ Some f → known_if b ≡ Known
  known_by f g true h = refl
  known_by f g false h = absurd (none-some _ h)

  known : (f : Function) (o : Option Function) → if_taken o ≡ Some f → form_of o ≡ Known
  known f None h = absurd (none-some _ h)
  known f (Some g) h = known_by f g (takes g receiver count) h

  other_by : (P : Form → Type 0) → P Wrong → P Unknown → (g : Function) (b : Bool) → (if b then Some g else None) ≡ None → P (known_if b)
  other_by P wrong unknown g true h = absurd (none-some _ (sym h))
  other_by P wrong unknown g false h = wrong

  other : (P : Form → Type 0) → P Wrong → P Unknown → (o : Option Function) → if_taken o ≡ None → P (form_of o)
  other P wrong unknown None h = unknown
  other P wrong unknown (Some g) h = other_by P wrong unknown g (takes g receiver count) h

pub known_is_named : (name : List ℕ) (receiver : Bool) (count : ℕ) (f : Function) → known_function name receiver count ≡ Some f → function_named name ≡ Some f
known_is_named name receiver count f h = named receiver count f (function_named name) h

pub known_is_known : (name : List ℕ) (receiver : Bool) (count : ℕ) (f : Function) → known_function name receiver count ≡ Some f → standard_form name receiver count ≡ Known
known_is_known name receiver count f h = known receiver count f (function_named name) h

-- a call that no standard function allows has a wrong form or an unknown name
pub unless_known : (name : List ℕ) (receiver : Bool) (count : ℕ) (P : Form → Type 0) → known_function name receiver count ≡ None
    → P Wrong → P Unknown → P (standard_form name receiver count)
unless_known name receiver count P h wrong unknown = other receiver count P wrong unknown (function_named name) h
