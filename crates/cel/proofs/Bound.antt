-- A meaning depends only on what the names are bound to; and one more name is bound.
use Rattle.cel.proofs.Unread.{meaning_alike}
use Rattle.cel_patterns.specs.Book.{Book}
use Rattle.cel_semantics.specs.Bindings.{Bindings, binding}
use Rattle.cel_semantics.specs.Library.{Library}
use Rattle.cel_semantics.specs.Meaning.{meaning}
use Rattle.cel_syntax.specs.Term.{Term}
use Rattle.cel_value.specs.Data.{Data}
use Rattle.std.proofs.Common.{◌≡◌, ℕ, List, ◌∷◌, Bool, true, false, Option, Some, if◌then◌else◌, refl, sym, ap, ◌∙◌}
use Rattle.std.proofs.lemmas.Slice.Eq.{bytes_eq-Decides}
use Rattle.std.specs.Bool.{Decides}
use Rattle.std.specs.Str.{bytes_eq}

-- equal bindings stay equal if one more name is bound in both
pub under : (x : List ℕ) (d : Data) (e f : Bindings) → ((y : List ℕ) → binding y e ≡ binding y f) → (y : List ℕ) → binding y ((x, d) ∷ e) ≡ binding y ((x, d) ∷ f)
under x d e f h y = ap (λ o. if bytes_eq y x then Some d else o) (h y)

pub meaning_same : (library : Library) (book : Book) (t : Term) (e f : Bindings) → ((x : List ℕ) → binding x e ≡ binding x f) → meaning library book t e ≡ meaning library book t f
meaning_same library book t e f h = meaning_alike library book t e f (λ x is. h x)

decided_alike : {P Q : Type 0} (b c : Bool) → Decides b P → Decides c Q → (P → Q) → (Q → P) → b ≡ c
decided_alike true true d e f g = refl
decided_alike true false d e f g = sym (e.1 (f (d.0 refl)))
decided_alike false true d e f g = d.1 (g (e.0 refl))
decided_alike false false d e f g = refl

bytes_eq_turned : (x y : List ℕ) → bytes_eq x y ≡ bytes_eq y x
bytes_eq_turned x y = decided_alike (bytes_eq x y) (bytes_eq y x) (bytes_eq-Decides x y) (bytes_eq-Decides y x) (λ e. sym e) (λ e. sym e)

-- one more name is bound
pub bound : (x name : List ℕ) (v d : Data) (r o : Option Data) (es : Bindings) → r ≡ (if bytes_eq name x then Some v else o) → v ≡ d → o ≡ binding x es → r ≡ binding x ((name, d) ∷ es)
bound x name v d r o es e p q = e ∙ (λ i. if bytes_eq_turned name x i then Some (p i) else q i)
