-- Several outcomes that may decide.
use Rattle.std.proofs.Common.{◌≡◌, ℕ, List, [], ◌∷◌, ◌++◌, Bool, true, false, not, Option, Some, None, Ok, Err, refl, ap, ◌∙◌, sym}
use Rattle.std.specs.Prelude.{◌||◌}
use Rattle.std.specs.Option.{option_or, option_map_or}
use Rattle.std.specs.List.{list_any}
use Rattle.cel_value.specs.Data.{bool}
use Rattle.cel_value.specs.Faults.{Fault}
use Rattle.cel_semantics.specs.Decisions.{is_bool, bool_fault, first_fault, decision}
use Rattle.cel_semantics.specs.Outcome.{Outcome}
use Rattle.cel_semantics.specs.Progress.{Undecided}

or_true : (b : Bool) → b || true ≡ true
or_true true = refl
or_true false = refl

or_parts : (a b c : Bool) → a || b ≡ false → (b ≡ false → c ≡ false) → a || c ≡ false
or_parts true b c h k = h
or_parts false b c h k = k h

any_here : (p : Outcome → Bool) (rs : List Outcome) (r : Outcome) (more : List Outcome) → p r ≡ true → list_any p (rs ++ (r ∷ more)) ≡ true
any_here p [] r more h = rw h
any_here p (q ∷ rs) r more h = rw (any_here p rs r more h) (or_true (p q))

any_push : (p : Outcome → Bool) (rs : List Outcome) (r : Outcome) → list_any p rs ≡ false → p r ≡ false → list_any p (rs ++ r ∷ []) ≡ false
any_push p [] r h k = rw k
any_push p (q ∷ rs) r h k = or_parts (p q) (list_any p rs) _ h (λ g. any_push p rs r g k)

or_none : (a : Option Fault) → option_or a None ≡ a
or_none (Some e) = refl
or_none None = refl

or_assoc : (a b c : Option Fault) → option_or a (option_or b c) ≡ option_or (option_or a b) c
or_assoc (Some e) b c = refl
or_assoc None b c = refl

first_push : (name : List ℕ) (rs : List Outcome) (r : Outcome) → first_fault name (rs ++ r ∷ []) ≡ option_or (first_fault name rs) (bool_fault name r)
first_push name [] r = or_none (bool_fault name r)
first_push name (q ∷ rs) r = ap (option_or (bool_fault name q)) (first_push name rs r) ∙ or_assoc (bool_fault name q) (first_fault name rs) (bool_fault name r)

pub undecided_none : (stop : Bool) (name : List ℕ) → Undecided stop name None []
undecided_none stop name = record { none = refl; first = refl }

pub undecided_push : (stop : Bool) (name : List ℕ) (k l : Option Fault) (rs : List Outcome) (r : Outcome) → Undecided stop name k rs → is_bool stop r ≡ false → l ≡ option_or k (bool_fault name r) → Undecided stop name l (rs ++ r ∷ [])
undecided_push stop name k l rs r u h e = record {
  none = any_push (is_bool stop) rs r u.none h;
  first = e ∙ ap (λ m. option_or m (bool_fault name r)) u.first ∙ sym (first_push name rs r);
}

pub decided_here : (stop : Bool) (name : List ℕ) (rs : List Outcome) (r : Outcome) (more : List Outcome) → is_bool stop r ≡ true → Ok (bool stop) ≡ decision stop name (rs ++ (r ∷ more))
decided_here stop name rs r more h = rw (any_here (is_bool stop) rs r more h)

pub decided_end : (stop : Bool) (name : List ℕ) (k : Option Fault) (rs : List Outcome) → Undecided stop name k rs → option_map_or Err k (Ok (bool (not stop))) ≡ decision stop name rs
decided_end stop name k rs u = rw (u.none, ← u.first)
