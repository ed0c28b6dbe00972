-- It is enough to look a name up among the names of its length.
use Rattle.std.proofs.Common.{◌≡◌, ℕ, Bool, true, false, cond, List, [], ◌∷◌, length, Some, refl, sym, ap, ◌∙◌}
use Rattle.std.proofs.lemmas.Bool.{eq-eqb}
use Rattle.std.proofs.lemmas.Slice.Eq.{bytes_eq-Decides}
use Rattle.std.specs.Map.{lookup}
use Rattle.std.specs.Str.{bytes_eq}
use Rattle.cel_stdlib.specs.Table.{of_length}

refuted : (b : Bool) → (b ≡ true → false ≡ true) → b ≡ false
refuted true h = sym (h refl)
refuted false h = refl

module _ {A : Type 0} (test : List ℕ → Bool) where
  -- an entry of another length may be left out, since it can't match
  left_out : (same : Bool) (e : List ℕ × A) (fs es : List (List ℕ × A)) → (test e.0 ≡ true → same ≡ true)
      → lookup test fs ≡ lookup test es → lookup test (cond same (e ∷ fs) fs) ≡ lookup test (e ∷ es)
  left_out true e fs es h k = ap (λ o. cond (test e.0) (Some e.1) o) k
  left_out false e fs es h k = k ∙ sym (ap (λ b. cond b (Some e.1) (lookup test es)) (refuted (test e.0) h))

pub named_by_length : {A : Type 0} (n : ℕ) (name : List ℕ) (es : List (List ℕ × A)) → length name ≡ n
    → lookup (bytes_eq name) (of_length n es) ≡ lookup (bytes_eq name) es
named_by_length n name [] h = refl
named_by_length n name (e ∷ es) h =
    left_out (bytes_eq name) _ e (of_length n es) es (λ same. eq-eqb (length e.0) n (sym (ap length ((bytes_eq-Decides name e.0).0 same)) ∙ h)) (named_by_length n name es h)
