-- Keywords that are read from the schema.
use Rattle.std.proofs.Common.{◌≡◌, ◌==◌, List, [], ◌∷◌, length, Bool, true, false, not, refl, arith}
use Rattle.std.proofs.lemmas.Bool.Decides.{nat_tests}
use Rattle.serde_json.specs.Data.{no_items}
use Rattle.serde_json.specs.View.{items_view}
use Rattle.serde_json.specs.declared.value.Value.{Value}

pub not_false : (b : Bool) → not b ≡ false → b ≡ true
not_false true h = refl
not_false false h = cc

pub empty_items : (vs : List Value) → (length vs == 0) ≡ true → items_view vs ≡ no_items
empty_items [] h = refl
empty_items (v ∷ vs) h =
    let some : (length (v ∷ vs) == 0) ≡ false = grind (arith, nat_tests) in
    cc
