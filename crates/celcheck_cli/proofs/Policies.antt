-- The validations of a policy, read one after another.
use Rattle.celcheck_cli.specs.Policies.{before, expression_in, expressions_in}
use Rattle.kube_cel.specs.VapExpression.{VapExpression}
use Rattle.kube_cel.specs.Validations.{ExpressionData, expression_view}
use Rattle.serde_json.specs.View.{view, items_view}
use Rattle.serde_json.specs.declared.value.Value.{Value}
use Rattle.std.proofs.Common.{◌≡◌, ◌+◌, ◌<◌, ◌≤◌, ℕ, List, [], ◌∷◌, ◌++◌, get_or, length, map, drop, Option, Some, None, option_map, refl, sym, ap, ◌∙◌}
use Rattle.std.proofs.lemmas.List.{at_drop_all, at_drop_more, map-append}

-- the validations in the values
abbrev pub read : List Value → Option (List ExpressionData)
read vs = expressions_in (items_view vs)

-- the validations in xs followed by those in ys, if there are any
abbrev pub joined : List ExpressionData → Option (List ExpressionData) → Option (List ExpressionData)
joined xs ys = option_map (λ zs. xs ++ zs) ys

moved : (xs : List ExpressionData) (x : ExpressionData) (ys : List ExpressionData) → xs ++ x ∷ ys ≡ (xs ++ x ∷ []) ++ ys
moved [] x ys = refl
moved (y ∷ xs) x ys = ap (λ zs. y ∷ zs) (moved xs x ys)

one_joined : (xs : List ExpressionData) (x : ExpressionData) (ys : Option (List ExpressionData)) → joined xs (before (Some x) ys) ≡ joined (xs ++ x ∷ []) ys
one_joined xs x None = refl
one_joined xs x (Some ys) = ap Some (moved xs x ys)

none_joined : (xs : List ExpressionData) → joined xs (Some []) ≡ Some xs
none_joined [] = refl
none_joined (x ∷ xs) = ap (option_map (λ ys. x ∷ ys)) (none_joined xs)

first_read : (vs : List Value) (i : ℕ) (v : Value) → i < length vs → v ≡ get_or vs i v → read (drop i vs) ≡ before (expression_in (view v)) (read (drop (i + 1) vs))
unfolding expressions_in
first_read vs i v below is = at_drop_more read vs i v below ∙ ap (λ w. before (expression_in (view w)) (read (drop (i + 1) vs))) (sym is)

-- one more value is read
pub read_on : (vs : List Value) (i : ℕ) (v : Value) (done after : List VapExpression) (x : VapExpression) (p : ExpressionData) → i < length vs → v ≡ get_or vs i v
    → Some p ≡ expression_in (view v) → expression_view x ≡ p → after ≡ done ++ x ∷ []
    → joined (map expression_view done) (read (drop i vs)) ≡ joined (map expression_view after) (read (drop (i + 1) vs))
read_on vs i v done after x p below is says same pushed =
    let rest = read (drop (i + 1) vs) in
    ap (joined (map expression_view done)) (first_read vs i v below is ∙ ap (λ o. before o rest) (sym says))
    ∙ one_joined (map expression_view done) p rest
    ∙ ap (λ xs. joined xs rest) (ap (λ y. map expression_view done ++ y ∷ []) (sym same) ∙ sym (ap (map expression_view) pushed ∙ map-append expression_view done (x ∷ [])))

-- a value that isn't a validation ends the reading
pub read_ends : (vs : List Value) (i : ℕ) (v : Value) (xs : List ExpressionData) → i < length vs → v ≡ get_or vs i v → None ≡ expression_in (view v)
    → joined xs (read (drop i vs)) ≡ None
read_ends vs i v xs below is says = ap (joined xs) (first_read vs i v below is ∙ ap (λ o. before o (read (drop (i + 1) vs))) (sym says))

-- all values were read
pub read_all : (vs : List Value) (i : ℕ) (xs : List ExpressionData) → length vs ≤ i → joined xs (read (drop i vs)) ≡ Some xs
unfolding expressions_in
read_all vs i xs past = ap (joined xs) (at_drop_all read vs i past) ∙ none_joined xs
