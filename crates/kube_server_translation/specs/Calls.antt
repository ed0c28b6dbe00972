-- Trusted by laws alone.
-- What is made of a call, given what its parts are translated to.
use Rattle.std.specs.Prelude.{ℕ, List, [], ◌∷◌, ◌++◌, map, codes, Bool, true, false, Result, Ok, Err, Option, Some, None, if◌then◌else◌}
use Rattle.std.specs.Str.{bytes_eq}
use Rattle.cel_value.specs.Data.{null}
use Rattle.cel_syntax_ast.specs.Calls.{call_of, method_of}
use Rattle.cel_syntax_ast.specs.Term as term
use Rattle.cel_syntax_ast.specs.Term.{Term, Terms, no_terms, term_and}
use Rattle.cel_syntax_ast.specs.declared.expr.MacroKind.{MacroKind}
use Rattle.cel_syntax_ast.specs.declared.expr.MacroKind.TheVariants as macro
use Rattle.kube_server_syntax.specs.Tree.{Tree, select, round, Trees, no_trees, tree_and, place_of}
use Rattle.kube_server_translation.specs.Forms as form
use Rattle.kube_server_translation.specs.Kinds.{name_of}
use Rattle.kube_server_translation.specs.Made.{Made, plain, optional, held, type_of, Names, value_of, values_of, is_optional, made_of, tested, has_value, its_value, or_optional, or_value, mapped, flat_mapped}
use Rattle.kube_server_translation.specs.declared.error.TranslationError.{TranslationError}
use Rattle.kube_server_translation.specs.declared.error.Malformed.{Malformed}
use Rattle.kube_server_translation.specs.declared.error.Malformed.TheVariants.{Variable, SameVariables, Selection}
use Rattle.kube_server_translation.specs.declared.kind.CallKind.{CallKind}
use Rattle.kube_server_translation.specs.declared.kind.CallKind.TheVariants as kind

-- a translation, or what is wrong with the tree
abbrev pub Translated : Type 0 → Type 0
Translated A = Result A TranslationError

abbrev pub after : {A B : Type 0} → Translated A → (A → Translated B) → Translated B
after (Ok a) f = f a
after (Err e) f = Err e

abbrev pub wrong : {A : Type 0} → Malformed → Tree → Translated A
wrong m t = Err (record { place = place_of t; malformed = m })

-- ---- variables

-- a name that an argument is
abbrev pub variable_of : Tree → Option (List ℕ) → Translated (List ℕ)
variable_of t None = wrong Variable t
variable_of t (Some x) = Ok x

abbrev pub one_variable : Trees → Translated (List (List ℕ))
one_variable no_trees = Ok []
one_variable (tree_and t ts) = after (variable_of t (name_of t)) (λ x. Ok (x ∷ []))

-- two names that differ
abbrev pub unlike : Tree → List ℕ → List ℕ → Translated (List (List ℕ))
unlike t x y = if bytes_eq x y then wrong SameVariables t else Ok (x ∷ y ∷ [])

abbrev pub two_variables : Trees → Translated (List (List ℕ))
two_variables (tree_and t (tree_and u ts)) =
    after (variable_of t (name_of t)) (λ x. after (variable_of u (name_of u)) (λ y. unlike u x y))
two_variables _ = Ok []

-- whether a tree is the selection of a field that isn't marked as optional
abbrev pub is_selection : Tree → Bool
is_selection (select p t false x) = true
is_selection (round p t) = is_selection t
is_selection _ = false

abbrev pub no_variable : Trees → Translated (List (List ℕ))
no_variable (tree_and t ts) = if is_selection t then Ok [] else wrong Selection t
no_variable no_trees = Ok []

-- the variables of a macro, or what is wrong with it
abbrev pub variables_of : CallKind → Trees → Translated (List (List ℕ))
variables_of kind.Has ts = no_variable ts
variables_of kind.OptMap ts = one_variable ts
variables_of kind.OptFlatMap ts = one_variable ts
variables_of kind.Bind ts = one_variable ts
variables_of (kind.OneVariable k) ts = one_variable ts
variables_of (kind.TwoVariables k) ts = two_variables ts
variables_of kind.TransformMap ts = two_variables ts
variables_of kind.TransformMapEntry ts = two_variables ts
variables_of _ ts = Ok []

-- how many of the arguments don't see the variables: these themselves, and the value of `cel.bind`
abbrev pub outside : CallKind → ℕ
outside kind.Bind = 2
outside (kind.OneVariable k) = 1
outside kind.OptMap = 1
outside kind.OptFlatMap = 1
outside (kind.TwoVariables k) = 2
outside kind.TransformMap = 2
outside kind.TransformMapEntry = 2
outside _ = 0

-- the names with those of a macro's variables, none of which is known to be an optional
abbrev pub with_variables : List (List ℕ) → Names → Names
with_variables [] names = names
with_variables (x ∷ xs) names = with_variables xs ((x, false) ∷ names)

-- ---- calls

-- a call or a macro with one variable, as the port's parser has it
abbrev pub ordinary : List Made → List ℕ → List Made → Option Term
ordinary (t ∷ []) w us = method_of (value_of t) w (map value_of us)
ordinary ts w us = call_of w (map value_of us)

-- for parts that no call of the kind has
abbrev pub never : Made
never = plain (term.literal null)

abbrev pub of_argument : (Made → Made) → List Made → Made
of_argument f (m ∷ []) = f m
of_argument f us = never

abbrev pub of_target : (Made → Made) → List Made → Made
of_target f (o ∷ []) = f o
of_target f ts = never

abbrev pub bound_made : List (List ℕ) → List Made → Made
bound_made (x ∷ []) (v ∷ e ∷ b ∷ []) = made_of (is_optional b) (form.bound x (value_of e) (value_of b))
bound_made xs us = never

-- a body with one variable
abbrev pub of_body : (List ℕ → Made → Made) → List (List ℕ) → List Made → Made
of_body f (x ∷ []) (v ∷ b ∷ []) = f x b
of_body f xs us = never

-- the term, if the call is well formed
abbrev pub if_formed : Option Term → Made
if_formed None = never
if_formed (Some t) = plain t

-- a macro with two variables, perhaps a filter, and a body, given what is made of its body, and of all
abbrev pub over_pairs : MacroKind → (Term → Term) → (Term → Term) → Made → List (List ℕ) → List Made → Made
over_pairs k body whole r (x ∷ y ∷ []) (v ∷ u ∷ b ∷ []) =
    plain (whole (form.over_pairs k (value_of r) no_terms (body (form.with_both x y (value_of b)))))
over_pairs k body whole r (x ∷ y ∷ []) (v ∷ u ∷ f ∷ b ∷ []) =
    plain (whole (form.over_pairs k (value_of r) (form.one (form.with_both x y (value_of f)))
    (body (form.with_both x y (value_of b)))))
over_pairs k body whole r xs us = never

-- the pair of the index or the key, and a value
abbrev pub keyed : Term → Term
keyed b = term.list_of (form.two (form.item form.its_pair 0) b)

-- what is made of a call of a kind, with this name, these variables, target and arguments
abbrev pub call_made : CallKind → List ℕ → List (List ℕ) → List Made → List Made → Made
call_made kind.Has w xs ts us = of_argument tested us
call_made kind.Dynamic w xs ts us = of_argument (λ m. m) us
call_made kind.Type w xs ts us = of_argument (λ m. type_of (value_of m)) us
call_made kind.HasValue w xs ts us = of_target (λ o. plain (has_value o)) ts
call_made kind.Value w xs ts us = of_target (λ o. plain (its_value o)) ts
call_made kind.Or w xs ts us = of_target (λ o. of_argument (λ m. optional (or_optional o (value_of m))) us) ts
call_made kind.OrValue w xs ts us = of_target (λ o. of_argument (λ m. plain (or_value o (value_of m))) us) ts
call_made kind.OptMap w xs ts us = of_target (λ o. of_body (λ x b. held (mapped x o (value_of b))) xs us) ts
call_made kind.OptFlatMap w xs ts us = of_target (λ o. of_body (λ x b. held (flat_mapped x o b)) xs us) ts
call_made kind.Optional w xs ts us = optional (term.qualified (codes "optional." ++ w) (values_of us))
call_made kind.Bind w xs ts us = bound_made xs us
call_made (kind.OneVariable k) w xs ts us = if_formed (ordinary ts w us)
call_made (kind.TwoVariables k) w xs ts us = of_target (λ r. over_pairs k (λ b. b) (λ t. t) r xs us) ts
call_made kind.TransformMap w xs ts us =
    of_target (λ r. over_pairs macro.Map keyed form.map_of_pairs r xs us) ts
call_made kind.TransformMapEntry w xs ts us =
    of_target (λ r. over_pairs macro.Map (λ b. b) form.map_of_maps r xs us) ts
call_made kind.Ordinary w xs ts us = if_formed (ordinary ts w us)
