-- What calls are translated to.
use Rattle.std.proofs.Common.{◌≡◌, ℕ, zero, List, [], ◌∷◌, codes, Bool, true, false, Option, Some, None, option_map, Ok, Err, refl, ap, ◌∙◌, if◌then◌else◌}
use Rattle.std.specs.Option.{option_or, unwrap_or}
use Rattle.std.specs.Str.{bytes_eq}
use Rattle.cel_patterns.specs.Book.{Book}
use Rattle.cel_semantics.specs.Bindings.{Bindings}
use Rattle.cel_semantics.specs.Meaning.{meaning}
use Rattle.cel_semantics.specs.Outcome.{Outcome}
use Rattle.cel_syntax_ast.specs.Calls.{kind_of, kind_of_two, kind_of_three}
use Rattle.cel_syntax_ast.specs.Term.{Term}
use Rattle.cel_syntax_ast.specs.declared.expr.MacroKind.TheVariants as macro
use Rattle.kube_server_functions.specs.Server.{server_library}
use Rattle.kube_server_laws.specs.Premises.{Means}
use Rattle.kube_server_syntax.specs.Tree.{Tree, call, Trees}
use Rattle.kube_server_syntax.specs.declared.node.Place.{Place}
use Rattle.kube_server_translation.specs.Calls.{Translated, after, variables_of, outside, with_variables, call_made}
use Rattle.kube_server_translation.specs.Kinds.{kind_in, kind_of_call, method_kind, methods, optionals, bindings}
use Rattle.kube_server_translation.specs.Made.{Made, Names, value_of, made_of}
use Rattle.kube_server_translation.specs.Translation.{made, made_all, count_of}
use Rattle.kube_server_translation.specs.declared.kind.CallKind.{CallKind}
use Rattle.kube_server_translation.specs.declared.kind.CallKind.TheVariants as kind

-- what is made of a call of a kind
abbrev pub made_as : Names → CallKind → List ℕ → Trees → Trees → Translated Made
made_as names k w target args =
    after (variables_of k args) (λ xs. after (made_all names names zero target)
    (λ ts. after (made_all names (with_variables xs names) (outside k) args)
    (λ us. Ok (call_made k w xs ts us))))

pub as_kind : (names : Names) (p : Place) (w : List ℕ) (target args : Trees) (k : CallKind) → kind_of_call target w (count_of args) ≡ k
    → made names (call p target w args) ≡ made_as names k w target args
as_kind names p w target args k h = ap (λ l. made_as names l w target args) h

-- ---- kinds, whatever the target is

pub on_any : (w : List ℕ) (n : ℕ) (k : CallKind) → kind_in (optionals n) w ≡ None → kind_in (bindings n) w ≡ None
    → unwrap_or (option_or (option_map kind.OneVariable (kind_of w n)) (kind_in (methods n) w)) kind.Ordinary ≡ k
    → (target : Option (List ℕ)) → method_kind target w n ≡ k
on_any w n k a b h None = h
on_any w n k a b h (Some x) = by (bytes_eq x (codes "optional")) (bytes_eq x (codes "cel"))
  where
    by : (c d : Bool) → unwrap_or (option_or (kind_in (if c then optionals n else (if d then bindings n else [])) w) (option_or (option_map kind.OneVariable (kind_of w n)) (kind_in (methods n) w))) kind.Ordinary ≡ k
    by true d = ap (λ o. unwrap_or (option_or o (option_or (option_map kind.OneVariable (kind_of w n)) (kind_in (methods n) w))) kind.Ordinary) a ∙ h
    by false true = ap (λ o. unwrap_or (option_or o (option_or (option_map kind.OneVariable (kind_of w n)) (kind_in (methods n) w))) kind.Ordinary) b ∙ h
    by false false = h

pub or_value_kind : (t : Option (List ℕ)) → method_kind t (codes "orValue") 1 ≡ kind.OrValue
unfolding kind_of
or_value_kind t = on_any (codes "orValue") 1 kind.OrValue refl refl refl t

pub or_kind : (t : Option (List ℕ)) → method_kind t (codes "or") 1 ≡ kind.Or
unfolding kind_of
or_kind t = on_any (codes "or") 1 kind.Or refl refl refl t

pub has_value_kind : (t : Option (List ℕ)) → method_kind t (codes "hasValue") 0 ≡ kind.HasValue
unfolding kind_of
has_value_kind t = on_any (codes "hasValue") 0 kind.HasValue refl refl refl t

pub opt_map_kind : (t : Option (List ℕ)) → method_kind t (codes "optMap") 2 ≡ kind.OptMap
unfolding kind_of kind_of_two
opt_map_kind t = on_any (codes "optMap") 2 kind.OptMap refl refl refl t

pub opt_flat_map_kind : (t : Option (List ℕ)) → method_kind t (codes "optFlatMap") 2 ≡ kind.OptFlatMap
unfolding kind_of kind_of_two
opt_flat_map_kind t = on_any (codes "optFlatMap") 2 kind.OptFlatMap refl refl refl t

pub all_kind : (t : Option (List ℕ)) → method_kind t (codes "all") 3 ≡ kind.TwoVariables macro.All
unfolding kind_of kind_of_three
all_kind t = on_any (codes "all") 3 (kind.TwoVariables macro.All) refl refl refl t

pub exists_kind : (t : Option (List ℕ)) → method_kind t (codes "exists") 3 ≡ kind.TwoVariables macro.Exists
unfolding kind_of kind_of_three
exists_kind t = on_any (codes "exists") 3 (kind.TwoVariables macro.Exists) refl refl refl t

pub exists_one_kind : (t : Option (List ℕ)) → method_kind t (codes "existsOne") 3 ≡ kind.TwoVariables macro.ExistsOne
unfolding kind_of kind_of_three
exists_one_kind t = on_any (codes "existsOne") 3 (kind.TwoVariables macro.ExistsOne) refl refl refl t

pub transform_list_kind : (t : Option (List ℕ)) → method_kind t (codes "transformList") 3 ≡ kind.TwoVariables macro.Map
unfolding kind_of kind_of_three
transform_list_kind t = on_any (codes "transformList") 3 (kind.TwoVariables macro.Map) refl refl refl t

pub bind_kind : method_kind (Some (codes "cel")) (codes "bind") 3 ≡ kind.Bind
unfolding kind_of kind_of_three
bind_kind = refl

-- ---- parts

abbrev pub alone_made : Translated Made → Translated (List Made)
alone_made r = after r (λ m. after (Ok []) (λ ms. Ok (m ∷ ms)))

pub two_made : (f : List Made → List Made → Made) (r s : Translated Made) (m n : Made) → r ≡ Ok m → s ≡ Ok n
    → after (alone_made r) (λ ts. after (alone_made s) (λ us. Ok (f ts us))) ≡ Ok (f (m ∷ []) (n ∷ []))
two_made f r s m n h k =
    ap (λ z. after (alone_made z) (λ ts. after (alone_made s) (λ us. Ok (f ts us)))) h
    ∙ ap (λ z. after (alone_made z) (λ us. Ok (f (m ∷ []) us))) k

-- the same where a variable stands before the second
pub headed : (f : List Made → List Made → Made) (a : Made) (r s : Translated Made) (m n : Made) → r ≡ Ok m → s ≡ Ok n
    → after (alone_made r) (λ ts. after (after (alone_made s) (λ ms. Ok (a ∷ ms))) (λ us. Ok (f ts us))) ≡ Ok (f (m ∷ []) (a ∷ n ∷ []))
headed f a r s m n h k =
    ap (λ z. after (alone_made z) (λ ts. after (after (alone_made s) (λ ms. Ok (a ∷ ms))) (λ us. Ok (f ts us)))) h
    ∙ ap (λ z. after (after (alone_made z) (λ ms. Ok (a ∷ ms))) (λ us. Ok (f (m ∷ []) us))) k

-- ---- what is translated, and what it means

-- a translation with a meaning
abbrev pub Taken : Translated Made → Type 0
Taken r = (m : Made) × (r ≡ Ok m)

pub taken : (book : Book) (env : Bindings) (r : Outcome) (z : Translated Made)
    → after (after z (λ m. Ok (value_of m))) (λ u. Ok (meaning server_library book u env)) ≡ Ok r → Taken z
taken book env r (Ok m) h = (m, refl)
taken book env r (Err e) h = cc

pub means_value : (book : Book) (names : Names) (t : Tree) (env : Bindings) (r : Outcome) (m : Made) → made names t ≡ Ok m → Means book names t env r
    → meaning server_library book (value_of m) env ≡ r
means_value book names t env r m e h =
    let k = ap (λ z. after (after z (λ n. Ok (value_of n))) (λ u. Ok (meaning server_library book u env))) e in cc

pub value_means : (book : Book) (names : Names) (t : Tree) (env : Bindings) (r : Outcome) (m : Made) → made names t ≡ Ok m → meaning server_library book (value_of m) env ≡ r
    → Means book names t env r
value_means book names t env r m e h =
    ap (λ z. after (after z (λ n. Ok (value_of n))) (λ u. Ok (meaning server_library book u env))) e ∙ ap Ok h

pub value_of_made : (b : Bool) (t : Term) → value_of (made_of b t) ≡ t
value_of_made true t = refl
value_of_made false t = refl
