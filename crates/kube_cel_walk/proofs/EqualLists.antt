-- What `==` of error lists decides.
use denote.Enum.Bare.{sameb, same_true, true_same}
use Rattle.kube_cel_walk.proofs.Equals.{and_decides, reasons_decide, texts_decide}
use Rattle.kube_cel_walk.specs.contracts.error.ErrorKind.{the_type}
use Rattle.kube_cel_walk.specs.declared.error.ValidationError.{ValidationError}
use Rattle.kube_cel_walk.specs.Errors.{SameFields, error_view}
use Rattle.kube_cel_walk.specs.ErrorLists.{SameErrors}
use Rattle.std.proofs.Common.{◌&&◌, Bool, List, [], ◌∷◌, map, refl, rules}
use Rattle.std.specs.Bool.{Decides}
use Rattle.std.specs.Cmp.Lexicographic.{pointwise}
use Rattle.std.specs.Option.{option_eq}
use Rattle.std.specs.String.{string_eq}

abbrev pub fields_equal : ValidationError → ValidationError → Bool
fields_equal a b = string_eq a.rule b.rule && (string_eq a.message b.message && (string_eq a.field_path b.field_path && (option_eq string_eq a.reason b.reason && sameb the_type a.kind b.kind)))

fields_decide : (a b : ValidationError) → Decides (fields_equal a b) (SameFields (error_view a) (error_view b))
fields_decide a b =
    let decides = and_decides _ _ (texts_decide a.rule b.rule) (and_decides _ _ (texts_decide a.message b.message) (and_decides _ _ (texts_decide a.field_path b.field_path)
    (and_decides _ _ (reasons_decide a.reason b.reason) (same_true the_type (search rules) a.kind b.kind, true_same the_type a.kind b.kind)))) in (
      λ h. let p = decides.0 h in record { rule = p.0; message = p.1.0; field_path = p.1.1.0; reason = p.1.1.1.0; kind = p.1.1.1.1 },
      λ h. decides.1 (h.rule, (h.message, (h.field_path, (h.reason, h.kind)))),
    )

pub lists_decide : (xs ys : List ValidationError) → Decides (pointwise fields_equal xs ys) (SameErrors (map error_view xs) (map error_view ys))
lists_decide [] [] = (λ h. tt, λ h. refl)
lists_decide [] (y ∷ ys) = (λ h. cc, λ h. absurd h)
lists_decide (x ∷ xs) [] = (λ h. cc, λ h. absurd h)
lists_decide (x ∷ xs) (y ∷ ys) = and_decides (fields_equal x y) (pointwise fields_equal xs ys) (fields_decide x y) (lists_decide xs ys)
