-- What the parts of `==` decide.
use Rattle.kube_cel_vap.specs.declared.request.GroupVersionKind.{GroupVersionKind}
use Rattle.kube_cel_vap.specs.declared.request.GroupVersionResource.{GroupVersionResource}
use Rattle.kube_cel_vap.specs.Requests.{kind_view, resource_view}
use Rattle.std.proofs.Common.{◌≡◌, ◌&&◌, [], List, ◌∷◌, Bool, Option, Some, None, option_map, unwrap_or, map, String, Global, string_bytes, refl, ap}
use Rattle.std.proofs.lemmas.Bool.{and_from, and_parts}
use Rattle.std.proofs.lemmas.Slice.Eq.{bytes_eq-Decides}
use Rattle.std.specs.Bool.{Decides}
use Rattle.std.specs.Cmp.Lexicographic.{pointwise}
use Rattle.std.specs.Option.{option_eq}
use Rattle.std.specs.String.{string_eq}

pub and_decides : {P Q : Type 0} (a b : Bool) → Decides a P → Decides b Q → Decides (a && b) (P × Q)
and_decides a b d e = (λ h. let p = and_parts a b h in (d.0 p.0, e.0 p.1), λ h. and_from a b (d.1 h.0) (e.1 h.1))

pub texts_decide : (s t : String Global) → Decides (string_eq s t) (string_bytes s ≡ string_bytes t)
texts_decide s t = bytes_eq-Decides (string_bytes s) (string_bytes t)

pub options_decide : (o p : Option (String Global)) → Decides (option_eq string_eq o p) (option_map string_bytes o ≡ option_map string_bytes p)
options_decide None None = (λ h. refl, λ e. refl)
options_decide None (Some t) = (λ h. cc, λ e. cc)
options_decide (Some s) None = (λ h. cc, λ e. cc)
options_decide (Some s) (Some t) = (λ h. ap Some ((texts_decide s t).0 h), λ e. (texts_decide s t).1 (ap (λ o. unwrap_or o []) e))

heads_alike : {A : Type 0} (x y : A) (xs ys : List A) → x ∷ xs ≡ y ∷ ys → (x ≡ y) × (xs ≡ ys)
heads_alike x y xs ys e = (cc, cc)

pub lists_decide : (xs ys : List (String Global)) → Decides (pointwise string_eq xs ys) (map string_bytes xs ≡ map string_bytes ys)
lists_decide [] [] = (λ h. refl, λ e. refl)
lists_decide [] (y ∷ ys) = (λ h. cc, λ e. cc)
lists_decide (x ∷ xs) [] = (λ h. cc, λ e. cc)
lists_decide (x ∷ xs) (y ∷ ys) =
    let both = and_decides (string_eq x y) (pointwise string_eq xs ys) (texts_decide x y) (lists_decide xs ys) in
    (λ h. let p = both.0 h in (λ i. p.0 i ∷ p.1 i), λ e. both.1 (heads_alike (string_bytes x) (string_bytes y) (map string_bytes xs) (map string_bytes ys) e))

pub kinds_decide : (a b : GroupVersionKind) → Decides (string_eq a.group b.group && (string_eq a.version b.version && string_eq a.kind b.kind)) (kind_view a ≡ kind_view b)
kinds_decide a b =
    let all = and_decides _ _ (texts_decide a.group b.group) (and_decides _ _ (texts_decide a.version b.version) (texts_decide a.kind b.kind)) in (
      λ h. let p = all.0 h in (λ i. record { group = p.0 i; version = p.1.0 i; kind = p.1.1 i }),
      λ e. all.1 (ap (λ k. k.group) e, (ap (λ k. k.version) e, ap (λ k. k.kind) e)),
    )

pub resources_decide : (a b : GroupVersionResource) → Decides (string_eq a.group b.group && (string_eq a.version b.version && string_eq a.resource b.resource)) (resource_view a ≡ resource_view b)
resources_decide a b =
    let all = and_decides _ _ (texts_decide a.group b.group) (and_decides _ _ (texts_decide a.version b.version) (texts_decide a.resource b.resource)) in (
      λ h. let p = all.0 h in (λ i. record { group = p.0 i; version = p.1.0 i; resource = p.1.1 i }),
      λ e. all.1 (ap (λ r. r.group) e, (ap (λ r. r.version) e, ap (λ r. r.resource) e)),
    )
