use Rattle.cel.proofs.Bound.{bound}
use Rattle.cel.specs.Bindings.{binding, bindings_of}
use Rattle.cel.specs.Members.{put_in}
use Rattle.cel_value.specs.Data.{text}
use Rattle.cel_value.specs.View.{view}
use Rattle.kube_manifests_policies.proofs.Stored.{taken}
use Rattle.kube_manifests_policies.proofs.variables.with_new.Goals as goal
use Rattle.kube_manifests_policies.specs.Scopes.{Alike, scope_view, with_stored}
use Rattle.kube_manifests_policies.specs.Verdicts.{result_view}
use Rattle.kube_manifests_policies.specs.declared.scope.Scope.{Scope}
use Rattle.std.proofs.Common.{◌≡◌, ℕ, List, ◌∷◌, Some, codes, if◌then◌else◌, map, refl, sym, ap, ◌∙◌, subst}
use Rattle.std.proofs.lemmas.Result.{IfOk-at_ok, IfOk-weaker}
use Rattle.std.specs.Str.{bytes_eq}

pub returns : goal.returns
returns c = record {
  scope =
      let given = c.args.scope in
      let m = view c.in_ok-map.map in
      let name = codes "variables" in
      let e = c.take_variable.new.self in
      let e0 = bindings_of given.context in
      let e1 = bindings_of e in
      let same : ◌≡◌ {A = Scope} (record given { context = e; values = c.replace-values.new.dest }) c.in_ok-map.scope = cc c.in_ok-map.ensures.1 in
      let put = IfOk-at_ok _ c.in_ok-map.ensures.0 c.put_new-map.ensures.map ∙ ap (λ v. put_in (view v) (text c.args.name.now) (view c.args.value.now)) c.replace-values.ensures.value in
      let anew : (x : List ℕ) → binding x ((name, m) ∷ e1) ≡ binding x ((name, m) ∷ e0) =
      taken c.take_variable.result m e0 e1 ((name, m) ∷ e1) c.take_variable.ensures.variables
      (λ x. sym (bound x name m m (if bytes_eq name x then Some m else binding x e1) (binding x e1) e1 refl refl refl)) in
      IfOk-weaker c.with_values.result _ _ (λ r a. subst (λ o. Alike (scope_view r) (with_stored (scope_view given) c.args.name.now o)) put
      (record {
        bindings = λ x. a.bindings x ∙ ap (λ s. binding x ((name, m) ∷ bindings_of s.context)) (sym same) ∙ anew x;
        absent = a.absent ∙ ap (λ s. s.absent.items) (sym same);
        values = a.values;
        missing = a.missing ∙ ap (λ s. map result_view s.missing.items) (sym same);
      })) c.with_values.ensures.scope;
}
