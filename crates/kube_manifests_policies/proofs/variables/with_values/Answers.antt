use Rattle.cel.proofs.Bound.{bound}
use Rattle.cel.specs.Bindings.{binding, bindings_of}
use Rattle.cel_value.specs.View.{view}
use Rattle.kube_cel_vap.proofs.Bound.{Adds, of_made}
use Rattle.kube_manifests_policies.proofs.variables.with_values.Goals as goal
use Rattle.kube_manifests_policies.specs.Verdicts.{result_view}
use Rattle.kube_manifests_policies.specs.declared.scope.Scope.{Scope}
use Rattle.std.proofs.Common.{◌≡◌, codes, map, refl, sym, ap, ◌∙◌}
use Rattle.std.proofs.lemmas.Result.{IfOk-at_ok}
use Rattle.std.specs.Result.{IsOkAnd}

pub returns : goal.returns
returns c = record {
  scope =
      let given = c.args.scope in
      let m = view c.args.map in
      let name = codes "variables" in
      let e = c.bind-bound.new.context in
      let e0 = bindings_of given.context in
      let e1 = bindings_of e in
      let same : ◌≡◌ {A = Scope} (record given { context = e; values = c.replace.new.dest }) c.in_ok-scope.scope = cc c.in_ok-scope.ensures.1 in
      let made : IsOkAnd c.try_clone.result (λ v. Adds name (view v) e0 e1) = IfOk-at_ok (λ _. IsOkAnd c.try_clone.result (λ v. Adds name (view v) e0 e1)) c.in_ok-scope.ensures.0 c.bind-bound.ensures.bound in
      let added = of_made c.try_clone.result m (λ d. Adds name d e0 e1) made c.try_clone.ensures.value in
      record {
        bindings = λ x. ap (λ s. binding x (bindings_of s.context)) (sym same) ∙ bound x name m m (binding x e1) (binding x e0) e0 (added x) refl refl;
        absent = ap (λ s. s.absent.items) (sym same);
        values = ap (λ s. view s.values) (sym same) ∙ ap view c.replace.ensures.after;
        missing = ap (λ s. map result_view s.missing.items) (sym same);
      };
}
