-- The trees of a rule; and the rules of a node, compiled one by one.
use Rattle.cel.specs.Checks.{Trees, Unread, trees_of}
use Rattle.cel_syntax.specs.Term.{Term}
use Rattle.std.proofs.Common.{◌≡◌, ℕ, List, [], ◌∷◌, Option, Result, map, refl, ap, ◌∙◌}
use Rattle.serde_json.specs.View.{view, items_view}
use Rattle.serde_json.specs.declared.value.Value.{Value}
use Rattle.kube_schema_rules.specs.Compilation.{Compiled, Malformed, compiled_rule_by, compiled_rules_by, trees_in}
use Rattle.kube_schema_rules.specs.Rules.{Fields}

pub texts_so : (reads : List ℕ → Option Term) (r : Fields) (s : List ℕ) (m : Option (List ℕ)) (q : Result Trees Unread) (x : Result Trees Malformed) → s ≡ r.rule → m ≡ r.message_expression → q ≡ trees_of reads s m → x ≡ trees_in r q
    → x ≡ trees_in r (trees_of reads r.rule r.message_expression)
texts_so reads r s m q x p o h k = k ∙ ap (trees_in r) (h ∙ (λ i. trees_of reads (p i) (o i)))

pub compiled_rules_is : (compile : Fields → Result Compiled Malformed) (vs : List Value) → compiled_rules_by compile (items_view vs) ≡ map (λ v. compiled_rule_by compile (view v)) vs
unfolding compiled_rules_by
compiled_rules_is compile [] = refl
compiled_rules_is compile (v ∷ vs) = ap (λ rs. compiled_rule_by compile (view v) ∷ rs) (compiled_rules_is compile vs)
