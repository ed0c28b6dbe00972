use Rattle.kube_cel.proofs.Alike.{trees_alike}
use Rattle.kube_cel.proofs.validation.validation_by.Goals as goal
use Rattle.kube_cel.specs.Answers.{report_of}
use Rattle.kube_cel.specs.Compiled.{compiled_accessors}
use Rattle.kube_cel_walk.specs.Answers.{answer}
use Rattle.kube_cel_walk.specs.Roots.{root_view}
use Rattle.kube_schema.specs.Defaults.{defaulted_value}
use Rattle.kube_schema.specs.CompiledDefaults.{tree_accessors}
use Rattle.kube_schema.specs.Shown.{whole}
use Rattle.serde_json.specs.View.{view}
use Rattle.std.proofs.Common.{Some, option_map, refl, sym, ap, ◌∙◌}

pub returns-in_default-clause-answer : goal.returns-in_default-clause-answer
returns-in_default-clause-answer g c = λ b h.
    let r = option_map (λ r. root_view r.now) c.args.root in
    let here = trees_alike r c.root-node.ensures refl
    (ap (λ o. option_map (defaulted_value tree_accessors 65 (whole c.args.compiled.now)) (option_map (λ v. view v.now) o)) (sym c.in_default.is)) in
    c.in_ok-answer.ensures.answer b h ∙ ap (λ s. report_of (answer compiled_accessors b 65 s)) here

pub returns-clause-answer : goal.returns-clause-answer
returns-clause-answer g c = λ b h.
    let r = option_map (λ r. root_view r.now) c.args.root in
    let tree = c.root-node.ensures in
    let here = trees_alike r tree refl
    (ap Some (ap view c.deref.ensures ∙ c.in_ok-old.ensures.filled ∙ ap (λ t. defaulted_value tree_accessors 65 t (view c.in-Some.old.now)) tree)
    ∙ ap (λ o. option_map (defaulted_value tree_accessors 65 (whole c.args.compiled.now)) (option_map (λ v. view v.now) o)) (sym c.in-Some.is)) in
    c.in_ok-answer-2.ensures.answer b h ∙ ap (λ s. report_of (answer compiled_accessors b 65 s)) here
