use Rattle.kube_cel.proofs.Alike.{compiled_found, trees_alike}
use Rattle.kube_cel.proofs.RawNodes.{raw_accessors_counts_all}
use Rattle.kube_cel.proofs.Reports.{is_answer, reported_found}
use Rattle.kube_cel.proofs.validation.Validator.validate_compiled_in.Goals as goal
use Rattle.kube_cel.specs.Answers.{found_in, report_of}
use Rattle.kube_cel.specs.Compiled.{compiled_accessors}
use Rattle.kube_cel.specs.Raw.{raw_accessors}
use Rattle.kube_cel_walk.specs.Roots.{root_view}
use Rattle.kube_cel_walk.specs.Answers.{answer}
use Rattle.kube_schema.specs.Defaults.{defaulted_value}
use Rattle.kube_schema.specs.CompiledDefaults.{tree_accessors}
use Rattle.serde_json.specs.View.{view}
use Rattle.std.proofs.Common.{option_map, refl, ap, ◌∙◌}

pub returns-clause-tree : goal.returns-clause-tree
returns-clause-tree c = λ b h.
    let r = option_map (λ r. root_view r.now) c.args.root in
    let value = ap view c.deref.ensures ∙ c.in_ok-object.ensures.filled ∙ ap (λ t. defaulted_value tree_accessors 65 t (view c.args.object.now)) c.root.ensures in
    c.in_ok-answer.ensures.answer b h ∙ ap (λ s. report_of (answer compiled_accessors b 65 s)) (trees_alike r refl value refl)

pub returns-clause-answer : goal.returns-clause-answer
returns-clause-answer c = λ b h s e. returns-clause-tree c b h ∙ ap report_of (compiled_found b s c.args.compiled.now c.args.object.now c.args.old c.args.root e)

pub returns-clause-places : goal.returns-clause-places
returns-clause-places c = λ b h s e. is_answer raw_accessors raw_accessors_counts_all b _ (found_in c.in_ok-answer.answer) (reported_found c.in_ok-answer.answer _ (returns-clause-answer c b h s e))
