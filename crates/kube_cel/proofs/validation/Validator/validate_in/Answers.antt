use Rattle.kube_cel.proofs.Alike.{judged_alike, trees_alike}
use Rattle.kube_cel.proofs.RawNodes.{raw_accessors_counts_all}
use Rattle.kube_cel.proofs.Reports.{is_answer, reported_found}
use Rattle.kube_cel.proofs.validation.Validator.validate_in.Goals as goal
use Rattle.kube_cel.specs.Answers.{found_in, report_of}
use Rattle.kube_cel.specs.Compiled.{compiled_accessors}
use Rattle.kube_cel.specs.Raw.{raw_accessors}
use Rattle.kube_cel_walk.specs.Roots.{root_view}
use Rattle.kube_cel_walk.specs.Answers.{answer}
use Rattle.kube_schema.specs.Defaults.{defaulted_value}
use Rattle.kube_schema.specs.CompiledDefaults.{tree_accessors}
use Rattle.kube_schema.specs.Shown.{whole}
use Rattle.serde_json.specs.View.{view}
use Rattle.std.proofs.Common.{option_map, refl, sym, ap, ◌∙◌}

pub returns-clause-answer : goal.returns-clause-answer
returns-clause-answer c = λ b h.
    let s = view c.args.schema.now in
    let r = option_map (λ r. root_view r.now) c.args.root in
    let old = option_map (λ v. view v.now) c.args.old in
    let tree = whole c.compile_reached.new.schema in
    let value = ap view c.deref-2.ensures ∙ c.in_ok-filled.ensures.filled
    ∙ ap (λ t. defaulted_value tree_accessors 65 t (view c.args.object.now)) (c.root.ensures ∙ sym c.compile_reached.ensures.same) in
    c.in_ok-answer.ensures.answer b h
    ∙ ap (λ s. report_of (answer compiled_accessors b 65 s)) (trees_alike r refl value refl)
    ∙ ap report_of (judged_alike b s (view c.args.object.now) old r tree (c.compile_reached.ensures.same ∙ c.in_ok-compiled.ensures.tree))

pub returns-clause-places : goal.returns-clause-places
returns-clause-places c = λ b h. is_answer raw_accessors raw_accessors_counts_all b _ (found_in c.in_ok-answer.answer) (reported_found c.in_ok-answer.answer _ (returns-clause-answer c b h))
