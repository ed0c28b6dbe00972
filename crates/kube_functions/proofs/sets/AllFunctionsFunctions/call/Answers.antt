use Rattle.std.proofs.Common.{◌≡◌, Some, None, option_map, map, length, ap, sym, ◌∙◌, subst}
use Rattle.std.specs.Prelude.{IfOk, is_some}
use Rattle.cel_patterns.specs.Entries.{entries_of}
use Rattle.cel_patterns.specs.Extensions.{HoldsForExtensions}
use Rattle.cel_value.specs.View.{view}
use Rattle.cel_semantics.specs.Outcome.{outcome_view}
use Rattle.cel_semantics.specs.declared.functions.Form.{Form}
use Rattle.cel_stdlib.specs.Table.{known_function}
use Rattle.cel_stdlib.proofs.Known.{known_is_named, known_is_known, unless_known}
use Rattle.kube_functions.specs.Kube.{answer_by}
use Rattle.kube_functions.proofs.Forms.{same_count}
use Rattle.kube_functions.proofs.sets.AllFunctionsFunctions.call.Goals as goal

pub kept_answer-requires : goal.kept_answer-requires
kept_answer-requires c = known_is_named c.args.name.now c.is_some.result (length c.args.args.now) c.in-Some.function (sym c.in-Some.ensures)

pub returns-in-Some-clause-value : goal.returns-in-Some-clause-value
returns-in-Some-clause-value c =
    let P : Form → Type 0 = λ form. IfOk c.kept_answer.result (λ r. HoldsForExtensions (entries_of c.kept_answer.new.book) (outcome_view r)
    (λ b. answer_by form c.args.name.now (option_map (λ v. view v.now) c.args.receiver) (map view c.args.args.now) b))
    in let known : known_function c.args.name.now (is_some c.args.receiver) (length c.args.args.now) ≡ Some c.in-Some.function =
    ap (λ b. known_function c.args.name.now b (length c.args.args.now)) (sym c.is_some.ensures) ∙ sym c.in-Some.ensures
    in subst P (sym (known_is_known c.args.name.now (is_some (option_map (λ v. view v.now) c.args.receiver)) (length (map view c.args.args.now)) c.in-Some.function
    (same_count (known_function c.args.name.now) c.args.receiver c.args.args.now ∙ known))) c.kept_answer.ensures.value

pub returns-in-None-clause-value : goal.returns-in-None-clause-value
returns-in-None-clause-value c =
    let P : Form → Type 0 = λ form. IfOk c.added_answer.result (λ r. HoldsForExtensions (entries_of c.added_answer.new.book) (outcome_view r)
    (λ b. answer_by form c.args.name.now (option_map (λ v. view v.now) c.args.receiver) (map view c.args.args.now) b))
    in let other : known_function c.args.name.now (is_some c.args.receiver) (length c.args.args.now) ≡ None =
    ap (λ b. known_function c.args.name.now b (length c.args.args.now)) (sym c.is_some.ensures) ∙ sym c.in-None.ensures
    in unless_known c.args.name.now (is_some (option_map (λ v. view v.now) c.args.receiver)) (length (map view c.args.args.now)) P
    (same_count (known_function c.args.name.now) c.args.receiver c.args.args.now ∙ other)
    c.added_answer.ensures.value c.added_answer.ensures.value
