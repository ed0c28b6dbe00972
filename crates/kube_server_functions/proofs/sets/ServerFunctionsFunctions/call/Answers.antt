use Rattle.std.proofs.Common.{◌≡◌, Option, option_map, map, length, ap, sym, ◌∙◌, subst}
use Rattle.std.specs.Prelude.{IfOk, is_some}
use Rattle.cel_patterns.specs.Entries.{entries_of}
use Rattle.cel_patterns.specs.Extensions.{HoldsForExtensions}
use Rattle.cel_value.specs.View.{view}
use Rattle.cel_semantics.specs.Outcome.{outcome_view}
use Rattle.kube_functions.proofs.Forms.{same_count}
use Rattle.kube_server_functions.specs.Server.{answer_by}
use Rattle.kube_server_functions.specs.Table.{known_function}
use Rattle.kube_server_functions.specs.declared.functions.Function.{Function}
use Rattle.kube_server_functions.proofs.Others.{other_is_known}
use Rattle.kube_server_functions.proofs.sets.ServerFunctionsFunctions.call.Goals as goal

pub answer_by-requires : goal.answer_by-requires
answer_by-requires c =
    let known = c.known_function-function.ensures ∙ ap (λ b. known_function c.args.name.now b (length c.args.args.now)) c.is_some.ensures in
    λ none. other_is_known c.args.name.now (is_some c.args.receiver) (length c.args.args.now) (sym known ∙ none) c.requires

pub returns-clause-value : goal.returns-clause-value
returns-clause-value c =
    let P : Option Function → Type 0 = λ o. IfOk c.answer_by.result (λ r. HoldsForExtensions (entries_of c.answer_by.new.book) (outcome_view r)
    (λ b. answer_by o c.args.name.now (option_map (λ v. view v.now) c.args.receiver) (map view c.args.args.now) b))
    in let known = c.known_function-function.ensures ∙ ap (λ b. known_function c.args.name.now b (length c.args.args.now)) c.is_some.ensures
    in subst P (known ∙ sym (same_count (known_function c.args.name.now) c.args.receiver c.args.args.now)) c.answer_by.ensures.value
