use Rattle.std.proofs.Common.{◌≡◌, drop}
use Rattle.cel_value.specs.View.{items_view}
use Rattle.kube_server_authorizer.specs.Asked.{first_answer}
use Rattle.kube_server_authorizer.proofs.asked.answer_in.Given as goal

abbrev pub invariant-loop-answer : goal.invariant-loop-answer
invariant-loop-answer l = first_answer l.asked l.verb (items_view l.answers) ≡ first_answer l.asked l.verb (items_view (drop l.answer-index l.answers))
