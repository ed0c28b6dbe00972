use Rattle.std.proofs.Common.{◌≡◌, Some, subst, IfOk, arith}
use Rattle.std.proofs.lemmas.Grind.{common_steps}
use Rattle.cel_value.specs.Keys.{key_view}
use Rattle.cel_value.specs.View.{view}
use Rattle.cel_semantics.specs.Members.{key_of}
use Rattle.cel_semantics.specs.Outcome.{outcome_view}
use Rattle.cel_semantics.proofs.MapCopies.{indexed_at_key}
use Rattle.cel_semantics.proofs.members.index_map.Goals as goal

pub returns-in-Some : goal.returns-in-Some
returns-in-Some c = record {
  value =
      let is_key : Some (key_view c.in-Some.key) ≡ key_of (view c.args.index.now) = grind (arith, common_steps) in
      let same = indexed_at_key c.args.entries.now (view c.args.index.now) (key_view c.in-Some.key) is_key in
      subst (λ o. IfOk c.member.result (λ r. outcome_view r ≡ o)) same c.member.ensures.value;
}
