use Rattle.std.proofs.Common.{◌≡◌, Some, subst, IfOk, arith}
use Rattle.std.proofs.lemmas.Grind.{common_steps}
use Rattle.cel_value.specs.Keys.{key_view}
use Rattle.cel_value.specs.View.{view}
use Rattle.cel_semantics.specs.Members.{key_of}
use Rattle.cel_semantics.specs.Outcome.{outcome_view}
use Rattle.cel_semantics.proofs.MapCopies.{put_at_key}
use Rattle.cel_semantics.proofs.maps.add_at.Goals as goal

pub returns-in-Some : goal.returns-in-Some
returns-in-Some c = record {
  value =
      let is_key : Some (key_view c.in-Some.key) ≡ key_of (view c.args.key.now) = grind (arith, common_steps) in
      let same = put_at_key c.args.entries (view c.args.key.now) (view c.args.value.now) (key_view c.in-Some.key) is_key in
      subst (λ o. IfOk c.add.result (λ r. outcome_view r ≡ o)) same c.add.ensures.value;
}
