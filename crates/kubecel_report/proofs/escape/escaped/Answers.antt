use Rattle.kubecel_report.proofs.escape.escaped.Goals as goal
use Rattle.kubecel_report.proofs.Escaped.{after_one_more, one_more}
use Rattle.kubecel_report.specs.Escapes.{after, at_start, escaped_rest, escaped_text, written_behind}
use Rattle.std.proofs.Common.{◌++◌, ◌∙◌, ap, ap₂, sym}
use Rattle.std.proofs.lemmas.Iterator.{YieldsList-from_chars}
use Rattle.std.proofs.lemmas.Iterator.Consumers.{YieldsList-end}
use Rattle.std.proofs.lemmas.List.{map-id}

pub loop-character-preserved : goal.loop-character-preserved
loop-character-preserved c = (
  c.in_ok-push_behind.ensures
      ∙ (ap₂ (λ bs b. bs ++ written_behind c.args.escape b c.in-Some.character) c.loop-character.invariant.0 c.loop-character.invariant.1
      ∙ sym (one_more c.args.escape at_start c.loop-character.yielded c.in-Some.character)),
  c.after-before.ensures
      ∙ (ap (λ b. after b c.in-Some.character) c.loop-character.invariant.1
      ∙ sym (after_one_more at_start c.loop-character.yielded c.in-Some.character)),
)

pub returns : goal.returns
unfolding escaped_text
returns c =
    let t = YieldsList-end (YieldsList-from_chars c.args.text.now c.utf8.text cc) c.loop-character.yielded _ c.loop-character.yielded_by _ _ c.in-None.is c.next.ensures.steps in
    c.loop-character.invariant.0 ∙ ap (λ xs. escaped_rest c.args.escape at_start xs) (sym (map-id c.loop-character.yielded) ∙ t.0)
