use Rattle.std.proofs.Common.{◌∙◌, ◌++◌, ◌∷◌, [], arith, ap, sym, map, drop, length, string_bytes}
use Rattle.std.specs.Str.{chars}
use Rattle.std.proofs.lemmas.Iterator.{YieldsList-from_chars}
use Rattle.std.proofs.lemmas.Iterator.Consumers.{YieldsList-turn, YieldsList-end}
use Rattle.cel_value.specs.View.{view}
use Rattle.kube_functions_format.specs.Progress.{written_on}
use Rattle.kube_functions_format.proofs.Steps.{begun, next, no_more, goes_on, stops, ends}
use Rattle.kube_functions_format.proofs.filling.filled_text.Goals as goal

pub loop-character-init : goal.loop-character-init
loop-character-init c = (begun (map view c.args.items.now) (chars c.args.text.now) (string_bytes c.new.result) c.new.ensures.bytes, omega arith)

pub loop-character-preserved : goal.loop-character-preserved
loop-character-preserved c =
    let turn = YieldsList-turn (YieldsList-from_chars c.args.text.now c.utf8.text cc) c.loop-character.yielded _ c.loop-character.yielded_by _ _ c.in-Some.character c.in-Some.is c.next.ensures.steps in
    let writing = c.loop-character.writing in (
      c.loop-character.invariant.0
          ∙ ap (written_on (map view c.args.items.now) (string_bytes writing.out) writing.taken writing.mark) (next (chars c.args.text.now) c.loop-character.yielded c.in-Some.character turn.0 turn.1)
          ∙ c.in_ok-advance.ensures.value (drop (length (c.loop-character.yielded ++ c.in-Some.character ∷ [])) (chars c.args.text.now))
          ∙ goes_on c.in_ok-advance.field-0 _ c.in-None-2.is,
      c.in_ok-advance.ensures.taken,
    )

pub returns-in-Some-2 : goal.returns-in-Some-2
returns-in-Some-2 c = record {
  value =
      let turn = YieldsList-turn (YieldsList-from_chars c.args.text.now c.utf8.text cc) c.loop-character.yielded _ c.loop-character.yielded_by _ _ c.in-Some.character c.in-Some.is c.next.ensures.steps in
      let writing = c.loop-character.writing in
      sym (c.loop-character.invariant.0
      ∙ ap (written_on (map view c.args.items.now) (string_bytes writing.out) writing.taken writing.mark) (next (chars c.args.text.now) c.loop-character.yielded c.in-Some.character turn.0 turn.1)
      ∙ c.in_ok-advance.ensures.value (drop (length (c.loop-character.yielded ++ c.in-Some.character ∷ [])) (chars c.args.text.now))
      ∙ stops c.in_ok-advance.field-0 c.in-Some-2.fault _ c.in-Some-2.is);
}

pub returns : goal.returns
returns c = record {
  value =
      let turn = YieldsList-end (YieldsList-from_chars c.args.text.now c.utf8.text cc) c.loop-character.yielded _ c.loop-character.yielded_by _ _ c.in-None.is c.next.ensures.steps in
      let writing = c.loop-character.writing in
      ends c.finished.result (string_bytes writing.out) writing.taken writing.mark (map view c.args.items.now) _ c.finished.ensures.value
      (c.loop-character.invariant.0 ∙ no_more (map view c.args.items.now) (string_bytes writing.out) writing.taken writing.mark (chars c.args.text.now) c.loop-character.yielded turn.1);
}
