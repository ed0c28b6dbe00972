use Rattle.std.proofs.Common.{◌++◌, ◌∙◌, ap, sym, string_bytes}
use Rattle.std.specs.List.{flat_map}
use Rattle.std.proofs.lemmas.Iterator.{YieldsList-from_chars}
use Rattle.std.proofs.lemmas.Iterator.Consumers.{YieldsList-end}
use Rattle.std.proofs.lemmas.List.{append-nil, flat_map_more, map-id}
use Rattle.kube_manifests_documents.specs.Pointers.{escaped_character, token}
use Rattle.kube_manifests_documents.proofs.pointer.push_name.Goals as goal

pub loop-character-init : goal.loop-character-init
loop-character-init c = sym (append-nil (string_bytes c.args.out.now))

pub loop-character-preserved : goal.loop-character-preserved
loop-character-preserved c =
    c.in_ok-push_escaped.ensures ∙ ap (λ bs. bs ++ escaped_character c.in-Some.character) c.loop-character.invariant
    ∙ flat_map_more escaped_character (string_bytes c.args.out.now) c.loop-character.yielded c.in-Some.character

pub returns : goal.returns
unfolding token
returns c =
    let t = YieldsList-end (YieldsList-from_chars c.args.name.now c.utf8.name cc) c.loop-character.yielded _ c.loop-character.yielded_by _ _ c.in-None.is c.next.ensures.steps in
    c.loop-character.invariant ∙ ap (λ xs. string_bytes c.args.out.now ++ flat_map escaped_character xs) (sym (map-id c.loop-character.yielded) ∙ t.0)
