use Rattle.std.proofs.Common.{◌≡◌, ◌++◌, ◌∷◌, [], length, map, ap, sym, ◌∙◌, if◌then◌else◌, Some, None, ◌&&◌}
use Rattle.std.proofs.lemmas.List.{length-map, map-append}
use Rattle.kube_manifests_documents.proofs.defined.DefinedVersions.push.Goals as goal
use Rattle.kube_manifests_documents.specs.Defined.{defined_view, list_view}
use Rattle.kube_manifests_documents.specs.Versions.{is_defined, is_of_version}
use Rattle.kube_manifests_texts.proofs.Firsts.{first_after}
use Rattle.kube_manifests_texts.specs.Positions.{first_at, position_at}
use Rattle.std.specs.Option.{option_or}
use Rattle.std.specs.Str.{bytes_eq}

pub returns-clause-added : goal.returns-clause-added
returns-clause-added c =
    ap (map defined_view) c.in_ok-push.ensures.items ∙ map-append defined_view c.args.self.now.list.items (c.args.version ∷ [])

pub returns-clause-indexed : goal.returns-clause-indexed
returns-clause-indexed c =
    let old = c.args.self.now in
    let v = defined_view c.args.version in
    let long : c.len-position.result ≡ length (list_view old) = c.len-position.ensures ∙ old.list.ok.0 ∙ sym (length-map old.list.items defined_view) in
    let added : map defined_view c.push.new.self.items ≡ list_view old ++ v ∷ [] =
    ap (map defined_view) c.in_ok-push.ensures.items ∙ map-append defined_view old.list.items (c.args.version ∷ []) in (
      λ text kind.
          first_after (is_of_version text kind) (list_view old) v (position_at old.by_version text kind) (position_at c.insert_first.new.self text kind) c.len-position.result
          (c.requires.indexed.0 text kind) long
          (c.in_ok-insert_first.ensures text kind
          ∙ ap (λ t. option_or (position_at old.by_version text kind) (if bytes_eq t text && bytes_eq v.kind kind then Some c.len-position.result else None)) c.requires.own)
          ∙ ap (first_at (is_of_version text kind)) (sym added),
      λ group kind.
          first_after (is_defined group kind) (list_view old) v (position_at old.by_group group kind) (position_at c.insert_first-2.new.self group kind) c.len-position.result
          (c.requires.indexed.1 group kind) long (c.in_ok-insert_first-2.ensures group kind)
          ∙ ap (first_at (is_defined group kind)) (sym added),
    )
