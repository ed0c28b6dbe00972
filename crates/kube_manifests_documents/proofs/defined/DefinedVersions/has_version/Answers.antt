use Rattle.std.proofs.Common.{ap, sym, ◌∙◌}
use Rattle.kube_manifests_texts.proofs.Firsts.{any_at_first}
use Rattle.kube_manifests_documents.proofs.defined.DefinedVersions.has_version.Goals as goal
use Rattle.kube_manifests_documents.specs.Defined.{list_view}
use Rattle.kube_manifests_documents.specs.Versions.{is_of_version}
use Rattle.std.specs.Option.{is_some}

pub returns : goal.returns
returns c =
    c.is_some.ensures ∙ ap is_some (c.get.ensures ∙ c.requires.0 c.args.api_version.now c.args.kind.now)
    ∙ sym (any_at_first (is_of_version c.args.api_version.now c.args.kind.now) (list_view c.args.self.now))
