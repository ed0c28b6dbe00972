-- Scaffolding: only proofs and private clauses cite it.
-- The view of a choice among versions.
use Rattle.std.specs.Borrow.{Bor}
use Rattle.std.specs.Prelude.{Result, Ok, Err}
use Rattle.kube_manifests.specs.declared.judgement.NotJudged.{NotJudged}
use Rattle.kube_manifests.specs.declared.version.CrdVersion.{CrdVersion}
use Rattle.kube_manifests.specs.Lists.{version_view}
use Rattle.kube_manifests_documents.specs.Versions.{Version}
use Rattle.kube_schema.specs.Tree.{Node}

-- the view of the version chosen, or the reason
abbrev pub choice_view : Result (Bor CrdVersion) NotJudged → Result (Version Node) NotJudged
choice_view (Ok v) = Ok (version_view v.now)
choice_view (Err r) = Err r
