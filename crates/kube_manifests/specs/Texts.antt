-- Trusted by the clauses of other library calls.
-- The texts that reasons print.
use Rattle.std.specs.Prelude.{ℕ, List, codes}
use Rattle.kube_manifests.specs.declared.judgement.NotJudged.{NotJudged}
use Rattle.kube_manifests.specs.declared.judgement.NotJudged.TheVariants as reason

abbrev pub reason_text : NotJudged → List ℕ
reason_text reason.NotAnObject = codes "not an object"
reason_text reason.NoApiVersion = codes "no apiVersion"
reason_text reason.NoKind = codes "no kind"
reason_text reason.NoSuchKind = codes "no CustomResourceDefinition for this group and kind"
reason_text reason.NoSuchVersion = codes "its CustomResourceDefinition doesn't define this version"
reason_text reason.NotServed = codes "this version isn't served"
