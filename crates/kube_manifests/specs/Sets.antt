-- Trusted by the clauses of other library calls.
-- The versions that a set holds, and its answer for an object: Kubernetes documentation, "Versions
-- in CustomResourceDefinitions", "Validation rules".
use Rattle.std.specs.Prelude.{◌≡◌, ℕ, List, map, Option, Some, None, Result, Ok, Err}
use Rattle.serde_json.specs.Data.{Data}
use Rattle.cel.specs.Book.{Book}
use Rattle.kube_cel.specs.Answers.{IsReportOf, answer_view, found_in, report_of}
use Rattle.kube_cel.specs.Raw.{raw_accessors}
use Rattle.kube_cel.specs.Starts.{defaulted_start}
use Rattle.kube_cel.specs.WalkAnswers.{answer as answer_at, IsAnswer}
use Rattle.kube_schema.specs.Tree.{Node}
use Rattle.kube_schema.specs.View.{view_of}
use Rattle.kube_manifests.specs.declared.judgement.Judgement.{Judgement}
use Rattle.kube_manifests.specs.declared.judgement.Judgement.TheVariants.{Judged, NotJudged}
use Rattle.kube_manifests.specs.declared.judgement.NotJudged as reason
use Rattle.kube_manifests.specs.declared.set.CrdSet.{CrdSet}
use Rattle.kube_manifests.specs.Lists.{list_view}
use Rattle.kube_manifests.specs.Rules.{saturated_count, rules_in}
use Rattle.kube_manifests.specs.Versions.{chosen_version, root_of}
use Rattle.kube_manifests_documents.specs.Defined.{error_view}
use Rattle.kube_manifests_documents.specs.Definitions.{Fault}
use Rattle.kube_manifests_documents.specs.Versions.{Version}
use Rattle.kube_manifests_documents.specs.declared.crd_fault.CrdError.{CrdError}

-- ---- views of the code's values

abbrev pub set_view : CrdSet → List (Version Node)
set_view s = list_view s.versions

-- the view of a set, or of the error
abbrev pub outcome_view : Result CrdSet CrdError → Result (List (Version Node)) Fault
outcome_view (Ok s) = Ok (set_view s)
outcome_view (Err e) = Err (error_view e)

-- ---- sets of documents

-- the version with its schema as a tree
abbrev pub with_tree : Version Data → Version Node
with_tree v = record {
  group = v.group;
  kind = v.kind;
  name = v.name;
  served = v.served;
  schema = view_of 65 v.schema;
}

abbrev pub all_compiled : Result (List (Version Data)) Fault → Result (List (Version Node)) Fault
all_compiled (Ok vs) = Ok (map with_tree vs)
all_compiled (Err f) = Err f

-- ---- judgements

-- an object is judged exactly if a version is chosen for it. Then the answer is that of the
-- version's schema, given the object's own apiVersion, group and kind; otherwise the reason is
-- reported
abbrev pub IsJudgement : List (Version Data) → Data → Option Data → Judgement → Type 0
IsJudgement versions value old (Judged answer) =
    (v : Version Data) × (chosen_version versions value ≡ Ok v)
    × IsReportOf raw_accessors (defaulted_start v.schema value old (Some (root_of v))) answer
IsJudgement versions value old (NotJudged r) = chosen_version versions value ≡ Err r

-- the same under a given book of patterns
abbrev pub IsJudgementUnder : Book → List (Version Data) → Data → Option Data → Judgement → Type 0
IsJudgementUnder b versions value old (Judged answer) =
    (v : Version Data) × (chosen_version versions value ≡ Ok v)
    × (answer_view answer
    ≡ report_of (answer_at raw_accessors b 65 (defaulted_start v.schema value old (Some (root_of v)))))
    × IsAnswer raw_accessors b (defaulted_start v.schema value old (Some (root_of v))) (found_in answer)
IsJudgementUnder b versions value old (NotJudged r) = chosen_version versions value ≡ Err r

-- the reason why an object isn't judged, if it isn't
abbrev pub reason_of : Judgement → Option reason.NotJudged
reason_of (Judged answer) = None
reason_of (NotJudged r) = Some r

-- the reason why no version is chosen, if none is
abbrev pub why_not : {S : Type 0} → Result (Version S) reason.NotJudged → Option reason.NotJudged
why_not (Ok v) = None
why_not (Err r) = Some r

-- the number of rules of the chosen version's schema, or the reason why none is chosen
abbrev pub rules_of : Result (Version Node) reason.NotJudged → Result ℕ reason.NotJudged
rules_of (Ok v) = Ok (saturated_count (rules_in v.schema))
rules_of (Err r) = Err r
