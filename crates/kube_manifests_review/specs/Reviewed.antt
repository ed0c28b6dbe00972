-- Trusted by the clauses of manifests.
-- The findings of a CustomResourceDefinition: for each version, in order, the findings of the
-- linter, then those of the review of its schema; then the rules that are in no schema of a version.
-- Source: Kubernetes API reference, `CustomResourceDefinitionSpec`,
-- `CustomResourceDefinitionVersion`, `CustomResourceValidation`.
use Rattle.std.specs.Prelude.{ℕ, suc, List, [], ◌∷◌, ◌++◌, Bool, true, false, ◌&&◌, Option, Some, None, if◌then◌else◌, is_some, codes}
use Rattle.std.specs.List.{flat_map, list_any}
use Rattle.std.specs.Option.{option_and_then}
use Rattle.cel.specs.Book.{Book}
use Rattle.serde_json.specs.Data.{Data, Items, no_items, item}
use Rattle.serde_json.specs.Find.{as_object}
use Rattle.kube_cel_analysis.specs.Findings.{Naming}
use Rattle.kube_cel_analysis.specs.Lint.{findings}
use Rattle.kube_schema.specs.Rules.{rule_items}
use Rattle.kube_schema.specs.View.{items_or_none, view_of}
use Rattle.kube_manifests_review.specs.Candidates.{Candidate, Finding, due, unconditional}
use Rattle.kube_manifests_review.specs.Linted.{lint_candidates}
use Rattle.kube_manifests_review.specs.Locations.{SchemaLocation, locations_of}
use Rattle.kube_manifests_documents.specs.Definitions.{entries_of, schema_of}
use Rattle.kube_manifests_documents.specs.Pointers.{index_pointer}
use Rattle.kube_manifests_review.specs.Rules.{location_candidates}
use Rattle.kube_manifests_review.specs.Stray.{stray}
use Rattle.kube_manifests_review.specs.declared.finding.ReviewKind.TheVariants as kind
use Rattle.kube_manifests_review.specs.declared.part.Part.TheVariants as part

-- ---- the candidates of the schema at this pointer

abbrev pub any_item : Items → Bool
any_item no_items = false
any_item (item d ds) = true

abbrev pub has_rules : SchemaLocation → Bool
has_rules p = p.is_read && any_item (rule_items p.schema)

abbrev pub no_rule_candidates : List ℕ → List SchemaLocation → List Candidate
no_rule_candidates base ps =
    if list_any has_rules ps then []
    else unconditional base kind.NoRules (codes "the schema has no rules") ∷ []

unfoldable pub own_candidates : List ℕ → List SchemaLocation → List Candidate
own_candidates base ps = no_rule_candidates base ps ++ flat_map location_candidates ps

unfoldable pub schema_candidates : Naming → List ℕ → Data → List Candidate
schema_candidates names base s =
    lint_candidates base None (findings names [] (view_of 65 s))
    ++ own_candidates base (locations_of 65 true base s)

-- ---- the candidates of a document

-- the schema of a version, if it is an object
unfoldable pub version_schema : Data → Option Data
version_schema d = option_and_then (λ s. if is_some (as_object s) then Some s else None) (schema_of d)

abbrev pub version_pointer : ℕ → List ℕ
version_pointer i = index_pointer (codes "/spec/versions") i ++ codes "/schema/openAPIV3Schema"

abbrev pub version_candidates : Naming → List ℕ → Option Data → List Candidate
version_candidates names base None = unconditional base kind.Document (codes "the version has no schema") ∷ []
version_candidates names base (Some s) = schema_candidates names base s

-- the candidates of the versions from the i-th on
abbrev pub versions_candidates : Naming → ℕ → Items → List Candidate
versions_candidates names i no_items = []
versions_candidates names i (item d ds) =
    version_candidates names (version_pointer i) (version_schema d) ++ versions_candidates names (suc i) ds

-- the versions of a document; none if they aren't a list
unfoldable pub versions_of : Data → Items
versions_of crd = items_or_none (entries_of crd)

abbrev pub no_version_candidates : Items → List Candidate
no_version_candidates ds =
    if any_item ds then []
    else unconditional (codes "/spec/versions") kind.Document (codes "the document has no versions") ∷ []

-- those of its versions, then the rules that are in none of their schemas
unfoldable pub crd_candidates : Naming → Data → List Candidate
crd_candidates names crd =
    no_version_candidates (versions_of crd)
    ++ (versions_candidates names 0 (versions_of crd) ++ stray part.Document [] crd)

-- the findings of a document under a book of patterns
abbrev pub crd_findings : Naming → Data → Book → List Finding
crd_findings names crd book = due (crd_candidates names crd) book
