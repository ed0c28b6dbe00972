-- Trusted by the clauses of manifests.
-- What of a CustomResourceDefinition isn't read, though rules may have been meant there: keys that no
-- schema or rule has, rules that aren't a list, and rules that no object is judged by. These are the
-- findings of the review of the kinds `keyword` and `rules`. Source: Kubernetes API reference,
-- `JSONSchemaProps`, `ValidationRule`.
use Rattle.std.specs.Prelude.{ℕ, suc, List, [], ◌++◌, map, Bool, true, false, Option, Some, None, codes}
use Rattle.std.specs.List.{flat_map}
use Rattle.serde_json.specs.Data.{Data, Items, no_items, item}
use Rattle.serde_json.specs.Find.{get, as_array}
use Rattle.kube_manifests_review.specs.Candidates.{Candidate, Finding}
use Rattle.kube_manifests_review.specs.Keywords.{keys_candidates, rule_fields, schema_fields}
use Rattle.kube_manifests_review.specs.Locations.{SchemaLocation, locations_of}
use Rattle.kube_manifests_documents.specs.Pointers.{keyword_pointer, index_pointer}
use Rattle.kube_manifests_review.specs.Reviewed.{version_pointer, version_schema, versions_of}
use Rattle.kube_manifests_review.specs.Rules.{members_of, no_list, text_of_rule, unread_candidates}
use Rattle.kube_manifests_review.specs.Stray.{stray}
use Rattle.kube_manifests_review.specs.declared.part.Part.TheVariants as part

-- the keys of a rule that are none of its fields
abbrev pub rule_unread : List ℕ → Data → List Candidate
rule_unread q d = keys_candidates rule_fields q (text_of_rule d) (members_of d)

-- of the rules from the i-th on
abbrev pub rules_unread : List ℕ → ℕ → Items → List Candidate
rules_unread q i no_items = []
rules_unread q i (item d ds) = rule_unread (index_pointer q i) d ++ rules_unread q (suc i) ds

abbrev pub listed_unread : List ℕ → Option Items → List Candidate
listed_unread q None = no_list q
listed_unread q (Some ds) = rules_unread q 0 ds

abbrev pub validations_unread : List ℕ → Option Data → List Candidate
validations_unread q None = []
validations_unread q (Some d) = listed_unread q (as_array d)

-- the rules of a schema, which is read or isn't
abbrev pub schema_rules_unread : Bool → List ℕ → Option Data → List Candidate
schema_rules_unread true q o = validations_unread q o
schema_rules_unread false q o = unread_candidates q o

unfoldable pub location_unread : SchemaLocation → List Candidate
location_unread p =
    keys_candidates schema_fields p.pointer [] (members_of p.schema)
    ++ schema_rules_unread p.is_read (keyword_pointer p.pointer (codes "x-kubernetes-validations"))
    (get (codes "x-kubernetes-validations") p.schema)

abbrev pub version_unread : List ℕ → Option Data → List Candidate
version_unread base None = []
version_unread base (Some s) = flat_map location_unread (locations_of 65 true base s)

-- of the versions from the i-th on
abbrev pub versions_unread : ℕ → Items → List Candidate
versions_unread i no_items = []
versions_unread i (item d ds) =
    version_unread (version_pointer i) (version_schema d) ++ versions_unread (suc i) ds

-- those of the schemas of all versions, then the rules that are in none of these
unfoldable pub crd_unread : Data → List Candidate
crd_unread crd = versions_unread 0 (versions_of crd) ++ stray part.Document [] crd

unfoldable pub unread_findings : Data → List Finding
unread_findings crd = map (λ d. d.finding) (crd_unread crd)
