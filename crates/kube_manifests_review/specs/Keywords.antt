-- Trusted by the clauses of manifests.
-- Keys that are no fields: those of a schema that `JSONSchemaProps` of `apiextensions.k8s.io/v1`
-- doesn't have, and those of a rule that `ValidationRule` doesn't have (Kubernetes API reference,
-- "CustomResourceDefinition v1"). An API server with strict field validation refuses such a key.
use Rattle.std.specs.Prelude.{ℕ, List, [], ◌∷◌, ◌++◌, Option, Some, None, if◌then◌else◌, codes}
use Rattle.std.specs.List.{flat_map}
use Rattle.kube_manifests_review.specs.Candidates.{Candidate, always}
use Rattle.kube_manifests_documents.specs.Pointers.{key_pointer}
use Rattle.kube_manifests_review.specs.declared.finding.ReviewKind.TheVariants.{Keyword}
use Rattle.kube_manifests_texts.specs.Spelling.{is_word, near}
use Rattle.kube_schema.specs.DefaultsAccessors.{keys_in}
use Rattle.serde_json.specs.Data.{Members}

-- ---- the fields

-- the fields of `JSONSchemaProps`
unfoldable pub schema_fields : List (List ℕ)
schema_fields =
    codes "$ref" ∷ codes "$schema" ∷ codes "additionalItems" ∷ codes "additionalProperties" ∷ codes "allOf"
    ∷ codes "anyOf" ∷ codes "default" ∷ codes "definitions" ∷ codes "dependencies" ∷ codes "description"
    ∷ codes "enum" ∷ codes "example" ∷ codes "exclusiveMaximum" ∷ codes "exclusiveMinimum"
    ∷ codes "externalDocs" ∷ codes "format" ∷ codes "id" ∷ codes "items" ∷ codes "maxItems"
    ∷ codes "maxLength" ∷ codes "maxProperties" ∷ codes "maximum" ∷ codes "minItems" ∷ codes "minLength"
    ∷ codes "minProperties" ∷ codes "minimum" ∷ codes "multipleOf" ∷ codes "not" ∷ codes "nullable"
    ∷ codes "oneOf" ∷ codes "pattern" ∷ codes "patternProperties" ∷ codes "properties" ∷ codes "required"
    ∷ codes "title" ∷ codes "type" ∷ codes "uniqueItems" ∷ codes "x-kubernetes-embedded-resource"
    ∷ codes "x-kubernetes-int-or-string" ∷ codes "x-kubernetes-list-map-keys" ∷ codes "x-kubernetes-list-type"
    ∷ codes "x-kubernetes-map-type" ∷ codes "x-kubernetes-preserve-unknown-fields"
    ∷ codes "x-kubernetes-validations" ∷ []

-- the fields of `ValidationRule`
unfoldable pub rule_fields : List (List ℕ)
rule_fields =
    codes "rule" ∷ codes "message" ∷ codes "messageExpression"
    ∷ codes "reason" ∷ codes "fieldPath" ∷ codes "optionalOldSelf" ∷ []

-- ---- the candidates

abbrev pub unknown_text : List ℕ → Option (List ℕ) → List ℕ
unknown_text k None = codes "unknown field '" ++ (k ++ codes "'")
unknown_text k (Some w) = codes "unknown field '" ++ (k ++ (codes "', did you mean '" ++ (w ++ codes "'?")))

-- that the object at this pointer, of this rule or of none, has a key that is no field
abbrev pub unknown_candidate : List (List ℕ) → List ℕ → List ℕ → List ℕ → Candidate
unknown_candidate fields p rule k = record {
  finding = record {
    pointer = key_pointer p k;
    rule = rule;
    kind = Keyword;
    message = unknown_text k (near fields k);
  };
  when = always;
}

-- the candidates of a key in the object at this pointer
abbrev pub key_candidates : List (List ℕ) → List ℕ → List ℕ → List ℕ → List Candidate
key_candidates fields p rule k = if is_word fields k then [] else unknown_candidate fields p rule k ∷ []

-- the candidates of an object's keys, in order
abbrev pub keys_candidates : List (List ℕ) → List ℕ → List ℕ → Members → List Candidate
keys_candidates fields p rule ms = flat_map (key_candidates fields p rule) (keys_in ms)
