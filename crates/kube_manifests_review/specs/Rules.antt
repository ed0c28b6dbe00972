-- Trusted by the clauses of manifests.
-- The candidate findings of the rules of one schema, and of the schema's keys. Source: Kubernetes
-- API reference, `JSONSchemaProps`, `ValidationRule`.
use Rattle.std.specs.Prelude.{ℕ, suc, List, [], ◌∷◌, ◌++◌, Bool, false, true, Option, Some, None, unwrap_or, Result, Ok, Err, if◌then◌else◌, codes}
use Rattle.std.specs.List.{flat_map}
use Rattle.std.specs.Option.{option_and_then}
use Rattle.cel_syntax.specs.Nodes.{nodes_of}
use Rattle.cel_syntax.specs.Term.{Term}
use Rattle.serde_json.specs.Data.{Data, Items, no_items, item, Members}
use Rattle.serde_json.specs.Find.{get, as_array, as_object, as_str}
use Rattle.kube_schema.specs.DefaultsAccessors.{members_or_none}
use Rattle.kube_schema.specs.Compilation.{Compiled, Malformed, compiled_rule}
use Rattle.kube_manifests_review.specs.Calls.{Text, node_candidates, text_candidate}
use Rattle.kube_manifests_review.specs.Candidates.{Candidate, always, unconditional}
use Rattle.kube_manifests_review.specs.Keywords.{keys_candidates, rule_fields, schema_fields}
use Rattle.kube_manifests_review.specs.Messages.{is_no_string}
use Rattle.kube_manifests_review.specs.Locations.{SchemaLocation}
use Rattle.kube_manifests_documents.specs.Pointers.{keyword_pointer, index_pointer}
use Rattle.kube_manifests_review.specs.declared.finding.ReviewKind.TheVariants as kind

-- the candidates of a tree, node by node
abbrev pub tree_candidates : Text → Term → List Candidate
tree_candidates t e = flat_map (node_candidates t) (nodes_of e)

-- ---- the candidates of the rule at this pointer

abbrev pub rule_text_at : List ℕ → List ℕ → Text
rule_text_at q rule = record { pointer = keyword_pointer q (codes "rule"); rule = rule; is_message = false }

abbrev pub message_text_at : List ℕ → List ℕ → Text
message_text_at q rule = record {
  pointer = keyword_pointer q (codes "messageExpression");
  rule = rule;
  is_message = true;
}

abbrev pub kind_candidates : Text → Term → List Candidate
kind_candidates t e =
    if is_no_string e
    then text_candidate t kind.Message (codes "messageExpression doesn't return a string") always ∷ []
    else []

abbrev pub message_candidates : Text → Option Term → List Candidate
message_candidates t None = []
message_candidates t (Some e) = tree_candidates t e ++ kind_candidates t e

-- the linter reports malformed rules
abbrev pub compiled_candidates : List ℕ → Result Compiled Malformed → List Candidate
compiled_candidates q (Ok c) =
    tree_candidates (rule_text_at q c.fields.rule) c.tree
    ++ message_candidates (message_text_at q c.fields.rule) c.message_tree
compiled_candidates q (Err m) = []

-- the source of a rule, empty if it has none
abbrev pub text_of_rule : Data → List ℕ
text_of_rule d = unwrap_or (option_and_then as_str (get (codes "rule") d)) []

abbrev pub members_of : Data → Members
members_of d = members_or_none (as_object d)

abbrev pub rule_candidates : List ℕ → Data → List Candidate
rule_candidates q d =
    keys_candidates rule_fields q (text_of_rule d) (members_of d) ++ compiled_candidates q (compiled_rule d)

-- the candidates of the rules from the i-th on
abbrev pub rules_candidates : List ℕ → ℕ → Items → List Candidate
rules_candidates q i no_items = []
rules_candidates q i (item d ds) = rule_candidates (index_pointer q i) d ++ rules_candidates q (suc i) ds

-- ---- the candidates of one schema

abbrev pub no_list : List ℕ → List Candidate
no_list q = unconditional q kind.Rules (codes "x-kubernetes-validations isn't a list") ∷ []

abbrev pub listed_candidates : List ℕ → Option Items → List Candidate
listed_candidates q None = no_list q
listed_candidates q (Some ds) = rules_candidates q 0 ds

abbrev pub validations_candidates : List ℕ → Option Data → List Candidate
validations_candidates q None = []
validations_candidates q (Some d) = listed_candidates q (as_array d)

-- of a schema that isn't read
abbrev pub unread_candidates : List ℕ → Option Data → List Candidate
unread_candidates q None = []
unread_candidates q (Some d) =
    unconditional q kind.Rules (codes "no object is judged by this schema, so its rules are never evaluated")
    ∷ []

abbrev pub schema_rules_candidates : Bool → List ℕ → Option Data → List Candidate
schema_rules_candidates true q o = validations_candidates q o
schema_rules_candidates false q o = unread_candidates q o

unfoldable pub location_candidates : SchemaLocation → List Candidate
location_candidates p =
    keys_candidates schema_fields p.pointer [] (members_of p.schema)
    ++ schema_rules_candidates p.is_read (keyword_pointer p.pointer (codes "x-kubernetes-validations"))
    (get (codes "x-kubernetes-validations") p.schema)
