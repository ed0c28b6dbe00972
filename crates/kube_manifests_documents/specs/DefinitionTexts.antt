-- Trusted by the clauses of other library calls.
-- The texts of faults of definitions: alone, and with what was found there. Source: this project's own definition.
use Rattle.std.specs.Prelude.{ℕ, List, [], ◌∷◌, ◌++◌, Option, Some, None, option_and_then, codes, decimal, if◌then◌else◌}
use Rattle.std.specs.Str.{bytes_eq}
use Rattle.serde_json.specs.Data.{Data, null, boolean, number, string, array, object, Items}
use Rattle.kube_manifests_documents.specs.Definitions.{Fault, unless_none}
use Rattle.kube_manifests_documents.specs.Versions.{TypeMeta, type_meta_of}
use Rattle.kube_manifests_documents.specs.declared.crd_fault.CrdFault.{CrdFault}
use Rattle.kube_manifests_documents.specs.declared.crd_fault.CrdFault.TheVariants as fault

abbrev pub fault_text : CrdFault → List ℕ
fault_text fault.NotACrd =
    codes "expected a CustomResourceDefinition of apiextensions.k8s.io/v1, or a list of them"
fault_text fault.NoName = codes "field `name` must be a non-empty string"
fault_text fault.NoGroup = codes "field `group` must be a non-empty string"
fault_text fault.NoKind = codes "field `kind` must be a non-empty string"
fault_text fault.NoVersions = codes "field `versions` must be a non-empty array"
fault_text fault.RepeatedKind = codes "another definition has this group and kind"
fault_text fault.NoVersionName = codes "field `name` must be a non-empty string"
fault_text fault.NoServed = codes "field `served` must be a bool"
fault_text fault.NoSchema = codes "a version must have a schema"
fault_text fault.SchemaNotAnObject = codes "a schema must be an object"
fault_text fault.RepeatedVersion = codes "another version has this apiVersion and kind"

-- such as `document 0/items/2/spec/group: field `group` must be a non-empty string`
abbrev pub error_text : Fault → List ℕ
error_text f = codes "document " ++ (decimal f.document ++ (f.pointer ++ (codes ": " ++ fault_text f.fault)))

-- ---- with what was found

abbrev pub string_words : List ℕ → List ℕ
string_words [] = codes "an empty string"
string_words (c ∷ cs) = codes "a string"

abbrev pub array_words : Option Items → List ℕ
array_words None = codes "an empty array"
array_words (Some ds) = codes "an array"

-- what a value is
abbrev pub kind_words : Data → List ℕ
kind_words null = codes "null"
kind_words (boolean b) = codes "a bool"
kind_words (number n) = codes "a number"
kind_words (string s) = string_words s
kind_words (array ds) = array_words (unless_none ds)
kind_words (object ms) = codes "an object"

abbrev pub found_text : CrdFault → Option Data → List ℕ
found_text f None = fault_text f ++ codes ", but is missing"
found_text f (Some d) = fault_text f ++ (codes ", not " ++ kind_words d)

-- of a document that is no definition of `v1`
abbrev pub document_text : Option TypeMeta → List ℕ
document_text None = fault_text fault.NotACrd
document_text (Some s) =
    if bytes_eq s.kind (codes "CustomResourceDefinition")
    then s.api_version ++ codes " isn't supported, only apiextensions.k8s.io/v1"
    else fault_text fault.NotACrd ++ (codes ", not " ++ (s.kind ++ (codes " of " ++ s.api_version)))

-- with the kind, or with the name of the version, that an earlier one has too
abbrev pub repeated_text : CrdFault → List ℕ → Option Data → List ℕ
repeated_text f words (Some (string s)) = words ++ s
repeated_text f words o = fault_text f

-- what is wrong with a definition, if this stands at the fault's pointer
unfoldable pub fault_explanation : CrdFault → Option Data → List ℕ
fault_explanation fault.NotACrd o = document_text (option_and_then type_meta_of o)
fault_explanation fault.NoName o = found_text fault.NoName o
fault_explanation fault.NoGroup o = found_text fault.NoGroup o
fault_explanation fault.NoKind o = found_text fault.NoKind o
fault_explanation fault.NoVersions o = found_text fault.NoVersions o
fault_explanation fault.RepeatedKind o =
    repeated_text fault.RepeatedKind (codes "another definition has this group and the kind ") o
fault_explanation fault.NoVersionName o = found_text fault.NoVersionName o
fault_explanation fault.NoServed o = found_text fault.NoServed o
fault_explanation fault.NoSchema o = fault_text fault.NoSchema
fault_explanation fault.SchemaNotAnObject o = found_text fault.SchemaNotAnObject o
fault_explanation fault.RepeatedVersion o =
    repeated_text fault.RepeatedVersion (codes "another version of this kind has the name ") o
