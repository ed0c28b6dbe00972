-- Trusted by the clauses of kubecel.
-- What is reported of an object, given its judgement.
use Rattle.cel.specs.Book.{Book}
use Rattle.cel_value.specs.Faults.{Fault, function_error, invalid_pattern, no_overload, undeclared}
use Rattle.kube_cel.specs.ErrorLists.{errors_in}
use Rattle.kube_cel.specs.Errors.{ErrorData, error_view}
use Rattle.kube_cel.specs.RuleErrors.{undeclared_name}
use Rattle.kube_cel.specs.ErrorKind.{ErrorKind}
use Rattle.kube_cel.specs.ErrorKind.TheVariants as error
use Rattle.kube_manifests.specs.Explanations.{explanation}
use Rattle.kube_manifests.specs.Sets.{IsJudgementUnder, set_view, with_tree}
use Rattle.kube_manifests.specs.DocumentsVersions.{Version}
use Rattle.kube_manifests.specs.Versions.{chosen_version}
use Rattle.kube_manifests.specs.declared.judgement.Judgement.{Judgement}
use Rattle.kube_manifests.specs.declared.judgement.Judgement.TheVariants as judgement
use Rattle.kube_manifests.specs.declared.judgement.NotJudged.{NotJudged}
use Rattle.kube_manifests.specs.declared.judgement.NotJudged.TheVariants as reason
use Rattle.kube_manifests.specs.declared.set.CrdSet.{CrdSet}
use Rattle.kube_manifests.specs.Limits.{is_limit}
use Rattle.kube_manifests_review.specs.Features.{lacking_text}
use Rattle.kubecel_check.specs.Definitions.{is_any_list, is_called_crd, is_full, is_no_resource}
use Rattle.kubecel_check.specs.Doubles.{first_double}
use Rattle.kube_manifests.specs.Definitions.{is_crd, list_of}
use Rattle.kubecel_io.specs.Objects.{identity_of, old_of, text_at}
use Rattle.kubecel_io.specs.Reads.{Found}
use Rattle.kubecel_report.specs.Items.{FindingData, ItemData}
use Rattle.kubecel_report.specs.declared.item.Verdict.{Verdict}
use Rattle.kubecel_report.specs.declared.item.Verdict.TheVariants as verdict
use Rattle.serde_json.specs.Data.{Data, Items, Num, number}
use Rattle.serde_json.specs.Read.{read}
use Rattle.std.specs.List.{list_any}
use Rattle.std.specs.Option.{option_map_or}
use Rattle.std.specs.Str.{bytes_eq}
use Rattle.std.specs.Prelude.{◌≡◌, ℕ, List, [], ◌∷◌, ◌++◌, map, Bool, true, false, not, ◌&&◌, ◌||◌, Option, Some, None, is_some, option_and_then, Result, Ok, Err, if◌then◌else◌, codes}

-- the item of an object: its file, kind, namespace and name, with its verdict and findings
abbrev pub item_of : Found → Verdict → List FindingData → ItemData
item_of f v findings = record {
  file = f.file;
  index = f.index;
  kind = (identity_of f.value).kind;
  namespace = (identity_of f.value).namespace;
  name = (identity_of f.value).name;
  verdict = v;
  findings = findings;
}

-- a single finding, which is about the whole thing
abbrev pub remark : List ℕ → List FindingData
remark message = record { location = []; rule = []; message = message } ∷ []

-- ---- the errors of an object

-- what is said of a limit at a call of this function
abbrev pub narrow_text : Bool → List ℕ → Option (List ℕ)
narrow_text true name = Some (name ++ codes "() isn't supported for this value")
narrow_text false name = None

-- what this tool lacks, in words, if an evaluation ended at a limit: at a name that isn't known, at a pattern of a syntax
-- that isn't read, or at a call for which an API server may have a value
abbrev pub lacking : Fault → Option (List ℕ)
lacking (undeclared name) = Some (lacking_text name)
lacking (invalid_pattern s) = Some (codes "a pattern has a syntax that isn't supported")
lacking (no_overload name) = narrow_text (is_limit (no_overload name)) name
lacking (function_error name message) = narrow_text (is_limit (function_error name message)) name
lacking _ = None

-- what is lacking where an object has this error
abbrev pub lacking_of : ErrorData → Option (List ℕ)
lacking_of e = option_and_then lacking e.cause

-- whether an error denies the object: a rule is false, or its evaluation fails (Kubernetes
-- documentation, "Validation rules"). Any other error keeps a rule from being evaluated: this tool
-- lacks something of it, or an API server refuses the definition
abbrev pub is_denial_of : ErrorKind → Option (List ℕ) → Bool
is_denial_of error.ValidationFailure x = true
is_denial_of error.EvaluationError x = not (is_some x)
is_denial_of error.CompilationFailure x = false
is_denial_of error.InvalidRule x = false
is_denial_of error.InvalidResult x = false
is_denial_of error.UnsupportedReference x = false
is_denial_of error.SchemaTooDeep x = false

abbrev pub is_denial : ErrorData → Bool
is_denial e = is_denial_of e.kind (lacking_of e)

-- whether one of these errors denies the object, and whether one doesn't
abbrev pub any_denial : List ErrorData → Bool
any_denial es = list_any is_denial es

abbrev pub any_other : List ErrorData → Bool
any_other es = list_any (λ e. not (is_denial e)) es

-- the name at which an evaluation ended, if it isn't known
abbrev pub name_of : ErrorData → Option (List ℕ)
name_of e = option_and_then undeclared_name e.cause

-- the words about an error: if something is lacking, what
abbrev pub error_message : List ℕ → Option (List ℕ) → List ℕ
error_message message None = message
error_message message (Some words) = codes "the rule can't be evaluated here: " ++ words

abbrev pub error_finding : ErrorData → FindingData
error_finding e = record {
  location = e.field_path;
  rule = e.rule;
  message = error_message e.message (lacking_of e);
}

-- whether a rule couldn't be evaluated since it met a number of kind double
abbrev pub is_of_double : ErrorData → Bool
is_of_double e = option_map_or (λ name. bytes_eq name (codes "double")) (name_of e) false

-- what is reported besides if one of the rules couldn't for that: the first such number of the object,
-- with its path, in a text that reads as this number
abbrev pub double_finding : List ℕ → List ℕ → FindingData
double_finding path text = record {
  location = path;
  rule = [];
  message = text ++ codes " is a number of kind double";
}

abbrev pub IsHint : Bool → Option (List ℕ × Num) → List FindingData → Type 0
IsHint false x hints = hints ≡ []
IsHint true None hints = hints ≡ []
IsHint true (Some x) hints =
    (text : List ℕ) × (read text ≡ Some (number x.1)) × (hints ≡ double_finding x.0 text ∷ [])

abbrev pub AreHints : Data → List ErrorData → List FindingData → Type 0
AreHints d es hints = IsHint (list_any is_of_double es) (first_double [] d) hints

-- an object fails if a rule denies it; otherwise its errors keep it from being judged
abbrev pub errors_verdict : List ErrorData → Verdict
errors_verdict es = if any_denial es then verdict.Fail else verdict.NotJudged

-- the errors of a judgement
abbrev pub errors_of : Judgement → List ErrorData
errors_of (judgement.Judged (Ok u)) = []
errors_of (judgement.Judged (Err es)) = map error_view (errors_in es)
errors_of (judgement.NotJudged r) = []

-- whether an object is denied though not all of its rules could be evaluated
abbrev pub is_partly_judged : Judgement → Bool
is_partly_judged j = any_denial (errors_of j) && any_other (errors_of j)

-- ---- objects

-- whether the reason is one about a version of a definition of the object's group and kind
abbrev pub is_of_version : NotJudged → Bool
is_of_version reason.NotAnObject = false
is_of_version reason.NoApiVersion = false
is_of_version reason.NoKind = false
is_of_version reason.NoSuchKind = false
is_of_version reason.NoSuchVersion = true
is_of_version reason.NotServed = true

-- whether what isn't judged is a list: one among the items of a list, or a `List` whose fields aren't those of one. Of
-- any other list that no definition has, the items are judged
abbrev pub is_unread_list : Data → NotJudged → Bool
is_unread_list d r = is_any_list d && not (is_of_version r)

abbrev pub unread_list_text : Option Items → List ℕ
unread_list_text (Some ds) = codes "a list within a list: its items aren't judged"
unread_list_text None = codes "a List has its objects in items, and no other fields but apiVersion, kind and metadata"

-- the reason in words: an object of a kind, or an apiVersion, without a letter has none
abbrev pub named_reason : Data → NotJudged → NotJudged
named_reason d reason.NoSuchKind =
    if not (is_full (text_at (codes "kind") d)) then reason.NoKind
    else (if not (is_full (text_at (codes "apiVersion") d)) then reason.NoApiVersion else reason.NoSuchKind)
named_reason d r = r

-- the reason why an object isn't judged by these versions
abbrev pub why_not : {A : Type 0} → List (Version A) → Found → NotJudged → List ℕ
why_not versions f r =
    if is_unread_list f.value r then unread_list_text (list_of f.value)
    else (if is_no_resource f then codes "no resource: neither apiVersion nor kind"
    else (if is_called_crd f.value && not (is_of_version r) then codes "only CustomResourceDefinitions of apiextensions.k8s.io/v1 are read"
    else explanation versions f.value (named_reason f.value r)))

-- whether the reason is that no definition has the object's group and kind
abbrev pub is_missing : NotJudged → Bool
is_missing reason.NotAnObject = false
is_missing reason.NoApiVersion = false
is_missing reason.NoKind = false
is_missing reason.NoSuchKind = true
is_missing reason.NoSuchVersion = false
is_missing reason.NotServed = false

-- whether an object is skipped if missing definitions are ignored: there is none for it, or it is no resource. A list
-- isn't skipped, nor a definition of another apiVersion
abbrev pub is_skipped : Found → NotJudged → Bool
is_skipped f r =
    is_no_resource f
    || (is_missing (named_reason f.value r) && not (is_unread_list f.value r || is_called_crd f.value))

-- what isn't skipped couldn't be judged
abbrev pub verdict_for : Bool → Found → NotJudged → Verdict
verdict_for ignores_missing f r = if ignores_missing && is_skipped f r then verdict.Skip else verdict.NotJudged

-- the item of an object with this judgement by these versions, and these hints
abbrev pub judged_item : {A : Type 0} → Bool → List (Version A) → Found → Judgement → List FindingData → ItemData
judged_item ignores_missing versions f (judgement.Judged (Ok u)) hints = item_of f verdict.Pass []
judged_item ignores_missing versions f (judgement.Judged (Err es)) hints =
    item_of f (errors_verdict (map error_view (errors_in es)))
    (map (λ e. error_finding (error_view e)) (errors_in es) ++ hints)
judged_item ignores_missing versions f (judgement.NotJudged r) hints =
    item_of f (verdict_for ignores_missing f r) (remark (why_not versions f r))

-- an object is judged by these versions under a book of patterns, with the old object of the same identity, if any; the
-- Bool says whether it is skipped if there is no definition for it. If a rule denies it, all its rules were evaluated
abbrev pub IsJudged : Book → Bool → List (Version Data) → List Data → Found → ItemData → Type 0
IsJudged book ignores_missing versions olds f i =
    (j : Judgement) × IsJudgementUnder book versions f.value (old_of olds f.value) j
    × (is_partly_judged j ≡ false)
    × (hints : List FindingData) × AreHints f.value (errors_of j) hints
    × (i ≡ judged_item ignores_missing versions f j hints)

-- ---- old objects

-- whether an old object is of no use, as by the reason why it has no version: it is of no definition, is none itself, and
-- isn't skipped either, if missing definitions are ignored. It may be the old state of an object
abbrev pub is_unusable_for : {A : Type 0} → Bool → Found → Result A NotJudged → Bool
is_unusable_for ignores_missing f (Ok v) = false
is_unusable_for ignores_missing f (Err r) =
    not (is_of_version r) && not (is_crd f.value || (ignores_missing && is_skipped f r))

abbrev pub is_unusable : {A : Type 0} → Bool → List (Version A) → Found → Bool
is_unusable ignores_missing versions f = is_unusable_for ignores_missing f (chosen_version versions f.value)

-- no old object is
abbrev pub AreUsable : {A : Type 0} → Bool → List (Version A) → List Found → Type 0
AreUsable ignores_missing versions olds = list_any (is_unusable ignores_missing versions) olds ≡ false

-- ---- documents that are passed over

-- the item of a document in a file of definitions that is passed over, since it is no definition
abbrev pub passed_over_item : Found → ItemData
passed_over_item f = item_of f verdict.Skip (remark (codes "no CustomResourceDefinition"))

-- ---- for private clauses

-- the same by a set
abbrev pub IsJudgedBy : Book → Bool → CrdSet → List Data → Found → ItemData → Type 0
IsJudgedBy book ignores_missing set olds f i =
    (j : Judgement)
    × ((versions : List (Version Data)) → set_view set ≡ map with_tree versions
    → IsJudgementUnder book versions f.value (old_of olds f.value) j)
    × (is_partly_judged j ≡ false)
    × (hints : List FindingData) × AreHints f.value (errors_of j) hints
    × (i ≡ judged_item ignores_missing (set_view set) f j hints)
