-- Trusted by the clauses of policies.
-- The inputs that a policy's expressions may read (Kubernetes API reference, Validation of
-- ValidatingAdmissionPolicySpec: the variables of `expression`; AdmissionRequest of `admission.k8s.io`), and which of them
-- aren't given. An API server fills `dryRun`, `options`, `requestKind` and `requestResource` of each request, so that one
-- that a review leaves out isn't given either.
use Rattle.cel_syntax_ast.specs.FreeNames.{is_free}
use Rattle.cel_syntax_ast.specs.Term.{Term}
use Rattle.kube_manifests_documents.specs.Inputs.{Variables}
use Rattle.kube_manifests_names.specs.Requests.{is_null}
use Rattle.kube_manifests_names.specs.Uses.{asks}
use Rattle.kube_manifests_names.specs.declared.inputs.Input.{Input}
use Rattle.kube_manifests_names.specs.declared.inputs.Input.TheVariants.{Object, OldObject, Request, DryRun, Options, RequestKind, RequestResource, Params, NamespaceObject, Authorizer}
use Rattle.serde_json.specs.Data.{Data}
use Rattle.serde_json.specs.Find.{get}
use Rattle.std.specs.Prelude.{ℕ, not, List, [], ◌∷◌, ◌++◌, Bool, true, false, if◌then◌else◌, Option, Some, None, is_some, codes}

-- the input as it is written in an expression
abbrev pub input_name : Input → List ℕ
input_name Object = codes "object"
input_name OldObject = codes "oldObject"
input_name Request = codes "request"
input_name DryRun = codes "request.dryRun"
input_name Options = codes "request.options"
input_name RequestKind = codes "request.requestKind"
input_name RequestResource = codes "request.requestResource"
input_name Params = codes "params"
input_name NamespaceObject = codes "namespaceObject"
input_name Authorizer = codes "authorizer"

-- the field of `request` that an input is
abbrev pub request_field : Input → Option (List ℕ)
request_field Object = None
request_field OldObject = None
request_field Request = None
request_field DryRun = Some (codes "dryRun")
request_field Options = Some (codes "options")
request_field RequestKind = Some (codes "requestKind")
request_field RequestResource = Some (codes "requestResource")
request_field Params = None
request_field NamespaceObject = None
request_field Authorizer = None

-- an expression reads the names that are free in it, and the fields of `request` that it names
abbrev pub asks_by : Option (List ℕ) → List ℕ → Term → Bool
asks_by None name t = is_free name t
asks_by (Some field) name t = asks (codes "request") field true t

abbrev pub asks_for : Input → Term → Bool
asks_for i t = asks_by (request_field i) (input_name i) t

-- the first of these inputs that an expression reads
abbrev pub first_asked : List Input → Term → Option Input
first_asked [] t = None
first_asked (i ∷ is) t = if asks_for i t then Some i else first_asked is t

-- `authorizer` queries an API server
abbrev pub never_given : List Input
never_given = Authorizer ∷ []

abbrev pub or_first : Option Input → Option Input → Option Input
or_first None o = o
or_first (Some i) o = Some i

-- the first input that an expression reads among `absent` and those that are never given
abbrev pub first_missing : List Input → Term → Option Input
first_missing absent t = or_first (first_asked absent t) (first_asked never_given t)

abbrev pub unless : Bool → Input → List Input
unless true i = []
unless false i = i ∷ []

abbrev pub is_value : Option Data → Bool
is_value None = false
is_value (Some d) = not (is_null d)

-- whether a request has this field; if there is no request, that is what isn't given
abbrev pub has_field : List ℕ → Option Data → Bool
has_field name None = true
has_field name (Some d) = is_value (get name d)

-- the fields of the request that aren't given
unfoldable pub absent_fields : Option Data → List Input
absent_fields r =
    unless (has_field (codes "dryRun") r) DryRun ++ unless (has_field (codes "options") r) Options
    ++ unless (has_field (codes "requestKind") r) RequestKind
    ++ unless (has_field (codes "requestResource") r) RequestResource

-- the inputs that aren't given
unfoldable pub absent_in : Variables → List Input
absent_in v =
    unless (is_some v.object) Object ++ unless (is_some v.old_object) OldObject
    ++ unless (is_some v.request) Request
    ++ unless (is_some v.params) Params ++ unless (is_some v.namespace_object) NamespaceObject
    ++ absent_fields v.request

-- a match condition is never given `namespaceObject`
abbrev pub without_namespace : Variables → Variables
without_namespace v = record v { namespace_object = None }
