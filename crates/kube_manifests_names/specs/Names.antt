-- Trusted by the clauses of policies.
-- Which names an expression of a policy may use, and what an API server refuses of them when the policy is made
-- (Kubernetes documentation, "Validating Admission Policy", variables of expressions, variable composition and type
-- checking, and "Common Expression Language in Kubernetes"; Kubernetes API reference, Validation of
-- ValidatingAdmissionPolicySpec, AdmissionRequest and Namespace; CEL language definition, "Gradual Type Checking"; the
-- types of `request` and `namespaceObject` in the package `admission/plugin/cel` of `k8s.io/apiserver`).
use Rattle.cel_semantics.specs.declared.functions.Form.{Form}
use Rattle.cel_semantics.specs.declared.functions.Form.TheVariants.{Known, Wrong, Unknown}
use Rattle.cel_syntax_ast.specs.Term.{Term, literal, ident, select, has, index, unary, binary, conditional, list_of, map_with, call, qualified, macro, Terms, no_terms, term_and, count_of, is_there, Pairs, no_pairs, pair_and}
use Rattle.cel_value.specs.Data.{Data, double}
use Rattle.kube_functions.specs.Kube.{all_library}
use Rattle.kube_manifests_documents.specs.Faults.{◌>>=◌}
use Rattle.kube_manifests_names.specs.declared.bound.Bound.{Bound, fold-Bound}
use Rattle.kube_manifests_names.specs.declared.bound.Bound.TheOpen.{Bound-F}
use Rattle.kube_manifests_names.specs.declared.names.Names.{Names}
use Rattle.kube_manifests_names.specs.declared.names.Refusal.{Refusal}
use Rattle.kube_manifests_names.specs.declared.names.Refusal.TheVariants as variant
use Rattle.kube_manifests_names.specs.declared.names.Shape.{Shape}
use Rattle.kube_manifests_names.specs.declared.names.Shape.TheVariants as shape
use Rattle.std.specs.BTreeSet.{contains_text}
use Rattle.std.specs.List.{list_any}
use Rattle.std.specs.Prelude.{ℕ, List, [], ◌∷◌, ◌++◌, Bool, true, false, ◌||◌, if◌then◌else◌, Option, Some, None, is_some, option_map, Result, Ok, Err, codes}
use Rattle.std.specs.Str.{bytes_eq}

-- what an expression may read, besides what every expression may
pub record NamesData : Type 0 where
  -- `params`
  pub params : Bool
  -- `authorizer`
  pub authorizer : Bool
  -- `variables`, with the members of these names
  pub variables : Option (List ℕ → Bool)

-- why an expression is refused
pub data RefusalData : Type 0 where
  -- a name that isn't declared
  undeclared : List ℕ → RefusalData
  -- a number with a fraction or an exponent
  no_doubles : RefusalData
  -- a function that isn't known, or not with these arguments
  no_function : List ℕ → RefusalData
  no_form : List ℕ → RefusalData
  -- a member that `variables`, `request`, `namespaceObject` or a part of these doesn't have
  no_field : List ℕ → RefusalData
  -- `variables` or `request`, read otherwise than by selecting a member
  whole : List ℕ → RefusalData

-- ---- types

abbrev pub kinds : List (List ℕ)
kinds = codes "kind" ∷ codes "requestKind" ∷ []

abbrev pub resources : List (List ℕ)
resources = codes "resource" ∷ codes "requestResource" ∷ []

-- the other members of a request, but for the user; `uid`, `object` and `oldObject` aren't declared
abbrev pub plain_members : List (List ℕ)
plain_members =
    codes "subResource" ∷ codes "requestSubResource" ∷ codes "name" ∷ codes "namespace"
    ∷ codes "operation" ∷ codes "dryRun" ∷ codes "options" ∷ []

abbrev pub kind_members : List (List ℕ)
kind_members = codes "group" ∷ codes "version" ∷ codes "kind" ∷ []

abbrev pub resource_members : List (List ℕ)
resource_members = codes "group" ∷ codes "version" ∷ codes "resource" ∷ []

abbrev pub user_members : List (List ℕ)
user_members = codes "username" ∷ codes "uid" ∷ codes "groups" ∷ codes "extra" ∷ []

-- The members of a namespace's metadata. `managedFields`, `ownerReferences` and `selfLink` aren't declared, and `uid` is
-- declared by another name, so that no expression finds it.
abbrev pub metadata_members : List (List ℕ)
metadata_members =
    codes "name" ∷ codes "generateName" ∷ codes "namespace" ∷ codes "labels" ∷ codes "annotations"
    ∷ codes "creationTimestamp" ∷ codes "deletionTimestamp" ∷ codes "deletionGracePeriodSeconds"
    ∷ codes "finalizers" ∷ codes "resourceVersion" ∷ codes "generation" ∷ []

abbrev pub spec_members : List (List ℕ)
spec_members = codes "finalizers" ∷ []

abbrev pub status_members : List (List ℕ)
status_members = codes "conditions" ∷ codes "phase" ∷ []

-- a member that isn't looked into, if it is one of these
abbrev pub member_if : Bool → List ℕ → Result Shape RefusalData
member_if true x = Ok shape.Any
member_if false x = Err (no_field x)

abbrev pub one_of : List (List ℕ) → List ℕ → Result Shape RefusalData
one_of known x = member_if (list_any (bytes_eq x) known) x

abbrev pub request_member : List ℕ → Result Shape RefusalData
request_member x =
    if list_any (bytes_eq x) kinds then Ok shape.Kind else (
    if list_any (bytes_eq x) resources then Ok shape.Resource else (
    if bytes_eq x (codes "userInfo") then Ok shape.User else one_of plain_members x))

-- `apiVersion` and `kind` of a namespace aren't declared
abbrev pub namespace_member : List ℕ → Result Shape RefusalData
namespace_member x =
    if bytes_eq x (codes "metadata") then Ok shape.Metadata else (
    if bytes_eq x (codes "spec") then Ok shape.Spec else (
    if bytes_eq x (codes "status") then Ok shape.Status else Err (no_field x)))

abbrev pub variable_member : Option (List ℕ → Bool) → List ℕ → Result Shape RefusalData
variable_member None x = Err (no_field x)
variable_member (Some is_name) x = member_if (is_name x) x

abbrev pub member_of : NamesData → List ℕ → Shape → Result Shape RefusalData
member_of n x shape.Any = Ok shape.Any
member_of n x shape.Request = request_member x
member_of n x shape.Kind = one_of kind_members x
member_of n x shape.Resource = one_of resource_members x
member_of n x shape.User = one_of user_members x
member_of n x shape.Namespace = namespace_member x
member_of n x shape.Metadata = one_of metadata_members x
member_of n x shape.Spec = one_of spec_members x
member_of n x shape.Status = one_of status_members x
member_of n x shape.Variables = variable_member n.variables x
member_of n x shape.Authorizer = Ok shape.Authorizer

-- the names of objects that no type describes
abbrev pub always_declared : List (List ℕ)
always_declared = codes "object" ∷ codes "oldObject" ∷ []

-- a name that is declared only in some expressions
abbrev pub if_declared : Bool → Shape → List ℕ → Result Shape RefusalData
if_declared true s x = Ok s
if_declared false s x = Err (undeclared x)

-- a name that no macro binds
abbrev pub name_shape : NamesData → List ℕ → Result Shape RefusalData
name_shape n x =
    if bytes_eq x (codes "request") then Ok shape.Request else (
    if bytes_eq x (codes "namespaceObject") then Ok shape.Namespace else (
    if bytes_eq x (codes "variables") then if_declared (is_some n.variables) shape.Variables x else (
    if bytes_eq x (codes "authorizer") then if_declared n.authorizer shape.Authorizer x else (
    if bytes_eq x (codes "params") then if_declared n.params shape.Any x else (
    if list_any (bytes_eq x) always_declared then Ok shape.Any else Err (undeclared x))))))

-- what is used as a value
abbrev pub as_value : Shape → Result Shape RefusalData
as_value shape.Request = Err (whole (codes "request"))
as_value shape.Variables = Err (whole (codes "variables"))
as_value _ = Ok shape.Any

-- whether the members are declared, and those alone
abbrev pub is_record : Shape → Bool
is_record shape.Kind = true
is_record shape.Resource = true
is_record shape.User = true
is_record shape.Namespace = true
is_record shape.Metadata = true
is_record shape.Spec = true
is_record shape.Status = true
is_record _ = false

-- what is indexed: declared members can only be selected
abbrev pub as_indexed : Shape → Result Shape RefusalData
as_indexed s = if is_record s then Err (no_form (codes "_[_]")) else as_value s

abbrev pub is_authorizer : Shape → Bool
is_authorizer shape.Authorizer = true
is_authorizer _ = false

-- what a function is called on
abbrev pub as_target : Shape → Result Shape RefusalData
as_target s = if is_authorizer s then Ok shape.Authorizer else as_value s

-- ---- functions

-- Functions of this project that no API server has for policies. All but the last are called without a receiver.
abbrev pub math_functions : List (List ℕ)
math_functions =
    codes "math.abs" ∷ codes "math.sign" ∷ codes "math.greatest" ∷ codes "math.least"
    ∷ codes "math.bitAnd" ∷ codes "math.bitOr" ∷ codes "math.bitXor" ∷ codes "math.bitNot"
    ∷ codes "math.bitShiftLeft" ∷ codes "math.bitShiftRight" ∷ []

abbrev pub other_functions : List (List ℕ)
other_functions =
    codes "min" ∷ codes "max" ∷ codes "isIPv4" ∷ codes "isIPv6" ∷ codes "isCIDRv4" ∷ codes "isCIDRv6"
    ∷ codes "base64.decode" ∷ codes "base64.encode" ∷ codes "jsonpatch.escapeKey" ∷ []

abbrev pub is_foreign : List ℕ → Bool → Bool
is_foreign f receiver =
    if receiver then bytes_eq f (codes "string")
    else list_any (bytes_eq f) math_functions || list_any (bytes_eq f) other_functions

abbrev pub by_form : List ℕ → Form → Result Shape RefusalData
by_form f Known = Ok shape.Any
by_form f Wrong = Err (no_form f)
by_form f Unknown = Err (no_function f)

-- whether a function may be called so
unfoldable pub function_shape : List ℕ → Bool → ℕ → Result Shape RefusalData
function_shape f receiver count =
    if is_foreign f receiver then Err (no_function f) else by_form f (all_library.form_of f receiver count)

-- The result of a function that is called on a value. Those of `authorizer`, which queries an API server, aren't
-- looked into.
abbrev pub called_on : List ℕ → Bool → ℕ → Shape → Result Shape RefusalData
called_on f receiver count s =
    if is_authorizer s then Ok shape.Authorizer else function_shape f receiver count

abbrev pub is_double : Data → Bool
is_double double = true
is_double _ = false

abbrev pub literal_shape : Data → Result Shape RefusalData
literal_shape v = if is_double v then Err no_doubles else Ok shape.Any

abbrev mutual
  -- what is known of an expression, where enclosing macros bind these names, or the first reason to refuse it
  pub shape_of : NamesData → List (List ℕ) → Term → Result Shape RefusalData
  shape_of n b (literal v) = literal_shape v
  shape_of n b (ident x) = if list_any (bytes_eq x) b then Ok shape.Any else name_shape n x
  shape_of n b (select a x) = shape_of n b a >>= member_of n x
  shape_of n b (has a x) = (shape_of n b a >>= member_of n x) >>= (λ s. Ok shape.Any)
  shape_of n b (index a i) = (shape_of n b a >>= as_indexed) >>= (λ s. shape_of n b i >>= as_value)
  shape_of n b (unary o a) = shape_of n b a >>= as_value
  shape_of n b (binary o a c) = (shape_of n b a >>= as_value) >>= (λ s. shape_of n b c >>= as_value)
  shape_of n b (conditional a c d) =
      (shape_of n b a >>= as_value)
      >>= (λ s. (shape_of n b c >>= as_value) >>= (λ t. shape_of n b d >>= as_value))
  shape_of n b (list_of ts) = values_of n b ts
  shape_of n b (map_with ps) = pairs_of n b ps
  shape_of n b (call target f ts) =
      target_of n b target
      >>= (λ s. called_on f (is_there target) (count_of ts) s >>= (λ r. values_of n b ts >>= (λ t. Ok r)))
  shape_of n b (qualified f ts) = function_shape f false (count_of ts) >>= (λ r. values_of n b ts >>= (λ t. Ok r))
  shape_of n b (macro k r x f c) =
      (shape_of n b r >>= as_value)
      >>= (λ s. values_of n (x ∷ b) f >>= (λ t. shape_of n (x ∷ b) c >>= as_value))

  -- the receiver of a call, if there is one
  pub target_of : NamesData → List (List ℕ) → Terms → Result Shape RefusalData
  target_of n b no_terms = Ok shape.Any
  target_of n b (term_and t ts) = shape_of n b t >>= as_target

  pub values_of : NamesData → List (List ℕ) → Terms → Result Shape RefusalData
  values_of n b no_terms = Ok shape.Any
  values_of n b (term_and t ts) = (shape_of n b t >>= as_value) >>= (λ s. values_of n b ts)

  pub pairs_of : NamesData → List (List ℕ) → Pairs → Result Shape RefusalData
  pairs_of n b no_pairs = Ok shape.Any
  pairs_of n b (pair_and k v ps) =
      (shape_of n b k >>= as_value) >>= (λ s. (shape_of n b v >>= as_value) >>= (λ t. pairs_of n b ps))

-- a whole expression
abbrev pub value_of : NamesData → List (List ℕ) → Term → Result Shape RefusalData
value_of n b t = shape_of n b t >>= as_value

abbrev pub refused_by : Result Shape RefusalData → Option RefusalData
refused_by (Ok s) = None
refused_by (Err r) = Some r

-- the first reason to refuse an expression, if there is one
abbrev pub refusal_of : NamesData → Term → Option RefusalData
refusal_of n t = refused_by (value_of n [] t)

-- ---- texts

abbrev pub doubles_text : List ℕ
doubles_text = codes "numbers of kind double aren't supported"

abbrev pub refusal_text : RefusalData → List ℕ
refusal_text (undeclared x) = codes "undeclared reference to '" ++ (x ++ codes "'")
refusal_text no_doubles = doubles_text
refusal_text (no_function f) = codes "function '" ++ (f ++ codes "' is unknown")
refusal_text (no_form f) = codes "found no matching overload for '" ++ (f ++ codes "'")
refusal_text (no_field x) = codes "undefined field '" ++ (x ++ codes "'")
refusal_text (whole x) = codes "'" ++ (x ++ codes "' can only be read by its fields")

-- ---- views of the code's values

abbrev pub bound_step : Bound-F (List (List ℕ)) → List (List ℕ)
bound_step Bound-F.Nothing = []
bound_step (Bound-F.Name x outer) = x.now ∷ outer.now

-- the names that macros bind, the innermost first
abbrev pub bound_names : Bound → List (List ℕ)
bound_names = fold-Bound (List (List ℕ)) bound_step

abbrev pub names_view : Names → NamesData
names_view n = record {
  params = n.params;
  authorizer = n.authorizer;
  variables = option_map (λ names. contains_text names.now) n.variables;
}

abbrev pub refusal_view : Refusal → RefusalData
refusal_view (variant.Undeclared x) = undeclared x.now
refusal_view variant.NoDoubles = no_doubles
refusal_view (variant.NoFunction f) = no_function f.now
refusal_view (variant.NoForm f) = no_form f.now
refusal_view (variant.NoField x) = no_field x.now
refusal_view (variant.Whole x) = whole x.now

abbrev pub shape_seen : Result Shape Refusal → Result Shape RefusalData
shape_seen (Ok s) = Ok s
shape_seen (Err r) = Err (refusal_view r)
