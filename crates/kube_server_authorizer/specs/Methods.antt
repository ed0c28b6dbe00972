-- Trusted by the clauses of other library calls.
-- The methods of an authorizer, of checks and of decisions: their names, how many arguments each takes,
-- and their answers (Kubernetes documentation, "CEL in Kubernetes", "Kubernetes authorizer library").
use Rattle.std.specs.Prelude.{ℕ, List, [], ◌∷◌, codes, Option, Some, None, Err}
use Rattle.cel_value.specs.Data.{Data}
use Rattle.cel_value.specs.Faults.{no_overload}
use Rattle.cel_semantics.specs.Outcome.{Outcome}
use Rattle.kube_server_authorizer.specs.Calls as calls
use Rattle.kube_server_authorizer.specs.declared.methods.AuthorizerFunction.{AuthorizerFunction}
use Rattle.kube_server_authorizer.specs.declared.methods.AuthorizerFunction.TheVariants as function
use Rattle.kube_server_authorizer.specs.declared.methods.Method.{Method}

abbrev pub takes : ℕ → AuthorizerFunction → Method
takes arguments f = record { arguments = arguments; function = f }

abbrev pub methods : List (List ℕ × Method)
methods =
    (codes "path", takes 1 function.Path)
    ∷ (codes "group", takes 1 function.Group)
    ∷ (codes "serviceAccount", takes 2 function.ServiceAccount)
    ∷ (codes "resource", takes 1 function.Resource)
    ∷ (codes "subresource", takes 1 function.Subresource)
    ∷ (codes "namespace", takes 1 function.Namespace)
    ∷ (codes "name", takes 1 function.Name)
    ∷ (codes "check", takes 1 function.Check)
    ∷ (codes "allowed", takes 0 function.Allowed)
    ∷ (codes "reason", takes 0 function.Reason)
    ∷ (codes "errored", takes 0 function.Errored)
    ∷ (codes "error", takes 0 function.Error)
    ∷ []

-- the answer to a call on a receiver with these arguments; `name` is the method's name in errors
abbrev pub answer : AuthorizerFunction → List ℕ → Data → Option Data → Option Data → Outcome
answer function.Allowed name v w x = calls.allowed v
answer function.Reason name v w x = calls.reason v
answer function.Errored name v w x = calls.errored v
answer function.Error name v w x = calls.error v
answer function.Path name v (Some w) x = calls.path v w
answer function.Group name v (Some w) x = calls.group v w
answer function.Resource name v (Some w) x = calls.resource v w
answer function.Subresource name v (Some w) x = calls.subresource v w
answer function.Namespace name v (Some w) x = calls.namespace v w
answer function.Name name v (Some w) x = calls.name v w
answer function.Check name v (Some w) x = calls.check v w
answer function.ServiceAccount name v (Some w) (Some x) = calls.service_account v w x
answer f name v None x = Err (no_overload name)
answer f name v w None = Err (no_overload name)
