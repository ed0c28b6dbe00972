-- Trusted by the headline.
-- The answers of the functions on URLs (Kubernetes
-- documentation, "CEL in Kubernetes", URL library).
use Rattle.std.specs.Prelude.{ℕ, List, Option, Some, None, Err}
use Rattle.cel_value.specs.Data.{Data}
use Rattle.cel_value.specs.Faults.{no_overload}
use Rattle.cel_semantics.specs.Outcome.{Outcome}
use Rattle.kube_functions_types.specs.Url as urls
use Rattle.kube_functions.specs.declared.libraries.url.UrlFunction.{UrlFunction}
use Rattle.kube_functions.specs.declared.libraries.url.UrlFunction.TheVariants as function

-- the answer to a call with these operands, the receiver
-- first; `name` is the function's name in errors
abbrev pub answer : UrlFunction → List ℕ → Option Data → Outcome
answer function.Url name (Some v) = urls.url_from v
answer function.IsUrl name (Some v) = urls.is_url v
answer function.EscapedPath name (Some v) = urls.get_escaped_path v
answer function.Host name (Some v) = urls.get_host v
answer function.Hostname name (Some v) = urls.get_hostname v
answer function.Port name (Some v) = urls.get_port v
answer function.Query name (Some v) = urls.get_query v
answer function.Scheme name (Some v) = urls.get_scheme v
answer f name None = Err (no_overload name)
