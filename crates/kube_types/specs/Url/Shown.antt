-- Trusted by the headline.
-- What contracts see of a URL: its text, and its parts as calls give them.
-- Source: the CEL library `URLs`, `k8s.io/apiserver/pkg/cel/library` of Kubernetes: `getScheme`,
-- `getHost`, `getHostname`, `getPort`, `getEscapedPath` and `getQuery`.
use Rattle.std.specs.Fmt.{decimal}
use Rattle.std.specs.Prelude.{ℕ, Bool, List, [], Option, Some, None, Vec, String, map, string_bytes}
use Rattle.std.specs.declared.alloc.Global.{Global}
use Rattle.kube_types.specs.declared.urls.kube_url.KubeUrl.{KubeUrl}

pub record Shown : Type 0 where
  -- the URL in full
  pub text : List ℕ
  -- was it parsed from a path?
  pub is_path : Bool
  pub scheme : List ℕ
  -- the host, with its port
  pub host : List ℕ
  -- the host without port and brackets
  pub hostname : List ℕ
  -- the port in decimal, or nothing
  pub port : List ℕ
  -- the path and the query, percent-encoded
  pub path : List ℕ
  pub query : List ℕ

-- a port in decimal, or nothing
abbrev pub port_text : Option ℕ → List ℕ
port_text None = []
port_text (Some port) = decimal port

abbrev pub url_view : KubeUrl → Shown
url_view u = record {
  text = string_bytes u.text;
  is_path = u.is_path;
  scheme = string_bytes u.scheme;
  host = string_bytes u.host;
  hostname = string_bytes u.hostname;
  port = port_text u.port;
  path = string_bytes u.path;
  query = string_bytes u.query;
}

-- the texts of a name and a value
abbrev pub pair_texts : String Global × String Global → List ℕ × List ℕ
pair_texts p = (string_bytes p.0, string_bytes p.1)

-- the texts of a list of values
abbrev pub texts : Vec (String Global) Global → List (List ℕ)
texts values = map string_bytes values.items
