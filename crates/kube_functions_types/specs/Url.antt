-- Trusted by the headline.
-- Functions on URLs (Kubernetes documentation, "CEL in Kubernetes",
-- URL library; `URLs` in `k8s.io/apiserver/pkg/cel/library`).
use Rattle.std.specs.Prelude.{ℕ, List, [], ◌∷◌, codes, Ok, is_some}
use Rattle.kube_types.specs.Url.Query.{pairs_of, values_of, values_or_none}
use Rattle.kube_types.specs.Url.Reading as reading
use Rattle.kube_types.specs.Url.Shown.{Shown}
use Rattle.cel_value.specs.Data.{Data, text, map_of, url, text_key, Entries, no_entries}
use Rattle.cel_value.specs.Keys.{put}
use Rattle.cel_semantics.specs.Outcome.{Outcome}
use Rattle.kube_functions_types.specs.Answers.{refusal, wrong_kind, bool_answer, value_or}
use Rattle.kube_functions_types.specs.Lists.{text_list}

-- `url`: parses a string as a URL or an absolute path
abbrev pub url_from : Data → Outcome
url_from (text s) = value_or (refusal (codes "url") (codes "invalid URL")) url (reading.url_of s)
url_from _ = wrong_kind (codes "url")

-- `isURL`: does a string parse as one?
abbrev pub is_url : Data → Outcome
is_url (text s) = bool_answer (is_some (reading.url_of s))
is_url _ = wrong_kind (codes "isURL")

-- `getScheme`: the scheme, which is empty for a path
abbrev pub get_scheme : Data → Outcome
get_scheme (url u) = Ok (text u.scheme)
get_scheme _ = wrong_kind (codes "getScheme")

-- `getHost`: the host, with the port if the URL has one
abbrev pub get_host : Data → Outcome
get_host (url u) = Ok (text u.host)
get_host _ = wrong_kind (codes "getHost")

-- `getHostname`: the host without port and brackets
abbrev pub get_hostname : Data → Outcome
get_hostname (url u) = Ok (text u.hostname)
get_hostname _ = wrong_kind (codes "getHostname")

-- `getPort`: the port in decimal, or nothing if the URL has none
abbrev pub get_port : Data → Outcome
get_port (url u) = Ok (text u.port)
get_port _ = wrong_kind (codes "getPort")

-- `getEscapedPath`: the path, percent-encoded
abbrev pub get_escaped_path : Data → Outcome
get_escaped_path (url u) = Ok (text u.path)
get_escaped_path _ = wrong_kind (codes "getEscapedPath")

-- the names and values of the query, in order
abbrev pub query_pairs : Shown → List (List ℕ × List ℕ)
query_pairs u = pairs_of u.query

-- for each of the names among the second pairs, its values among the first
abbrev pub entries_among : List (List ℕ × List ℕ) → List (List ℕ × List ℕ) → Entries
entries_among pairs [] = no_entries
entries_among pairs (p ∷ ps) =
    put (text_key p.0) (text_list (values_or_none (values_of pairs p.0))) (entries_among pairs ps)

-- `getQuery`: a map from each name in the query to the list of its values, in order
abbrev pub get_query : Data → Outcome
get_query (url u) = Ok (map_of (entries_among (query_pairs u) (query_pairs u)))
get_query _ = wrong_kind (codes "getQuery")
