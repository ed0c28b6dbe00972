-- Trusted by the headline.
-- The parts of a URL as calls give them, by the URL record of the URL Standard, section 4.1.
-- Source: the CEL library `URLs`, `k8s.io/apiserver/pkg/cel/library` of Kubernetes: `getScheme`,
-- `getHost`, `getHostname`, `getPort`. A path has no scheme, and its host is `localhost`.
use Rattle.std.specs.Fmt.{decimal}
use Rattle.std.specs.Prelude.{ℕ, Bool, List, [], ◌++◌, Option, Some, None, codes, unwrap_or, if◌then◌else◌}
use Rattle.std.specs.Net.Addr.{ipv6_segments}
use Rattle.std.specs.Net.Text.{hex_groups_text}
use Rattle.url.specs.Host.{host_text}
use Rattle.url.specs.Parts.{Parts, nonempty_host, serialize}
use Rattle.url.specs.declared.host.Host.{Host}
use Rattle.url.specs.declared.host.Host.TheVariants.{Domain, Ipv4, Ipv6}
use Rattle.kube_types.specs.Url.Shown.{Shown, port_text}

-- the scheme of a URL, or of a path
abbrev pub scheme_of : Parts → Bool → List ℕ
scheme_of url is_path = if is_path then [] else url.scheme

-- a colon and a port, or nothing
abbrev pub after_host : Option ℕ → List ℕ
after_host None = []
after_host (Some port) = codes ":" ++ decimal port

-- the host as written in a URL, or nothing
abbrev pub host_or_nothing : Option (Host (List ℕ)) → List ℕ
host_or_nothing None = []
host_or_nothing (Some host) = host_text host

-- the host with its port, as RFC 3986 writes them after the user information
abbrev pub host_of : Parts → Bool → List ℕ
host_of url is_path =
    if is_path then codes "localhost" else host_or_nothing (nonempty_host url) ++ after_host url.port

-- a host without brackets
abbrev pub name_of_host : Option (Host (List ℕ)) → List ℕ
name_of_host None = []
name_of_host (Some (Domain domain)) = domain
name_of_host (Some (Ipv4 address)) = host_text (Ipv4 address)
name_of_host (Some (Ipv6 address)) = hex_groups_text (ipv6_segments address)

abbrev pub hostname_of : Parts → Bool → List ℕ
hostname_of url is_path = if is_path then codes "localhost" else name_of_host (nonempty_host url)

-- the URL with its parts, and whether it was parsed from a path
abbrev pub shown_of : Parts → Bool → Shown
shown_of url is_path = record {
  text = serialize url;
  is_path = is_path;
  scheme = scheme_of url is_path;
  host = host_of url is_path;
  hostname = hostname_of url is_path;
  port = port_text url.port;
  path = url.path;
  query = unwrap_or url.query [];
}
