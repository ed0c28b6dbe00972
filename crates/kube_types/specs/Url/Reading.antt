-- Trusted by the headline.
-- Parsing a URL or a path.
-- Source: the CEL library `URLs`, `k8s.io/apiserver/pkg/cel/library` of Kubernetes: a URL or an
-- absolute path; and the URL Standard, url.spec.whatwg.org, whose parser is `parse_url`.
use Rattle.std.specs.Option.{option_map}
use Rattle.std.specs.Prelude.{ℕ, ◌==◌, Bool, List, ◌++◌, Option, Some, None, slice_index, codes, if◌then◌else◌}
use Rattle.std.specs.Result.{result_ok}
use Rattle.kube_types_refused.specs.declared.Refused.{Refused}
use Rattle.kube_types_refused.specs.declared.Refused.TheVariants.{Memory, TooLarge}
use Rattle.url.specs.Parser.{parse_url}
use Rattle.url.specs.declared.error.ParseError.{ParseError}
use Rattle.url.specs.declared.error.ParseError.TheVariants.{OutOfMemory, Overflow}
use Rattle.kube_types.specs.Url.Parts.{shown_of}
use Rattle.kube_types.specs.Url.Shown.{Shown}

-- is a text a path? it is if it starts with a slash, `/` (47)
abbrev pub is_path : List ℕ → Bool
is_path text = slice_index text 0 == 47

-- the text that is parsed: a path is put after a host that has no effect
unfoldable pub full_text : List ℕ → List ℕ
full_text text = if is_path text then codes "http://localhost" ++ text else text

-- the URL or the path that a text parses to, if it does
unfoldable pub url_of : List ℕ → Option Shown
url_of text = option_map (λ url. shown_of url (is_path text)) (result_ok (parse_url None (full_text text)))

-- the refusals among the errors of the parser
abbrev pub refusal_of : ParseError → Option Refused
refusal_of OutOfMemory = Some Memory
refusal_of Overflow = Some TooLarge
refusal_of other = None
