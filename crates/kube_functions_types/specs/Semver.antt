-- Trusted by the headline.
-- Functions on versions (Kubernetes documentation, "CEL in Kubernetes",
-- semver library; `Semver` in `k8s.io/apiserver/pkg/cel/library`).
use Rattle.std.specs.Prelude.{ℕ, List, ◌++◌, codes, Bool, false, Option, None, Some, is_some}
use Rattle.std.specs.Option.{option_map_or}
use Rattle.kube_types.specs.Version.Reading.{version_of, integer_of}
use Rattle.cel_value.specs.Data.{Data, bool, int, text, semver}
use Rattle.cel_semantics.specs.Outcome.{Outcome}
use Rattle.kube_functions_types.specs.Answers.{refusal, wrong_kind, bool_answer, value_or}

-- should a string be read leniently? not if the
-- argument is absent; none if the argument isn't a bool
abbrev pub lenience : Option Data → Option Bool
lenience None = Some false
lenience (Some (bool b)) = Some b
lenience (Some _) = None

-- the message that a string isn't a version
abbrev pub not_version : List ℕ → List ℕ
not_version s = codes "invalid semver '" ++ (s ++ codes "'")

-- `semver`: parses a string as a version
abbrev pub version_from : Data → Option Data → Outcome
version_from (text s) o =
    option_map_or
    (λ lenient. value_or (refusal (codes "semver") (not_version s)) semver (version_of lenient s))
    (lenience o) (wrong_kind (codes "semver"))
version_from _ o = wrong_kind (codes "semver")

-- `isSemver`: does a string parse as a version?
abbrev pub is_version : Data → Option Data → Outcome
is_version (text s) o = option_map_or (λ lenient. bool_answer (is_some (version_of lenient s))) (lenience o)
    (wrong_kind (codes "isSemver"))
is_version _ o = wrong_kind (codes "isSemver")

-- one of a version's numbers as an int; `name` is the function's name in errors
abbrev pub part_of : List ℕ → ℕ → Outcome
part_of name n = value_or (refusal name (codes "version part too large")) int (integer_of n)

abbrev pub major_of : Data → Outcome
major_of (semver v) = part_of (codes "major") v.0
major_of _ = wrong_kind (codes "major")

abbrev pub minor_of : Data → Outcome
minor_of (semver v) = part_of (codes "minor") v.1
minor_of _ = wrong_kind (codes "minor")

abbrev pub patch_of : Data → Outcome
patch_of (semver v) = part_of (codes "patch") v.2
patch_of _ = wrong_kind (codes "patch")
