-- Trusted by the headline.
-- The view of a version in contracts: its three numbers, its pre-release and its build metadata.
use Rattle.std.specs.Prelude.{ℕ, List, string_bytes}
use Rattle.kube_types.specs.declared.versions.version.KubeSemver.{KubeSemver}

abbrev pub Parts : Type 0
Parts = ℕ × ℕ × ℕ × List ℕ × List ℕ

-- the parts of a version
abbrev pub parts : KubeSemver → Parts
parts v = (v.major, v.minor, v.patch, string_bytes v.pre, string_bytes v.build)
