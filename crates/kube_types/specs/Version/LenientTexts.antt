-- Trusted by laws alone.
-- The meaning of a version's text as a whole, read strictly or leniently.
-- Source: SemVer 2.0, semver.org; and the `normalize` option of `semver` in the CEL library
-- `Semver`, `k8s.io/apiserver/pkg/cel/library` of Kubernetes.
use Rattle.semver.specs.Grammar.{IsValid}
use Rattle.semver.specs.Identifiers.{marked, parts_text}
use Rattle.semver.specs.OrderLaws.{join_dots}
use Rattle.std.specs.Char.{is_ascii_digit}
use Rattle.std.specs.List.{list_all}
use Rattle.std.specs.Prelude.{◌≡◌, ◌≢◌, ◌<◌, ◌⊎◌, ℕ, true, List, [], ◌∷◌, ◌++◌, length, slice_index, codes}
use Rattle.std.specs.Str.Parse.{digits_value}
use Rattle.kube_types.specs.Version.Shown.{Parts}

-- the text spells this version by the grammar of SemVer 2.0
abbrev pub IsVersionText : List ℕ → Parts → Type 0
IsVersionText text p = (parts_text p ≡ text) × IsValid p

-- one or more digits, with any number of leading zeros, and the number that they spell
abbrev pub IsNumberText : List ℕ → ℕ → Type 0
IsNumberText digits n =
    (0 < length digits) × (list_all is_ascii_digit digits ≡ true) × (digits_value 10 digits ≡ n)

-- one to three numbers as texts; a missing number is 0
abbrev pub AreNumbers : List (List ℕ) → ℕ → ℕ → ℕ → Type 0
AreNumbers [] k m n = ⊥
AreNumbers (major ∷ []) k m n = IsNumberText major k × (m ≡ 0) × (n ≡ 0)
AreNumbers (major ∷ minor ∷ []) k m n = IsNumberText major k × IsNumberText minor m × (n ≡ 0)
AreNumbers (major ∷ minor ∷ patch ∷ []) k m n =
    IsNumberText major k × IsNumberText minor m × IsNumberText patch n
AreNumbers (major ∷ minor ∷ patch ∷ next ∷ more) k m n = ⊥

-- The text spells this version apart from leading zeros of its numbers and missing numbers: one to
-- three numbers separated by dots, then optionally a hyphen and the pre-release, then optionally a
-- plus and build metadata, which need a pre-release before them.
pub record IsLooseText (text : List ℕ) (p : Parts) : Type 0 where
  pub numbers : List (List ℕ)
  pub spelled : text ≡ join_dots numbers ++ (marked 45 p.3 ++ marked 43 p.4)
  pub values : AreNumbers numbers p.0 p.1 p.2
  pub no_build_alone : length p.3 ≡ 0 → length p.4 ≡ 0
  pub valid : IsValid p

-- the first text is the second with one leading `v`
-- or `V`, or is the second and starts with neither
abbrev pub IsAfterV : List ℕ → List ℕ → Type 0
IsAfterV text bare = (text ≡ codes "v" ++ bare) ⊎ ((text ≡ codes "V" ++ bare)
    ⊎ ((text ≡ bare) × (slice_index bare 0 ≢ 118) × (slice_index bare 0 ≢ 86)))

-- The text, read leniently, is this version: after an optional leading `v` it spells the version by
-- SemVer 2.0, or apart from leading zeros and missing numbers.
abbrev pub IsLenientText : List ℕ → Parts → Type 0
IsLenientText text p = (bare : List ℕ) × IsAfterV text bare × (IsVersionText bare p ⊎ IsLooseText bare p)
