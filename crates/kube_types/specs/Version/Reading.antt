-- Trusted by the headline.
-- The text of a version, read strictly or leniently.
-- Source: SemVer 2.0, semver.org, whose grammar `version_parts` reads; and the `normalize` option
-- of `semver` in the CEL library `Semver`, `k8s.io/apiserver/pkg/cel/library` of Kubernetes: it
-- drops a leading `v`, adds missing minor and patch numbers and drops leading zeros.
use Rattle.semver.specs.Order.{strip_zeros, parts}
use Rattle.semver.specs.Parse.{version_parts}
use Rattle.std.specs.Char.{is_ascii_digit}
use Rattle.std.specs.List.{list_all}
use Rattle.std.specs.Prelude.{◌≡◌, ℕ, ◌^◌, ◌==◌, ◌&&◌, ◌||◌, Bool, true, false, ℤ, pos, nat_lt, not, List, [], ◌∷◌, ◌++◌, length, Option, Some, None, option_and_then, if◌then◌else◌, codes}
use Rattle.std.specs.Result.{result_ok}
use Rattle.kube_types.specs.Version.Shown.{Parts}

-- the version that a text spells by SemVer 2.0, or none if it doesn't spell one
unfoldable pub strictly : List ℕ → Option Parts
strictly text = result_ok (version_parts text)

-- the text without one leading `v` (118) or `V` (86)
unfoldable pub without_v : List ℕ → List ℕ
without_v [] = []
without_v (b ∷ rest) = if (b == 118) || (b == 86) then rest else b ∷ rest

-- the part before the first hyphen, `-` (45)
unfoldable pub core_of : List ℕ → List ℕ
core_of [] = []
core_of (b ∷ rest) = if b == 45 then [] else b ∷ core_of rest

-- the rest: the hyphen and everything after it
unfoldable pub tail_of : List ℕ → List ℕ
tail_of [] = []
tail_of (b ∷ rest) = if b == 45 then b ∷ rest else tail_of rest

-- a run of digits: one or more digits and nothing else
abbrev pub is_number : List ℕ → Bool
is_number part = not (length part == 0) && list_all is_ascii_digit part

-- a number without its leading zeros; zeros alone become `0`
unfoldable pub number_text : List ℕ → List ℕ
number_text digits = if length (strip_zeros digits) == 0 then codes "0" else strip_zeros digits

-- Three numbers in full, followed by the tail. A missing
-- number is 0; more than three numbers aren't a version.
unfoldable pub full_text : List (List ℕ) → List ℕ → Option (List ℕ)
full_text [] tail = None
full_text (major ∷ []) tail = Some (number_text major ++ (codes ".0.0" ++ tail))
full_text (major ∷ minor ∷ []) tail =
    Some (number_text major ++ (codes "." ++ (number_text minor ++ (codes ".0" ++ tail))))
full_text (major ∷ minor ∷ patch ∷ []) tail =
    Some (number_text major ++ (codes "." ++ (number_text minor ++ (codes "."
    ++ (number_text patch ++ tail)))))
full_text (major ∷ minor ∷ patch ∷ next ∷ more) tail = None

-- the full form of a text without a leading `v`
unfoldable pub normal_text : List ℕ → Option (List ℕ)
normal_text text =
    if list_all is_number (parts (core_of text)) then full_text (parts (core_of text)) (tail_of text)
    else Some text

-- The text that a lenient reading passes to the strict one, or none if the
-- text has too many numbers: one leading `v` is dropped, and the numbers
-- before the first hyphen are written in full. If the part before the first
-- hyphen isn't numbers separated by dots, the rest of the text is unchanged.
abbrev pub lenient_text : List ℕ → Option (List ℕ)
lenient_text text = normal_text (without_v text)

-- the version that a text parses to, read leniently or strictly
unfoldable pub version_of : Bool → List ℕ → Option Parts
version_of false text = strictly text
version_of true text = option_and_then strictly (lenient_text text)

-- a number as a signed 64-bit integer, or none if it doesn't fit
abbrev pub integer_of : ℕ → Option ℤ
integer_of n = if nat_lt n (2 ^ 63) then Some (pos n) else None

-- a version with neither a pre-release nor build metadata
abbrev pub IsPlain : Option Parts → Type 0
IsPlain None = ⊥
IsPlain (Some p) = (length p.3 ≡ 0) × (length p.4 ≡ 0)
