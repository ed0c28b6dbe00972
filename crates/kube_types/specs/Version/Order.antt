-- Trusted by the headline.
-- Equality and order of versions.
-- Source: SemVer 2.0, semver.org, section 11: precedence compares the three
-- numbers and then the pre-release. Build metadata doesn't affect precedence
-- there; here it decides last, in the order that Cargo's crate `semver` gives it.
use Rattle.semver.specs.Order.{pre_cmp, build_cmp}
use Rattle.std.specs.Cmp.Lexicographic.{pointwise}
use Rattle.std.specs.Ordering.{nat_cmp, on, then_cmp}
use Rattle.std.specs.Prelude.{◌&&◌, ◌==◌, Bool, nat_eq}
use Rattle.std.specs.declared.cmp.Ordering.{Ordering}
use Rattle.kube_types.specs.Version.Shown.{Parts}

-- the order by precedence
abbrev pub precedence : Parts → Parts → Ordering
precedence = then_cmp (on (λ (p : Parts). p.0) nat_cmp) (then_cmp (on (λ (p : Parts). p.1) nat_cmp)
    (then_cmp (on (λ (p : Parts). p.2) nat_cmp) (on (λ (p : Parts). p.3) pre_cmp)))

-- the order by precedence, then by build metadata
abbrev pub parts_cmp : Parts → Parts → Ordering
parts_cmp = then_cmp precedence (on (λ (p : Parts). p.4) build_cmp)

-- two versions are equal in every part
abbrev pub same_parts : Parts → Parts → Bool
same_parts p q =
    (p.0 == q.0) && ((p.1 == q.1) && ((p.2 == q.2) && (pointwise nat_eq p.3 q.3 && pointwise nat_eq p.4 q.4)))
