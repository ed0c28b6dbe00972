-- The parts of a pre-release and of build metadata are ordered as their keys are.
use Rattle.semver.specs.Order.{build_part_cmp, numeric_len, part_class, pre_part_cmp, value_len, without_zeros}
use Rattle.std.proofs.Common.{◌≡◌, ℕ, List, map, Bor, refl, ◌∙◌, ap}
use Rattle.std.specs.Cmp.Derive.Mapped.{lex_map}
use Rattle.std.specs.Cmp.Lexicographic.{slice_cmp}
use Rattle.std.specs.Ordering.{nat_cmp, ordering_then}
use Rattle.std.specs.declared.cmp.Ordering.{Ordering}
use Rattle.std.specs.declared.cmp.Ordering.TheVariants.{Less, Equal, Greater}

abbrev pub PreKey : Type 0
PreKey = ℕ × ℕ × List ℕ

abbrev pub BuildKey : Type 0
BuildKey = ℕ × ℕ × List ℕ × ℕ

abbrev pub pre_key_of : List ℕ → PreKey
pre_key_of part = (part_class part, numeric_len part, part)

abbrev pub build_key_of : List ℕ → BuildKey
build_key_of part = (part_class part, value_len part, without_zeros part, numeric_len part)

-- the key that a part is given, with the text behind the reference
abbrev pub pre_key_view : ℕ × ℕ × Bor (List ℕ) → PreKey
pre_key_view k = (k.0, k.1, k.2.now)

abbrev pub build_key_view : ℕ × ℕ × Bor (List ℕ) × ℕ → BuildKey
build_key_view k = (k.0, k.1, k.2.now, k.3)

-- the order of tuples, field by field
abbrev pub pre_key_cmp : PreKey → PreKey → Ordering
pre_key_cmp x y = ordering_then (ordering_then (nat_cmp x.0 y.0) (nat_cmp x.1 y.1)) (slice_cmp nat_cmp x.2 y.2)

abbrev pub build_key_cmp : BuildKey → BuildKey → Ordering
build_key_cmp x y =
    ordering_then (ordering_then (ordering_then (nat_cmp x.0 y.0) (nat_cmp x.1 y.1)) (slice_cmp nat_cmp x.2 y.2)) (nat_cmp x.3 y.3)

then_assoc : (a b c : Ordering) → ordering_then (ordering_then a b) c ≡ ordering_then a (ordering_then b c)
then_assoc Less b c = refl
then_assoc Equal b c = refl
then_assoc Greater b c = refl

pre_part_by_key : (x y : List ℕ) → pre_key_cmp (pre_key_of x) (pre_key_of y) ≡ pre_part_cmp x y
pre_part_by_key x y = then_assoc (nat_cmp (part_class x) (part_class y)) (nat_cmp (numeric_len x) (numeric_len y)) (slice_cmp nat_cmp x y)

build_part_by_key : (x y : List ℕ) → build_key_cmp (build_key_of x) (build_key_of y) ≡ build_part_cmp x y
build_part_by_key x y =
    let class = nat_cmp (part_class x) (part_class y) in
    let digits = nat_cmp (value_len x) (value_len y) in
    let value = slice_cmp nat_cmp (without_zeros x) (without_zeros y) in
    let zeros = nat_cmp (numeric_len x) (numeric_len y) in
    then_assoc (ordering_then class digits) value zeros ∙ then_assoc class digits (ordering_then value zeros)

pub pre_by_keys : (xs ys : List (List ℕ)) → slice_cmp pre_key_cmp (map pre_key_of xs) (map pre_key_of ys) ≡ slice_cmp pre_part_cmp xs ys
pre_by_keys xs ys = lex_map pre_key_of pre_key_cmp xs ys ∙ ap (λ R. slice_cmp R xs ys) (λ i x y. pre_part_by_key x y i)

pub build_by_keys : (xs ys : List (List ℕ)) → slice_cmp build_key_cmp (map build_key_of xs) (map build_key_of ys) ≡ slice_cmp build_part_cmp xs ys
build_by_keys xs ys = lex_map build_key_of build_key_cmp xs ys ∙ ap (λ R. slice_cmp R xs ys) (λ i x y. build_part_by_key x y i)
