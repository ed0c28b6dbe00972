-- Trusted by the clauses of other library calls.
-- Equality of URLs: they have the same text, and either both or neither were parsed from a path.
use Rattle.std.specs.Cmp.{IsEquivalence, on_equiv, and_equiv, bool_eq_equiv}
use Rattle.std.specs.Cmp.Lexicographic.{nat_list_eq_equiv}
use Rattle.std.specs.Prelude.{◌&&◌, Bool}
use Rattle.std.specs.Str.{bytes_eq}
use mathlib.Core.Bool.{beq}
use Rattle.kube_types.specs.Url.Shown.{Shown}

abbrev pub same_url : Shown → Shown → Bool
same_url u v = bytes_eq u.text v.text && beq u.is_path v.is_path

pub same_url_equiv : IsEquivalence same_url
same_url_equiv = and_equiv (on_equiv (λ (u : Shown). u.text) nat_list_eq_equiv)
    (on_equiv (λ (u : Shown). u.is_path) bool_eq_equiv)
