use Rattle.std.proofs.Common.{◌≡◌, ◌==◌, ◌&&◌, not, length, false, sym, ◌∙◌, ap, rules, tests}
use Rattle.std.proofs.lemmas.Iterator.{YieldsList-from_slice}
use Rattle.std.proofs.lemmas.Iterator.Search.{all_from_yields_List}
use Rattle.std.specs.Char.{is_ascii_digit}
use Rattle.std.specs.List.{list_all}
use Rattle.kube_types.proofs.versions.reading.is_number.Goals as goal

pub returns-then-not-is_empty : goal.returns-then-not-is_empty
returns-then-not-is_empty c =
    let digits = all_from_yields_List is_ascii_digit _ _ _ c.all.ensures.ran (YieldsList-from_slice c.args.part.now cc) (λ x b q k. search (rules, tests)) in
    let some : (length c.args.part.now == 0) ≡ false = sym c.is_empty.ensures ∙ c.if-not-is_empty.true in
    digits ∙ ap (λ none. not none && list_all is_ascii_digit c.args.part.now) (sym some)
