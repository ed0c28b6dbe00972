use Rattle.std.proofs.Common.{◌≡◌, Equal, Some, slice_get, rules, sym, ap, ◌∙◌}
use Rattle.std.proofs.lemmas.Fn.{always_returns_same}
use Rattle.std.proofs.lemmas.Option.{slice_get-get_or}
use Rattle.kube_schema.proofs.Search.{by_name, absent, present}
use Rattle.kube_schema.proofs.node.link_of.Goals as goal

pub returns-in-Ok-clause-leads : goal.returns-in-Ok-clause-leads
returns-in-Ok-clause-leads c =
    let ls = c.args.links.now in
    let k = c.args.name.now in
    let l = c.index-links-index.result in
    let there : slice_get ls c.in-Ok.index ≡ Some l = slice_get-get_or ls c.in-Ok.index l c.in-Ok.ensures.bound ∙ ap Some (sym c.index-links-index.is) in
    let equal : by_name k l ≡ Equal = ap (by_name k) c.index-links-index.is ∙ c.in-Ok.ensures.position (by_name k) (always_returns_same _ _ _ (λ a r g called. (search rules, search rules))) l in
    λ f. sym (present f k ls c.in-Ok.index l c.requires there equal)

pub returns-in-Ok-clause-stands : goal.returns-in-Ok-clause-stands
returns-in-Ok-clause-stands c =
    let l = c.index-links-index.result in
    (c.in-Ok.index, slice_get-get_or c.args.links.now c.in-Ok.index l c.in-Ok.ensures.bound ∙ ap Some (sym c.index-links-index.is))

pub returns-in-Err-clause-leads : goal.returns-in-Err-clause-leads
returns-in-Err-clause-leads c =
    let k = c.args.name.now in
    λ f. sym (absent f k c.args.links.now _ c.requires (c.in-Err.ensures.position (by_name k) (always_returns_same _ _ _ (λ a r g called. (search rules, search rules)))))
