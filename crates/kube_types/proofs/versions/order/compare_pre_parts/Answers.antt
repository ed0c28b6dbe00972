use Rattle.semver.specs.Order.{parts}
use Rattle.std.proofs.Common.{◌≡◌, lit<, refl, ap, ◌∙◌, rules}
use Rattle.std.proofs.lemmas.Iterator.{YieldsList-from_map_by}
use Rattle.std.proofs.lemmas.Iterator.Search.{cmp_from_yields_List}
use Rattle.std.proofs.lemmas.Iterator.Splits.{YieldsList-from_str_split}
use Rattle.std.specs.Iterator.Adapters.{map_source, map_callee}
use Rattle.std.specs.Str.Iter.{split_text, split_has_more, split_pattern}
use Rattle.kube_types.proofs.Version.Keys.{pre_key_of, pre_key_cmp, pre_key_view, pre_by_keys}
use Rattle.kube_types.proofs.versions.order.compare_pre_parts.Goals as goal

pub returns : goal.returns
returns c =
    cmp_from_yields_List (λ x y. y ≡ x) _ pre_key_cmp _ c.cmp.ensures.ran
    (YieldsList-from_map_by _ pre_key_view pre_key_of
    (YieldsList-from_str_split 46 c.args.left.now (lit< tt) (ap split_text c.map-left.ensures.source ∙ c.split.ensures.text)
    (ap split_has_more c.map-left.ensures.source ∙ c.split.ensures.has_more) (ap split_pattern c.map-left.ensures.source ∙ c.split.ensures.pattern))
    c.map-left.ensures.closure (λ x r q k. search rules))
    (λ it e. YieldsList-from_map_by _ pre_key_view pre_key_of
    (YieldsList-from_str_split 46 c.args.right.now (lit< tt) (ap (λ m. split_text (map_source m)) e ∙ ap split_text c.map.ensures.source ∙ c.split-2.ensures.text)
    (ap (λ m. split_has_more (map_source m)) e ∙ ap split_has_more c.map.ensures.source ∙ c.split-2.ensures.has_more)
    (ap (λ m. split_pattern (map_source m)) e ∙ ap split_pattern c.map.ensures.source ∙ c.split-2.ensures.pattern))
    (ap map_callee e ∙ c.map.ensures.closure) (λ x r q k. search rules))
    (λ x y. refl)
    ∙ pre_by_keys (parts c.args.left.now) (parts c.args.right.now)
