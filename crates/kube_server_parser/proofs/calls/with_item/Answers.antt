use Rattle.std.proofs.Common.{◌∙◌, sym, ap, arith, map}
use Rattle.std.specs.Prelude.{max}
use Rattle.kube_server_syntax.specs.Grammar.{level_of_items}
use Rattle.kube_server_syntax.specs.Tree.{items_of}
use Rattle.kube_server_parser.specs.Trees.{item_view, items_view}
use Rattle.kube_server_parser.proofs.Levels.{items_with}
use Rattle.kube_server_parser.proofs.calls.with_item.Goals as goal

pub invariant_of-result : goal.invariant_of-result
invariant_of-result c = record {
  known = c.max.ensures ∙ ap (λ k. max k c.args.item.level) c.args.items.known
      ∙ ap (λ k. max (level_of_items (items_view c.args.items.items)) k) c.args.item.known
      ∙ sym (ap (λ xs. level_of_items (items_of (map item_view xs))) c.in_ok-items.ensures
      ∙ items_with c.args.items.items.items c.args.is_optional c.args.item.node);
  within = let a = c.args.items.within in let b = c.args.item.within in let e = c.max.ensures in omega arith;
}
