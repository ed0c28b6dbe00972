use Rattle.std.proofs.Common.{◌∙◌, sym, ap, arith, map}
use Rattle.std.specs.Prelude.{max}
use Rattle.kube_server_syntax.specs.Grammar.{level, highest}
use Rattle.kube_server_syntax.specs.Tree.{trees_of, tree}
use Rattle.kube_server_parser.specs.Trees.{target_view, arguments_view}
use Rattle.kube_server_parser.proofs.Levels.{trees_with, max_more}
use Rattle.kube_server_parser.proofs.calls.with_argument.Goals as goal

pub invariant_of-result : goal.invariant_of-result
invariant_of-result c = record {
  known = c.max.ensures ∙ ap (λ k. max k c.args.argument.level) c.args.call.known
      ∙ ap (λ k. max (max (highest (target_view c.args.call.target)) (highest (arguments_view c.args.call.arguments))) k) c.args.argument.known
      ∙ sym (max_more (highest (target_view c.args.call.target)) (highest (arguments_view c.args.call.arguments)) (level (tree c.args.argument.node)))
      ∙ sym (ap (λ k. max (highest (target_view c.args.call.target)) k)
      (ap (λ xs. highest (trees_of (map tree xs))) c.in_ok-arguments.ensures ∙ trees_with c.args.call.arguments.items c.args.argument.node));
  within = let a = c.args.call.within in let b = c.args.argument.within in let e = c.max.ensures in omega arith;
}
