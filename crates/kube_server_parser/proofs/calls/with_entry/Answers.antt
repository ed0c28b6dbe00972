use Rattle.std.proofs.Common.{◌∙◌, sym, ap, arith, map}
use Rattle.std.specs.Prelude.{max}
use Rattle.kube_server_syntax.specs.Grammar.{level, level_of_entries}
use Rattle.kube_server_syntax.specs.Tree.{entries_of, tree}
use Rattle.kube_server_parser.specs.Trees.{entry_view, entries_view}
use Rattle.kube_server_parser.proofs.Levels.{entries_with}
use Rattle.kube_server_parser.proofs.calls.with_entry.Goals as goal

pub invariant_of-result : goal.invariant_of-result
invariant_of-result c = record {
  known = c.max.ensures ∙ ap (λ k. max k c.max-high.result) c.args.entries.known
      ∙ ap (λ k. max (level_of_entries (entries_view c.args.entries.entries)) k)
      (c.max-high.ensures ∙ ap (λ k. max k c.args.value.level) c.args.key.known ∙ ap (λ k. max (level (tree c.args.key.node)) k) c.args.value.known)
      ∙ sym (ap (λ xs. level_of_entries (entries_of (map entry_view xs))) c.in_ok-entries.ensures
      ∙ entries_with c.args.entries.entries.items c.args.is_optional c.args.key.node c.args.value.node);
  within = let a = c.args.entries.within in let b = c.args.key.within in let d = c.args.value.within in
      let e = c.max.ensures in let f = c.max-high.ensures in omega arith;
}
