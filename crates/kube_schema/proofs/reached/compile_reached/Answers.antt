use Rattle.std.proofs.Common.{◌<◌, sym, ap, ◌∙◌, subst}
use Rattle.kube_schema.specs.Source.{source_own}
use Rattle.kube_schema.specs.Shown.{whole}
use Rattle.kube_schema.specs.Tree.{count}
use Rattle.kube_schema.proofs.Kept.{same_default, same_known, same_length, same_tree}
use Rattle.kube_schema.proofs.reached.compile_reached.Goals as goal

pub invariant_of-schema : goal.invariant_of-schema
invariant_of-schema c =
    let s = c.args.schema.now in
    let t = s.table.nodes.items in
    let u = c.compile_marked.new.table.nodes.items in
    let e = c.compile_marked.ensures.same in record {
      known = s.known ∙ sym (same_default source_own source_own t u e);
      rooted = subst (λ n. 0 < n) (sym (same_length source_own source_own t u e)) s.rooted;
      without_rules = same_known source_own source_own t u e s.below.items s.without_rules;
      counted = same_length source_own source_own t u e ∙ s.counted ∙ sym (ap count (same_tree source_own source_own t u e 0));
    }

pub returns-clause-same : goal.returns-clause-same
unfolding whole
returns-clause-same c = same_tree source_own source_own c.args.schema.now.table.nodes.items c.compile_marked.new.table.nodes.items c.compile_marked.ensures.same 0

pub returns-in_err-compile_marked-clause-same : goal.returns-in_err-compile_marked-clause-same
unfolding whole
returns-in_err-compile_marked-clause-same c = same_tree source_own source_own c.args.schema.now.table.nodes.items c.compile_marked.new.table.nodes.items c.compile_marked.ensures.same 0
