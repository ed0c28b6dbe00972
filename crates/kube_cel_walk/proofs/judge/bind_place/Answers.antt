use Rattle.cel.specs.Alike.{ReadAlike}
use Rattle.cel.specs.Bindings.{binding, bindings_of}
use Rattle.kube_cel_walk.proofs.ReadVerdicts.{OthersAlike, names_named, none_read}
use Rattle.kube_cel_walk.proofs.judge.bind_place.Goals as goal
use Rattle.kube_cel_walk.proofs.Judged.{placed}
use Rattle.kube_cel_walk.specs.Answers.{bound_at}
use Rattle.kube_cel_walk.specs.Visits.{visit_at}
use Rattle.kube_schema_rules.specs.Demands.{rules_read}
use Rattle.std.proofs.Common.{ℕ, List, [], Some, codes, sym, ap, ◌∙◌, subst}

pub returns : goal.returns
returns g c = record {
  bound = λ path.
      let s = visit_at g.N.Node.seen c.args.state.now path in
      let read = λ (x : List ℕ). rules_read x (g.N.Node.form.rules (g.N.Node.seen c.args.state.now.node)) in
      let value = c.args.rules.now.value_read ∙ ap (rules_read (codes "self")) c.requires.rules in
      let old = c.args.rules.now.old_read ∙ ap (rules_read (codes "oldSelf")) c.requires.rules in
      let e = bindings_of c.bind_name.new.context in
      let d = bound_at g.N.Node.form s s.value in
      let here = subst (λ p. ReadAlike p (binding (codes "self") e) (Some d)) value c.in_ok-bind_name.ensures.bound in
      let others : OthersAlike (codes "self") read (bindings_of c.args.context.now) [] = λ x other. subst (λ bs. ReadAlike (read x) (binding x bs) (binding x [])) (sym c.requires.unbound) (none_read (read x)) in
      let named = names_named read (codes "self") d e (bindings_of c.args.context.now) [] others here c.bind_name.ensures.others in
      placed g.N.Node.form read s (bindings_of c.bind_old.new.context) (bindings_of c.bind_root.new.context)
      (c.in_ok-bind_old.ensures.bound read _ path old named) c.in_ok-bind_root.ensures.bound;
}
