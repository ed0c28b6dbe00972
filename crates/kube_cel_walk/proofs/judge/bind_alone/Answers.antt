use Rattle.cel.specs.Alike.{ReadAlike}
use Rattle.cel.specs.Bindings.{binding, bindings_of}
use Rattle.kube_cel_walk.proofs.ReadVerdicts.{OthersAlike, names_named, unbound_read}
use Rattle.kube_cel_walk.proofs.judge.bind_alone.Goals as goal
use Rattle.kube_cel_walk.proofs.Judged.{alone}
use Rattle.kube_cel_walk.specs.Answers.{bound_at}
use Rattle.kube_cel_walk.specs.Roots.{root_view}
use Rattle.kube_cel_walk.specs.Visits.{visit_at}
use Rattle.kube_schema_rules.specs.Demands.{rules_read}
use Rattle.serde_json.specs.View.{view}
use Rattle.std.proofs.Common.{ℕ, List, [], Some, is_some, codes, option_map, ap, ◌∙◌, subst}

pub returns : goal.returns
returns g c = record {
  bound = λ path.
      let s = visit_at g.N.Node.seen c.args.state.now path in
      let read = λ (x : List ℕ). rules_read x (g.N.Node.form.rules (g.N.Node.seen c.args.state.now.node)) in
      let value = c.args.rules.now.value_read ∙ ap (rules_read (codes "self")) c.requires.rules in
      let e = bindings_of c.rebind_name.new.context in
      let d = bound_at g.N.Node.form s s.value in
      let here = subst (λ p. ReadAlike p (binding (codes "self") e) (Some d)) value c.in_ok-rebind_name.ensures.bound in
      let others : OthersAlike (codes "self") read (bindings_of c.args.kept.now.context) [] = λ x other. unbound_read (read x) (binding x (bindings_of c.args.kept.now.context)) (c.args.kept.now.only_self x other) in
      let named = names_named read (codes "self") d e (bindings_of c.args.kept.now.context) [] others here c.rebind_name.ensures.others in
      alone g.N.Node.form read s e (ap (option_map (λ v. view v.now)) c.requires.alone.0) (ap (option_map (λ r. root_view r.now)) c.requires.alone.1) named;
}

pub invariant_of-kept : goal.invariant_of-kept
invariant_of-kept g c = record { only_self = λ x other. ap is_some (c.rebind_name.ensures.others x other) ∙ c.args.kept.now.only_self x other }
