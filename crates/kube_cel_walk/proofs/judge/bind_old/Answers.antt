use Rattle.cel.specs.Alike.{NamesAlike, ReadAlike}
use Rattle.cel.specs.Bindings.{binding, bindings_of}
use Rattle.kube_cel_walk.proofs.ReadVerdicts.{names_named}
use Rattle.kube_cel_walk.specs.Answers.{bound_at}
use Rattle.kube_cel_walk.specs.Verdicts.{with_old}
use Rattle.kube_cel_walk.specs.Visits.{visit_at}
use Rattle.kube_cel_walk.proofs.judge.bind_old.Goals as goal
use Rattle.serde_json.specs.View.{view}
use Rattle.std.proofs.Common.{Some, codes, option_map, sym, subst}

pub returns : goal.returns
returns g c = record {
  bound = λ read f path is h.
      let s = visit_at g.N.Node.seen c.args.state.now path in
      let e = bindings_of c.bind_name.new.context in
      let d = bound_at g.N.Node.form s (view c.in-Some.old.now) in
      let here = subst (λ p. ReadAlike p (binding (codes "oldSelf") e) (Some d)) is c.in_ok-bind_name.ensures.bound in
      let named = names_named read (codes "oldSelf") d e (bindings_of c.args.context.now) f (λ x other. h x) here c.bind_name.ensures.others in
      subst (λ o. NamesAlike read e (with_old (option_map (bound_at g.N.Node.form s) (option_map (λ v. view v.now) o)) f)) (sym c.in-Some.is) named;
}
