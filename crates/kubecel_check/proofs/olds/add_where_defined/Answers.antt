use Rattle.kube_manifests.specs.Sets.{set_view}
use Rattle.kubecel_check.proofs.HeldFiles.{is_as_it_was, is_where_defined}
use Rattle.kubecel_check.proofs.olds.add_where_defined.Goals as goal
use Rattle.kubecel_io.specs.Subjects.{subject_view}
use Rattle.std.proofs.Common.{sym, ◌∙◌}

pub returns-then-not-is_defined : goal.returns-then-not-is_defined
returns-then-not-is_defined c =
    is_as_it_was c.args.held.now (set_view c.args.set.now) (subject_view c.args.old.now) (sym c.is_defined.ensures ∙ c.if-not-is_defined.true)

pub returns : goal.returns
returns c =
    is_where_defined c.args.held.now c.insert_text.new.texts (set_view c.args.set.now) (subject_view c.args.old.now) c.insert_text.result (sym c.is_defined.ensures ∙ c.if-not-is_defined.false)
    c.insert_text.ensures.added
