use Rattle.celcheck_cli.proofs.check.errors_of.Goals as goal
use Rattle.celcheck_cli.proofs.Reports.{lent_view}
use Rattle.kube_cel.specs.Answers.{IsReportOf}
use Rattle.kube_cel.specs.Raw.{raw_accessors}
use Rattle.kube_cel.specs.Starts.{defaulted_start}
use Rattle.serde_json.specs.View.{view}
use Rattle.std.proofs.Common.{None, option_map, subst, ap, ◌∙◌}

pub returns : goal.returns
returns g c =
    let lent = lent_view c.as_ref.result ∙ ap (option_map view) c.as_ref.ensures.value in
    record {
      schema = view c.in_ok-schema.schema;
      object = view c.in_ok-object.object;
      old = option_map view c.in_ok-old.old;
      with_schema = c.read_json.new.files;
      with_object = c.read_json-2.new.files;
      schema_read = c.in_ok-schema.ensures;
      object_read = c.in_ok-object.ensures;
      old_read = c.in_ok-old.ensures;
      reported = subst (λ o. IsReportOf raw_accessors (defaulted_start (view c.in_ok-schema.schema) (view c.in_ok-object.object) o None) c.in_ok-validation_of.field-0) lent c.in_ok-validation_of.ensures.answer;
    }
