use Rattle.serde_json.specs.View.{view}
use Rattle.kube_schema.proofs.Build.{own_same}
use Rattle.kube_schema.proofs.keywords.keywords_with.Goals as goal

pub returns-clause-keywords : goal.returns-clause-keywords
returns-clause-keywords c =
    own_same (record {
      validations = c.in_ok-validations.validations;
      format = c.format_of.result;
      is_map = c.is_map.result;
      preserve_unknown_fields = c.preserves.result;
      embedded_resource = c.is_embedded.result;
      max_length = c.limit.result;
      max_items = c.limit-2.result;
      max_properties = c.limit-3.result;
      default = c.in_ok-default.default;
    }) (view c.args.schema.now) _ c.in_ok-validations.ensures.rules c.format_of.ensures c.is_map.ensures c.preserves.ensures c.is_embedded.ensures c.limit.ensures c.limit-2.ensures c.limit-3.ensures c.in_ok-default.ensures
