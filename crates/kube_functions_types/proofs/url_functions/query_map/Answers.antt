use Rattle.kube_functions_types.specs.Url.{query_pairs}
use Rattle.kube_types.specs.Url.Shown.{url_view}
use Rattle.kube_functions_types.proofs.url_functions.query_map.Goals as goal

pub returns : goal.returns
returns c = record {
  value = c.in_ok-entries.ensures.value (query_pairs (url_view c.args.url.now)) c.in_ok-query.ensures.answer;
}
