use Rattle.cel_patterns.proofs.Books.{Extends-trans}
use Rattle.kube_cel_vap.proofs.Listed.{one_more_seen}
use Rattle.kube_manifests_documents.proofs.Entries.{no_item}
use Rattle.kube_manifests_policies.proofs.reports.results_as.Goals as goal
use Rattle.kube_manifests_policies.specs.Reports.{result_as, results_as}
use Rattle.kube_manifests_documents.specs.Policies.{item_view}
use Rattle.kube_manifests_policies.specs.Scopes.{outcome_or_reason, scope_view}
use Rattle.kube_manifests_policies.specs.Verdicts.{result_view}
use Rattle.std.proofs.Common.{◌<◌, length, get_or, map, arith, take_all, ap, ◌∙◌}
use Rattle.std.proofs.lemmas.List.{get_or_default}

pub loop-item-preserved : goal.loop-item-preserved
loop-item-preserved c = record {
  keeps = Extends-trans c.in_ok-judged.ensures.keeps c.loop-item.invariant.keeps;
  reported = λ b h.
      let items = c.args.items.now in
      let i = c.loop-item.item-index in
      let below : i < length items = omega arith in
      let x = get_or items i no_item in
      one_more_seen result_view (result_as c.args.subject (outcome_or_reason b (scope_view c.args.scope.now))) item_view c.loop-item.results.items c.push.new.self.items c.in_ok-judged.judged
      items i x c.in_ok-push.ensures.items
      (c.loop-item.invariant.reported b (Extends-trans h c.in_ok-judged.ensures.keeps)) (c.in_ok-judged.ensures.reported.under b h) below (get_or_default items i no_item x below);
}

pub returns-clause-reported : goal.returns-clause-reported
unfolding results_as
returns-clause-reported c = record {
  under = λ b h.
      c.loop-item.invariant.reported b h
      ∙ ap (λ xs. map (result_as c.args.subject (outcome_or_reason b (scope_view c.args.scope.now))) (map item_view xs)) (take_all c.loop-item.item-index c.args.items.now c.loop-item-test.false);
}
