use Rattle.std.proofs.Common.{◌++◌, [], ◌∷◌, map, ap, ◌∙◌, sym}
use Rattle.std.proofs.lemmas.List.{map-append}
use Rattle.cel_patterns.proofs.Books.{Extends-trans}
use Rattle.kube_manifests_review.proofs.Books.{due_more}
use Rattle.kube_manifests_review.proofs.review.due.Goals as goal
use Rattle.kube_manifests_review.specs.Candidates.{candidate_view, due, finding_view, due_finding}

pub loop-candidate-init : goal.loop-candidate-init
unfolding due
loop-candidate-init c = record {
  keeps = λ b h. h;
  found = λ b h. ap (map finding_view) c.new-found.ensures.items;
}

pub loop-candidate-preserved : goal.loop-candidate-preserved
loop-candidate-preserved c =
    let l = c.loop-candidate in
    let d = c.in-Some.candidate in record {
      keeps = λ b h. l.invariant.keeps b (Extends-trans h c.add_due.ensures.keeps);
      found = λ b h. c.in_ok-add_due.ensures.value.under b h ∙ ap (λ xs. xs ++ due_finding b (candidate_view d)) (l.invariant.found b (Extends-trans h c.add_due.ensures.keeps))
          ∙ due_more (map candidate_view l.yielded) (candidate_view d) b ∙ ap (λ ds. due ds b) (sym (map-append candidate_view l.yielded (d ∷ [])));
    }
