use Rattle.std.proofs.Common.{refl}
use Rattle.kube_manifests_review.proofs.laws.no_keyword_is_one_letter_off.Goals as goal
use Rattle.kube_manifests_review.specs.Keywords.{rule_fields, schema_fields}

pub returns-clause-keywords : goal.returns-clause-keywords
unfolding schema_fields
returns-clause-keywords c = refl

pub returns-clause-fields : goal.returns-clause-fields
unfolding rule_fields
returns-clause-fields c = refl
