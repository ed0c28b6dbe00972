-- The order of steps is total.
use Rattle.std.specs.Cmp.{IsTotalOrder}
use Rattle.std.proofs.lemmas.Cmp.{nat_list_cmp_total, nat_cmp_total, on_total, then_total}
use Rattle.kube_schema_rules.specs.Step.{step_cmp, step_rank, step_content}

pub step_total : IsTotalOrder step_cmp
step_total = then_total (on_total step_rank nat_cmp_total) (on_total step_content nat_list_cmp_total)
