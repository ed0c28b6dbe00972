use Rattle.std.proofs.Common.{◌<◌, ◌^◌, arith}
use Rattle.kube_types.proofs.Quantity.Zeros.{few_zeros, zero_out}
use Rattle.kube_types.proofs.quantities.normal.without_trailing_zeros.Goals as goal

pub overflow_add-zeros : goal.overflow_add-zeros
overflow_add-zeros c =
    let bound : c.args.size < 2 ^ 128 = omega arith in
    let few = few_zeros c.args.size c.loop-rest.rest c.loop-rest.zeros bound c.loop-rest.invariant.positive c.loop-rest.invariant.product in
    omega (arith, few)

pub loop-rest-preserved : goal.loop-rest-preserved
loop-rest-preserved c = record {
  product = zero_out c.args.size c.loop-rest.rest c.loop-rest.zeros c.loop-rest.invariant.product c.loop-rest-test.true;
  positive = omega arith;
}

pub returns-clause-few : goal.returns-clause-few
returns-clause-few c =
    let bound : c.args.size < 2 ^ 128 = omega arith in
    few_zeros c.args.size c.loop-rest.rest c.loop-rest.zeros bound c.loop-rest.invariant.positive c.loop-rest.invariant.product
