use Rattle.kubecel_io.proofs.Distinct.{text_invalid, text_repeats, text_unique}
use Rattle.kubecel_io.proofs.unique.has_unique_keys.Goals as goal
use Rattle.std.proofs.Common.{Err, ap}

pub returns-in-Ok : goal.returns-in-Ok
returns-in-Ok c = text_unique c.args.text.now c.in-Ok.ensures.unique

pub returns-in-Err-Invalid : goal.returns-in-Err-Invalid
returns-in-Err-Invalid c = text_invalid c.args.text.now (c.in-Err-Invalid.ensures.invalid (ap Err c.in-Err-Invalid.field-0-is))

pub returns-in-Err-DuplicateKey : goal.returns-in-Err-DuplicateKey
returns-in-Err-DuplicateKey c = text_repeats c.args.text.now (c.in-Err-DuplicateKey.ensures.duplicate (ap Err c.in-Err-DuplicateKey.field-0-is))
