use Rattle.kube_types_formats.proofs.DateLemmas.{short_sign}
use Rattle.kube_types_formats.proofs.dates.last_sign.Goals as goal

pub returns-then-rest-lt2-clause-byte_offset : goal.returns-then-rest-lt2-clause-byte_offset
returns-then-rest-lt2-clause-byte_offset c = short_sign c.args.rest.now c.if-rest-lt2.true
