use Rattle.std.proofs.Common.{◌≡◌, sym, ap, ◌∙◌, arith}
use Rattle.kube_schema_values.specs.Escape.{escaped_text}
use Rattle.kube_schema_values.proofs.Escapes.{plain_text}
use Rattle.kube_schema_values.proofs.escaping.stays.Goals as goal

pub returns : goal.returns
returns c = λ e.
    let bs = c.as_bytes-byte-items.result.now in
    let is = c.as_bytes-byte-items.ensures.value in
    let own : escaped_text bs ≡ bs = plain_text bs (λ k l. c.loop-byte.invariant k (omega arith)) in
    ap escaped_text (sym is) ∙ own ∙ is
