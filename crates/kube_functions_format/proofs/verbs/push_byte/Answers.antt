use Rattle.std.proofs.Common.{◌∙◌, ◌<◌, true, false, Some, OnOk, ap, subst, sym, string_bytes, arith}
use Rattle.std.specs.Fmt.{AppendsText}
use Rattle.kube_functions_format.specs.Verbs.{byte_digits}
use Rattle.kube_functions_format.proofs.Bytes.{two_digits}
use Rattle.kube_functions_format.proofs.verbs.push_byte.Goals as goal

pub returns-then-upper : goal.returns-then-upper
returns-then-upper c =
    let small : c.args.byte < 256 = omega arith in
    let written = two_digits c.in_radix.result c.laid_out.result true c.args.byte small c.laid_out.ensures c.in_radix.ensures ∙ ap (λ u. Some (byte_digits u c.args.byte)) (sym c.if-upper.true) in
    subst (λ o. OnOk c.write.result (AppendsText (string_bytes c.args.out.now) (string_bytes c.write.new.self) o)) written c.write.ensures.bytes

pub returns-else-upper : goal.returns-else-upper
returns-else-upper c =
    let small : c.args.byte < 256 = omega arith in
    let written = two_digits c.in_radix-else-upper.result c.laid_out-else-upper.result false c.args.byte small c.laid_out-else-upper.ensures c.in_radix-else-upper.ensures ∙ ap (λ u. Some (byte_digits u c.args.byte)) (sym c.if-upper.false) in
    subst (λ o. OnOk c.write-else-upper.result (AppendsText (string_bytes c.args.out.now) (string_bytes c.write-else-upper.new.self) o)) written c.write-else-upper.ensures.bytes
