use Rattle.std.proofs.Common.{ℕ, Vec, Global, sym, ap, ◌∙◌, subst}
use Rattle.base64.specs.Engines.{standard}
use Rattle.base64.specs.GeneralPurpose.{decode_of, IsDecodeFailure}
use Rattle.cel_value.specs.Data.{bytes}
use Rattle.kube_schema_values.proofs.Read.{decoded_read, decoded_unread, view_bytes}
use Rattle.kube_schema_values.proofs.format.bind_bytes.Goals as goal

pub returns-in_ok-new-in-Ok-clause-value : goal.returns-in_ok-new-in-Ok-clause-value
returns-in_ok-new-in-Ok-clause-value c =
    view_bytes c.in_ok-new-in-Ok.field-0 ∙ ap (λ (v : Vec ℕ Global). bytes v.items) c.in_ok-new-in-Ok.ensures.ok
    ∙ decoded_read c.args.chars.now c.in-Ok.bytes.items (ap (decode_of standard) (sym c.as_bytes.ensures.value) ∙ c.in-Ok.ensures.ok)

pub returns-in_ok-plain-in-Err-DecodeError-clause-value : goal.returns-in_ok-plain-in-Err-DecodeError-clause-value
returns-in_ok-plain-in-Err-DecodeError-clause-value c =
    let err = subst (IsDecodeFailure standard c.as_bytes.result.now) c.in-Err-DecodeError.field-0-is c.in-Err-DecodeError.ensures.err in
    c.in_ok-plain-in-Err-DecodeError.ensures.value ∙ decoded_unread c.args.chars.now c.in-Err-DecodeError.field-0-0 (ap (decode_of standard) (sym c.as_bytes.ensures.value) ∙ err)
