use Rattle.std.proofs.Common.{◌≡◌, ◌∙◌, Err, ap, subst, sym}
use Rattle.std.specs.Result.{result_ok}
use Rattle.base64.specs.Engines.{standard}
use Rattle.base64.specs.GeneralPurpose.{decode_of, IsDecodeFailure}
use Rattle.kube_functions_strings.specs.Encoders.{decoded_bytes}
use Rattle.kube_functions_strings.proofs.encoders.decoded_bytes.Goals as goal

pub returns-in-Ok : goal.returns-in-Ok
unfolding decoded_bytes
returns-in-Ok c = sym (ap (λ s. result_ok (decode_of standard s)) (sym c.as_bytes.ensures.value) ∙ ap result_ok c.in-Ok.ensures.ok)

pub returns-in-Err-DecodeError : goal.returns-in-Err-DecodeError
unfolding decoded_bytes
returns-in-Err-DecodeError c =
    let s = c.as_bytes.result.now in
    let failed : decode_of standard s ≡ Err c.in-Err-DecodeError.field-0-0 =
    subst (IsDecodeFailure standard s) c.in-Err-DecodeError.field-0-is c.in-Err-DecodeError.ensures.err in
    sym (ap (λ t. result_ok (decode_of standard t)) (sym c.as_bytes.ensures.value) ∙ ap result_ok failed)
