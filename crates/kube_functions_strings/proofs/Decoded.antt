-- Whatever decodes is an encoding.
use Rattle.std.proofs.Common.{◌≡◌, List, ℕ, Option, Some, None, Ok, Err, refl, ap}
use Rattle.std.specs.Prelude.{Result}
use Rattle.std.specs.Result.{result_ok}
use Rattle.base64.proofs.EngineFacts.{decode_of_iff}
use Rattle.base64.specs.Engines.{standard}
use Rattle.kube_functions_strings.specs.Encoders.{encoded_text, decoded_bytes, DecodesEncodings}

from_some : {E : Type 0} (r : Result (List ℕ) E) (b : List ℕ) → result_ok r ≡ Some b → r ≡ Ok b
from_some (Ok x) b h = cc
from_some (Err e) b h = let none : ◌≡◌ {A = Option (List ℕ)} None (Some b) = h in absurd (cc)

pub decodes : DecodesEncodings
unfolding decoded_bytes encoded_text
decodes s b read written =
    let both = decode_of_iff standard s b (refl, refl) read written in
    (λ h. both.0 (from_some _ b h), λ e. ap result_ok (both.1 e))
