-- The two digits that `{:02x}` and `{:02X}` write for a byte.
use Rattle.std.proofs.Common.{◌≡◌, ℕ, ◌-◌, ◌^◌, ◌<◌, Bool, false, [], Some, ap, ◌∙◌, option_map}
use Rattle.std.specs.Fmt.{digits, digits_output, styled_digits_output, padded_integral, format_spec}
use Rattle.std.proofs.lemmas.Fmt.{hex_byte}
use Rattle.kube_functions_format.specs.Verbs.{byte_digits}

pub two_digits : (d : _) (s : _) (upper : Bool) (b : ℕ) → b < 256 → s ≡ format_spec 32 0 4 2 (2 ^ 64 - 1) → digits_output d ≡ Some (digits 16 upper b) → styled_digits_output d s ≡ Some (byte_digits upper b)
two_digits d s upper b small e h =
    ap (styled_digits_output d) e
    ∙ ap (option_map (padded_integral (format_spec 32 0 4 2 (2 ^ 64 - 1)) false [])) h
    ∙ ap Some (hex_byte upper b small)
