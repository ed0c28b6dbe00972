-- Strings that are converted to timestamps, durations or bytes, or stay.
use Rattle.std.proofs.Common.{◌≡◌, ◌↔◌, ℕ, ℤ, List, Option, Some, None, Result, Ok, Err, refl, sym, ap}
use Rattle.std.specs.Option.{option_map_or}
use Rattle.std.specs.Result.{result_ok}
use Rattle.base64.proofs.EngineFacts.{decode_of_iff}
use Rattle.base64.specs.Engines.{standard}
use Rattle.base64.specs.GeneralPurpose.{decode_of, decoded_of, encode_of, IsBytes, IsStrict}
use Rattle.base64.specs.declared.decode.DecodeError.{DecodeError}
use Rattle.cel_value.specs.Data.{text, bytes, timestamp, duration}
use Rattle.cel_value.specs.View.{view}
use Rattle.cel_value.specs.declared.value.Value.TheVariants as value
use Rattle.cel_value.specs.Instants.{instant}
use Rattle.cel_value.specs.TextFunctions.{duration_of, timestamp_of}
use Rattle.kube_schema_values.specs.Formats.{bytes_or_text, duration_or_text, timestamp_or_text}

-- ---- values of these kinds

pub view_timestamp : (t : _) → view (value.Timestamp t) ≡ timestamp (instant t) t.offset_minutes
view_timestamp t = refl

pub view_duration : (d : _) → view (value.Duration d) ≡ duration d.nanoseconds
view_duration d = refl

pub view_bytes : (b : _) → view (value.Bytes b) ≡ bytes b.value.items
view_bytes b = refl

-- ---- texts

pub timed_read : (s : List ℕ) (instant offset : ℤ) → ◌≡◌ {A = Option (ℤ × ℤ)} (Some (instant, offset)) (timestamp_of s) → timestamp instant offset ≡ timestamp_or_text s
unfolding timestamp_or_text
timed_read s instant offset e = ap (λ r. option_map_or (λ t. timestamp t.0 t.1) r (text s)) e

pub timed_unread : (s : List ℕ) → ◌≡◌ {A = Option (ℤ × ℤ)} None (timestamp_of s) → text s ≡ timestamp_or_text s
unfolding timestamp_or_text
timed_unread s e = ap (λ r. option_map_or (λ t. timestamp t.0 t.1) r (text s)) e

pub lasting_read : (s : List ℕ) (n : ℤ) → Some n ≡ duration_of s → duration n ≡ duration_or_text s
unfolding duration_or_text
lasting_read s n e = ap (λ r. option_map_or duration r (text s)) e

pub lasting_unread : (s : List ℕ) → None ≡ duration_of s → text s ≡ duration_or_text s
unfolding duration_or_text
lasting_unread s e = ap (λ r. option_map_or duration r (text s)) e

pub decoded_read : (s b : List ℕ) → decode_of standard s ≡ Ok b → bytes b ≡ bytes_or_text s
unfolding bytes_or_text decoded_of
decoded_read s b e = ap (λ r. option_map_or bytes (result_ok r) (text s)) (sym e)

pub decoded_unread : (s : List ℕ) (f : DecodeError) → decode_of standard s ≡ Err f → text s ≡ bytes_or_text s
unfolding bytes_or_text decoded_of
decoded_unread s f e = ap (λ r. option_map_or bytes (result_ok r) (text s)) (sym e)

was_read : (r : Result (List ℕ) DecodeError) (s b : List ℕ) → option_map_or bytes (result_ok r) (text s) ≡ bytes b → r ≡ Ok b
was_read (Ok a) s b e = let same : a ≡ b = cc in ap Ok same
was_read (Err f) s b e = absurd cc

strict : IsStrict standard
strict = (refl, refl)

pub decoded_bytes : (s b : List ℕ) → IsBytes s → IsBytes b → (bytes_or_text s ≡ bytes b) ↔ (s ≡ encode_of standard b)
unfolding bytes_or_text decoded_of
decoded_bytes s b within bounded =
    let read = decode_of_iff standard s b strict within bounded in
    (λ e. read.0 (was_read (decode_of standard s) s b e), λ e. sym (decoded_read s b (read.1 e)))
