use Rattle.std.proofs.Common.{◌≡◌, ℕ, ◌++◌, List, ◌∙◌, ap, ℤ, pos, ◌+ℤ◌, ◌*ℤ◌, FitsSigned, arith}
use Rattle.std.specs.Int.{w16}
use Rattle.std.specs.String.{string_bytes}
use Rattle.std.proofs.lemmas.Int.{ints, to_z-of_z}
use Rattle.jiff_core.specs.Calendar.{days_from_civil}
use Rattle.jiff_core.proofs.SignedLemmas.{signed_arith}
use Rattle.cel_value_times.specs.Ranges.{local_second}
use Rattle.cel_value_times.specs.TimestampTexts.{local_text, local_at, nanoseconds_text, offset_text, IsPrintedTimestamp}
use Rattle.cel_value_times.proofs.PrintLemmas.{printed_is}
use Rattle.cel_value_times.proofs.TextFunctionLemmas.{printed_function}
use Rattle.cel_value_times.proofs.timestamp.Timestamp.text.Goals as goal

pub returns : goal.returns
returns c =
    let t = c.args.self.now in
    let clock = c.day_and_second-number.result in
    let date = c.date_of-year.result in
    let local = local_text (local_at date.0 date.1 date.2 clock.1) 84 in
    let fits : FitsSigned w16 t.offset_minutes = omega (arith, signed_arith) in
    let number : days_from_civil (pos date.0) date.1 date.2 ≡ clock.0 = omega (arith, ints) in
    let whole : clock.0 *ℤ pos 86_400 +ℤ pos clock.1 ≡ local_second t.seconds t.offset_minutes = omega (arith, ints) in
    let first : string_bytes c.write_local.new.out ≡ string_bytes c.new-out.result ++ local = c.in_ok-write_local.ensures in
    let second : string_bytes c.write_nanoseconds.new.out ≡ string_bytes c.write_local.new.out ++ nanoseconds_text t.nanoseconds = c.in_ok-write_nanoseconds.ensures in
    let third : string_bytes c.write_offset.new.out ≡ string_bytes c.write_nanoseconds.new.out ++ offset_text t.offset_minutes = c.in_ok-write_offset.ensures ∙ ap (λ (z : ℤ). string_bytes c.write_nanoseconds.new.out ++ offset_text z) (to_z-of_z w16 t.offset_minutes fits) in
    let printed : IsPrintedTimestamp (string_bytes c.write_offset.new.out) t.seconds t.nanoseconds t.offset_minutes =
    printed_is (string_bytes c.write_offset.new.out) t.seconds t.nanoseconds t.offset_minutes clock.0 date.0 date.1 date.2 clock.1
    c.date_of-year.ensures.date c.date_of-year.ensures.from number c.day_and_second-number.ensures.second whole
    (third ∙ ap (λ (r : List ℕ). r ++ offset_text t.offset_minutes) (second ∙ ap (λ (r : List ℕ). r ++ nanoseconds_text t.nanoseconds) (first ∙ ap (λ (r : List ℕ). r ++ local) c.new-out.ensures.bytes))) in
    record {
      text = printed;
      function = printed_function (string_bytes c.write_offset.new.out) t.seconds t.nanoseconds t.offset_minutes (omega arith) printed;
      memory = tt;
    }
