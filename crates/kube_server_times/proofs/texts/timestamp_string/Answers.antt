use Rattle.std.proofs.Common.{◌∙◌, ap, Ok}
use Rattle.cel_value.specs.Data.{text}
use Rattle.kube_server_times.proofs.Dates.{moment_is}
use Rattle.kube_server_times.proofs.texts.timestamp_string.Goals as goal

pub returns : goal.returns
returns c =
    let m = c.args.moment in
    let printed = c.in_ok-moment_text.ensures.value ∙ moment_is m.seconds m.nanoseconds m.offset_minutes m.within_second in
    let shown = c.in_ok-from_text.ensures.value ∙ ap text printed in
    record { value = λ i. Ok (shown i) }
