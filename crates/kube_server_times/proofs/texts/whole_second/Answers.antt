use Rattle.std.proofs.Common.{◌≡◌, ◌∙◌, ap, take, rules, ℤ, pos, ◌+ℤ◌, ◌*ℤ◌, to_z, of_z}
use Rattle.std.specs.Int.{w16, w64}
use Rattle.cel_value.specs.TextFunctions.{timestamp_text}
use Rattle.kube_server_times.proofs.Dates.{whole_text}
use Rattle.kube_server_times.proofs.texts.whole_second.Goals as goal

pub returns-clause-second : goal.returns-clause-second
returns-clause-second c =
    let s = c.args.moment.seconds in
    let o = c.args.moment.offset_minutes in
    let seconds : to_z w64 (of_z w64 s) ≡ s = search rules in
    let offset : to_z w16 (of_z w16 o) ≡ o = search rules in
    let stored = ap (λ (z : ℤ). timestamp_text (z *ℤ pos 1_000_000_000 +ℤ pos 0) (to_z w16 (of_z w16 o))) seconds in
    let stored_offset = ap (λ (z : ℤ). timestamp_text (s *ℤ pos 1_000_000_000 +ℤ pos 0) z) offset in
    c.in_ok-offset.ensures.bytes ∙ ap (take 19) (c.in_ok-text.ensures.function ∙ (stored ∙ (stored_offset ∙ whole_text s o)))
