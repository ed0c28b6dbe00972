-- Times and zones that are too short.
use Rattle.std.proofs.Common.{◌≡◌, ℕ, ◌+◌, ◌<◌, ◌≤◌, false, List, length, take, None, option_map, refl, sym, ap, codes, arith}
use Rattle.std.proofs.lemmas.List.{take_all}
use Rattle.kube_types_formats.specs.Forms.{fits}
use Rattle.kube_types_formats.specs.Dates.{is_clock, last_sign}
use Rattle.kube_types_formats.proofs.FormLemmas.{fits_lengths}
use Rattle.kube_types_formats.proofs.OffsetLemmas.{last_offset_end}

pub short_clock : (text : List ℕ) → length text < 8 → is_clock (take 8 text) ≡ false
unfolding is_clock
short_clock text h =
    let few : length text ≤ 8 = omega arith in
    let whole : take 8 text ≡ text = take_all 8 text few in
    let other : fits (codes "dd:dd:dd") text ≡ false = fits_lengths (codes "dd:dd:dd") text (λ same. let eight : 8 ≡ length text = same in omega arith) in
    rw (whole, other) refl

pub short_sign : (rest : List ℕ) → length rest < 2 → None ≡ last_sign rest
short_sign rest h =
    let few : length rest ≤ 2 = omega arith in
    sym (ap (option_map (λ byte_offset. byte_offset + 2)) (last_offset_end (codes "+-") rest 2 few))
