use Rattle.std.proofs.Common.{◌++◌, ◌-◌, List, ℕ, sym, ap, ◌∙◌}
use Rattle.std.proofs.lemmas.List.{append-nil}
use Rattle.std.specs.String.{string_bytes}
use Rattle.cel_value_times.proofs.DigitLemmas.{places_zero, pow_positive}
use Rattle.kube_server_times.proofs.decimals.+write_places.Goals as goal

pub returns-then-n-eq0 : goal.returns-then-n-eq0
returns-then-n-eq0 t c =
    let bytes = string_bytes c.args.out.now in
    sym (ap (λ (r : List ℕ). bytes ++ r) (places_zero c.args.places c.args.n c.if-n-eq0.true) ∙ append-nil bytes)

pub nonzero_div-n : goal.nonzero_div-n
nonzero_div-n t c = rw c.pow-place.ensures (pow_positive (c.args.places - 1))
