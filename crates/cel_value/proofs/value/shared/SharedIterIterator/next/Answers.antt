use Rattle.std.proofs.Common.{arith, ◌+◌, ◌≡◌, ◌∷◌, suc, drop, length, refl, sym, ap, ◌∙◌}
use Rattle.std.specs.Prelude.{zip}
use Rattle.std.proofs.lemmas.Option.{slice_get_past, slice_get_read}
use Rattle.cel_value.proofs.Shared.{next_left, no_key_left, no_value_left}
use Rattle.cel_value.proofs.value.shared.SharedIterIterator.next.Goals as goal

pub returns-in-None-clause-steps : goal.returns-in-None-clause-steps
returns-in-None-clause-steps c =
    let vs = c.self.inside.values.now in
    let i = c.self.inside.at in
    let none = sym c.self.view_is ∙ no_value_left c.self.inside.keys.now vs i (slice_get_past vs i c.in-None.ensures.lookup.3) in
    (none, none)

pub returns-in-None-get-clause-steps : goal.returns-in-None-get-clause-steps
returns-in-None-get-clause-steps c =
    let ks = c.self.inside.keys.now in
    let i = c.self.inside.at in
    let none = sym c.self.view_is ∙ no_key_left ks c.self.inside.values.now i (slice_get_past ks i c.in-None-get.ensures.lookup.3) in
    (none, none)

pub returns-in-Some-get-clause-steps : goal.returns-in-Some-get-clause-steps
returns-in-Some-get-clause-steps c =
    let ks = c.self.inside.keys.now in
    let vs = c.self.inside.values.now in
    let i = c.self.inside.at in
    let value = slice_get_read vs _ i c.in-Some.value.now refl c.in-Some.ensures.lookup.3.0 c.in-Some.ensures.lookup.1 in
    let key = slice_get_read ks _ i c.in-Some-get.key.now refl c.in-Some-get.ensures.lookup.3.0 c.in-Some-get.ensures.lookup.1 in
    let next : suc i ≡ i + 1 = omega arith in
    sym c.self.view_is ∙ next_left ks vs i c.in-Some-get.key.now c.in-Some.value.now key value
    ∙ ap (λ n. (c.in-Some-get.key.now, c.in-Some.value.now) ∷ drop n (zip ks vs)) next

pub returns-in-Some-get-clause-goes : goal.returns-in-Some-get-clause-goes
returns-in-Some-get-clause-goes c =
    let fewer = ap length (returns-in-Some-get-clause-steps c) in
    record { on = λ _. (tt, tt, omega (arith, fewer)); keeps = tt; rests = λ _. tt }
