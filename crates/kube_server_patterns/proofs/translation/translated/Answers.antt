use Rattle.std.proofs.Common.{◌≡◌, ◌+◌, ◌-◌, ◌<◌, length, string_bytes, arith}
use Rattle.std.proofs.lemmas.Bool.Decides.{nat_tests}
use Rattle.kube_server_patterns.specs.States.{place_of}
use Rattle.kube_server_patterns.proofs.Steps.{goes_on_to, stops_at, finishes, left_over}
use Rattle.kube_server_patterns.proofs.translation.translated.Goals as goal

pub returns-then-is_empty : goal.returns-then-is_empty
returns-then-is_empty c =
    let none : length c.loop-lexeme.rest.now ≡ 0 = grind (arith, nat_tests) in
    finishes (length c.args.text.now - c.loop-lexeme._lexeme) (place_of c.loop-lexeme.state) c.loop-lexeme.rest.now (string_bytes c.loop-lexeme.out) _ _ none c.loop-lexeme.invariant c.finished.ensures

pub returns-in-Err : goal.returns-in-Err
returns-in-Err c =
    let some : 0 < length c.loop-lexeme.rest.now = grind (arith, nat_tests) in
    let next : length c.args.text.now - c.loop-lexeme._lexeme ≡ (length c.args.text.now - (c.loop-lexeme._lexeme + 1)) + 1 = omega arith in
    stops_at _ _ (place_of c.loop-lexeme.state) c.loop-lexeme.rest.now (string_bytes c.loop-lexeme.out) c.in_ok-later.field-0 c.in-Err.refusal c.step.new.self (string_bytes c.step.new.out) _ next some (cc) c.in_ok-later.ensures c.loop-lexeme.invariant

pub loop-lexeme-preserved : goal.loop-lexeme-preserved
loop-lexeme-preserved c =
    let some : 0 < length c.loop-lexeme.rest.now = grind (arith, nat_tests) in
    let next : length c.args.text.now - c.loop-lexeme._lexeme ≡ (length c.args.text.now - (c.loop-lexeme._lexeme + 1)) + 1 = omega arith in
    goes_on_to _ _ (place_of c.loop-lexeme.state) c.loop-lexeme.rest.now (string_bytes c.loop-lexeme.out) c.in_ok-later.field-0 c.in-Ok.later c.step.new.self (string_bytes c.step.new.out) _ next some (cc) c.in_ok-later.ensures c.loop-lexeme.invariant

pub returns-then-is_empty-2 : goal.returns-then-is_empty-2
returns-then-is_empty-2 c =
    let none : length c.loop-lexeme.rest.now ≡ 0 = grind (arith, nat_tests) in
    finishes (length c.args.text.now - c.loop-lexeme._lexeme) (place_of c.loop-lexeme.state) c.loop-lexeme.rest.now (string_bytes c.loop-lexeme.out) _ _ none c.loop-lexeme.invariant c.finished-then-is_empty-2.ensures

pub returns : goal.returns
returns c =
    let some : 0 < length c.loop-lexeme.rest.now = grind (arith, nat_tests) in
    let none : length c.args.text.now - c.loop-lexeme._lexeme ≡ 0 = omega arith in
    left_over _ (place_of c.loop-lexeme.state) c.loop-lexeme.rest.now (string_bytes c.loop-lexeme.out) _ none some c.loop-lexeme.invariant
