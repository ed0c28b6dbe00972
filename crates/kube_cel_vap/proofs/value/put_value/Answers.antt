use Rattle.cel_value.specs.Data.{text_key}
use Rattle.cel_value.specs.Keys.{put}
use Rattle.cel_value.specs.View.{entries_view, view}
use Rattle.kube_cel_vap.proofs.value.put_value.Goals as goal
use Rattle.std.proofs.Common.{◌≡◌, Ok, string_bytes, sym, ap, ◌∙◌, subst}
use Rattle.std.proofs.lemmas.Result.{IfOk-at_ok, IfOk-weaker, MatchResult-at_ok}
use Rattle.std.specs.Result.{IsOkAnd}

pub returns-clause-entered : goal.returns-clause-entered
returns-clause-entered c =
    let key = c.args.key.now in
    let e = entries_view c.args.entries.now.entries in
    let f = entries_view c.put_entry.new.entries.entries in
    let copied : c.from_str-key.result ≡ Ok c.in_ok-value.key = MatchResult-at_ok (λ k. c.from_str-key.result ≡ Ok k) _ c.in_ok-value.key c.in_ok-value.ensures.1 c.or_refused.ensures in
    let same : string_bytes c.in_ok-value.key ≡ key = IfOk-at_ok (λ k. string_bytes k ≡ key) copied c.from_str-key.ensures.ok in
    IfOk-weaker c.put_entry.result _ _ (λ _ h. subst (λ r. IsOkAnd r (λ v. f ≡ put (text_key key) (view v) e)) (sym c.in_ok-value.ensures.0)
    (h ∙ ap (λ k. put (text_key k) (view c.in_ok-value.value) e) same)) c.put_entry.ensures.entered
