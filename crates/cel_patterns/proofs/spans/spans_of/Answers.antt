use Rattle.std.proofs.Common.{◌≡◌, ◌∙◌, sym, ap, length, Some, length-append, true≢false}
use Rattle.std.proofs.lemmas.List.Elements.{All-push}
use Rattle.regex.specs.Strings.{spans_left, match_span, match_haystack, matches_haystack, placed_span, placed_spans_left}
use Rattle.cel_patterns.specs.Book.{IsSpanIn}
use Rattle.cel_patterns.proofs.SpanLemmas.{took_all, took_most, still_within, step_whole, whole_spans, all_spans, span_inside, same_haystack}
use Rattle.cel_patterns.proofs.spans.spans_of.Goals as goal

pub returns-then-is_full-clause-value : goal.returns-then-is_full-clause-value
returns-then-is_full-clause-value c =
    took_most c.args.limit c.loop-m.spans.items (spans_left c.loop-m.m-iterator) (spans_left c.args.found)
    (whole_spans c.loop-m.m-iterator c.args.found c.loop-m.spans.items c.loop-m.invariant.whole)
    (c.is_full.ensures.0 c.if-is_full.true ∙ ap Some (ap length c.as_slice.ensures.value))

pub returns-then-is_full-clause-within : goal.returns-then-is_full-clause-within
returns-then-is_full-clause-within c = c.loop-m.invariant.inside

pub loop-m-preserved : goal.loop-m-preserved
loop-m-preserved c =
    let item : (c.start.result, c.end.result) ≡ match_span c.in-Some.m = cc in
    let text = matches_haystack c.args.found in
    let there : match_haystack c.in-Some.m ≡ text =
    same_haystack c.loop-m.m-iterator c.args.found c.in-Some.m c.loop-m.spans.items (placed_spans_left c.next.new.self) c.loop-m.invariant.whole c.in-Some.ensures.steps in
    record {
      whole =
          rw (c.in_ok-push.ensures.items, item)
          (step_whole text c.loop-m.spans.items (match_span c.in-Some.m) (placed_span c.in-Some.m) (placed_spans_left c.next.new.self) (placed_spans_left c.loop-m.m-iterator) (placed_spans_left c.args.found)
          c.loop-m.invariant.whole c.in-Some.ensures.steps (ap (λ t. (t, match_span c.in-Some.m)) there));
      up_to =
          rw (c.in_ok-push.ensures.items, length-append)
          (still_within c.args.limit (length c.loop-m.spans.items) c.loop-m.invariant.up_to
          (λ e. true≢false (sym (c.is_full.ensures.1 (e ∙ ap Some (sym (ap length c.as_slice.ensures.value)))) ∙ c.if-is_full.false)));
      inside =
          rw (c.in_ok-push.ensures.items, item)
          (All-push (IsSpanIn text) c.loop-m.spans.items (match_span c.in-Some.m) c.loop-m.invariant.inside (span_inside text c.in-Some.m there));
    }

pub returns-clause-value : goal.returns-clause-value
returns-clause-value c =
    took_all c.args.limit c.loop-m.spans.items (spans_left c.args.found)
    (all_spans c.loop-m.m-iterator c.args.found c.loop-m.spans.items c.loop-m.invariant.whole c.in-None.ensures.steps.0) c.loop-m.invariant.up_to
