use Rattle.std.proofs.Common.{◌≡◌, ◌++◌, length, All}
use Rattle.regex.specs.Strings.{placed_spans_left, matches_haystack}
use Rattle.cel_patterns.specs.Book.{IsSpanIn}
use Rattle.cel_patterns.proofs.SpanLemmas.{IsUpTo, placed_in}
use Rattle.cel_patterns.proofs.spans.spans_of.Given as goal

abbrev pub invariant-loop-m : goal.invariant-loop-m
invariant-loop-m l = record {
  whole : placed_in (matches_haystack l.fn.found) l.spans.items ++ placed_spans_left l.m-iterator ≡ placed_spans_left l.fn.found;
  up_to : IsUpTo l.fn.limit (length l.spans.items);
  inside : All (IsSpanIn (matches_haystack l.fn.found)) l.spans.items;
}
