use Rattle.kubecel_io.proofs.Cuts.{at_begin, at_end, at_end_refused, at_next, ends_at, ends_last, none_read, piece_next, same_fault}
use Rattle.kubecel_io.proofs.documents.documents_of.Goals as goal
use Rattle.kubecel_io.specs.Documents.{IsAt}
use Rattle.std.proofs.Common.{◌+◌, ◌-◌, [], drop, length, refl, sym, ap, subst, take, arith, ◌∙◌}
use Rattle.std.proofs.lemmas.List.{drop_all}

pub loop-i-init : goal.loop-i-init
loop-i-init c = record {
  at = subst (IsAt c.args.text.now _) (sym c.as_bytes-bytes.ensures.value) (at_begin c.args.text.now _ refl refl refl c.new.ensures.items c.utf8.text);
  within = omega arith;
  piece = refl;
}

pub returns-in-Err-clause-refused : goal.returns-in-Err-clause-refused
returns-in-Err-clause-refused c =
    let text = c.args.text.now in
    let i = c.loop-i.i in
    let bytes = c.as_bytes-bytes.result.now in
    let start = i - length c.loop-i.reading.piece.now in
    let behind = drop (i + 1) bytes in
    let first = (rw c.in-Err.is at c.in_ok-flaw.ensures.refused) text behind (at_next text bytes c.loop-i.reading i (omega arith) c.loop-i.invariant.at) in
    none_read text first.0 (take (i + 1 - start) (drop start bytes)) behind first.1

pub returns-in-Err-clause-fault : goal.returns-in-Err-clause-fault
returns-in-Err-clause-fault c =
    let text = c.args.text.now in
    let i = c.loop-i.i in
    let bytes = c.as_bytes-bytes.result.now in
    let start = i - length c.loop-i.reading.piece.now in
    let behind = drop (i + 1) bytes in
    let first = (rw c.in-Err.is at c.in_ok-flaw.ensures.refused) text behind (at_next text bytes c.loop-i.reading i (omega arith) c.loop-i.invariant.at) in
    let piece = take (i + 1 - start) (drop start bytes) in
    let same = c.as_bytes-bytes.ensures.value in
    same_fault text bytes first.0 piece piece behind (i + 1) c.in-Err.flaw.kind c.fault_in-fault.result first.1 same refl first.2
    (ends_at text bytes first.0 piece (i + 1) first.1 (omega arith) (ap length same)) c.fault_in-fault.ensures

pub loop-i-preserved : goal.loop-i-preserved
loop-i-preserved c =
    let text = c.args.text.now in
    let i = c.loop-i.i in
    let bytes = c.as_bytes-bytes.result.now in
    let next = piece_next bytes c.take.new.self.piece.now i (length c.loop-i.reading.piece.now) c.loop-i.invariant.within (omega arith) (rw c.in_default.is at c.in_ok-flaw.ensures.piece) in record {
      at = (rw c.in_default.is at c.in_ok-flaw.ensures.read) text (drop (i + 1) bytes) (at_next text bytes c.loop-i.reading i (omega arith) c.loop-i.invariant.at);
      within = next.0;
      piece = next.1;
    }

pub returns-in-Err-2-clause-refused : goal.returns-in-Err-2-clause-refused
returns-in-Err-2-clause-refused c =
    let text = c.args.text.now in
    let r = c.loop-i.reading in
    let at = subst (IsAt text r) (drop_all c.loop-i.i c.as_bytes-bytes.result.now (omega arith)) c.loop-i.invariant.at in
    let first = at_end_refused text r c.in-Err-2.flaw.kind (rw c.in-Err-2.is at c.in_ok-flaw-2.ensures.refused) at in
    none_read text first.0 r.piece.now [] first.1

pub returns-in-Err-2-clause-fault : goal.returns-in-Err-2-clause-fault
returns-in-Err-2-clause-fault c =
    let text = c.args.text.now in
    let r = c.loop-i.reading in
    let at = subst (IsAt text r) (drop_all c.loop-i.i c.as_bytes-bytes.result.now (omega arith)) c.loop-i.invariant.at in
    let first = at_end_refused text r c.in-Err-2.flaw.kind (rw c.in-Err-2.is at c.in_ok-flaw-2.ensures.refused) at in
    let same = c.as_bytes-bytes.ensures.value in
    same_fault text c.as_bytes-bytes.result.now first.0 r.piece.now r.piece.now [] (length c.as_bytes-bytes.result.now) c.in-Err-2.flaw.kind c.fault_in-fault-in-Err-2.result first.1 same
    refl first.2 (ends_last text first.0 r.piece.now first.1 ∙ sym (ap length same)) c.fault_in-fault-in-Err-2.ensures

pub returns-clause-read : goal.returns-clause-read
returns-clause-read c =
    let text = c.args.text.now in
    let r = c.loop-i.reading in
    let at = subst (IsAt text r) (drop_all c.loop-i.i c.as_bytes-bytes.result.now (omega arith)) c.loop-i.invariant.at in
    at_end text r c.end.new.self (rw c.in_default-2.is at c.in_ok-flaw-2.ensures.read) at
