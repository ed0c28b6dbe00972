use Rattle.kubecel_io.proofs.Cuts.{at_ended, at_goes, at_refused, if_both, if_refused}
use Rattle.kubecel_io.proofs.documents.Reading.take.Goals as goal
use Rattle.kubecel_io.specs.Documents.{IsAt, IsFirstRefused, all_read, is_space, read_document, with_documents, with_piece}
use Rattle.kubecel_io.specs.Faults.{IsKindOf}
use Rattle.kubecel_io.specs.declared.cut.Mode.TheVariants.{Outside}
use Rattle.serde_json.specs.View.{view}
use Rattle.std.proofs.Common.{◌≡◌, ◌∷◌, [], List, ℕ, None, false, map, refl, sym, arith}
use Rattle.std.specs.List.{list_all}
use Rattle.std.specs.Str.{IsUtf8}

pub returns-then-ends-clause-read : goal.returns-then-ends-clause-read
returns-then-ends-clause-read c =
    let r = c.args.self.now in
    let s = c.end.new.self in
    let p = c.args.piece.now in
    let x = c.args.byte in
    if_both ((rest : List (List ℕ)) → with_documents (map view r.found.items) (all_read (with_piece p rest)) ≡ with_documents (map view s.found.items) (all_read rest))
    ((s.mode ≡ Outside) × (s.depth ≡ 0) × (s.piece.now ≡ []))
    ((text rest : List ℕ) → IsAt text r (x ∷ rest) → IsAt text s rest)
    c.end.result
    (λ read begun text rest at. at_ended text r s p x rest (sym (c.if-ends.ensures)) c.requires read begun at)
    c.end.ensures.read c.end.ensures.begun

pub returns-then-ends-clause-refused : goal.returns-then-ends-clause-refused
returns-then-ends-clause-refused c =
    let r = c.args.self.now in
    let p = c.args.piece.now in
    let x = c.args.byte in
    if_refused (λ flaw. (list_all is_space p ≡ false) × (IsUtf8 p → (read_document p ≡ None) × (IsKindOf p flaw.kind)))
    (λ flaw. (text rest : List ℕ) → IsAt text r (x ∷ rest) → (before : List ℕ) × IsFirstRefused text before p rest × (IsKindOf p flaw.kind))
    c.end.result
    (λ flaw refused text rest at. at_refused text r p x rest flaw.kind (sym (c.if-ends.ensures)) c.requires refused at)
    c.end.ensures.refused

pub returns-clause-read : goal.returns-clause-read
returns-clause-read c = λ text rest at.
    at_goes text c.args.self.now (record { mode = c.after-self.result; depth = c.in_ok-depth.depth; piece = c.args.piece; found = c.args.self.now.found }) c.args.byte rest (sym c.if-ends.ensures) c.after-self.ensures (grind arith) c.requires refl at
