-- The entries of a map, in a loop from the last one to the first.
use Rattle.std.proofs.Common.{◌≡◌, List, [], ◌∷◌, ◌++◌, string_bytes, sym, ap, ◌∙◌, append_assoc, append-nil}
use Rattle.serde_json.specs.Data.{Members, no_members, member}
use Rattle.serde_json.specs.View.{view, members_view}
use Rattle.serde_json.proofs.Views.{Entry}

module _ {X : Type 0} (f : Members → X) (es : List Entry) where
  -- out is what the entries behind those that are left become
  abbrev pub Behind : List Entry → X → Type 0
  Behind left out = record {
    done : List Entry;
    all : es ≡ left ++ done;
    same : out ≡ f (members_view done);
  }

  pub behind_none : (left : List Entry) (out : X) → left ≡ es → out ≡ f no_members → Behind left out
  behind_none left out all none = record {
    done = [];
    all = sym (append-nil left ∙ all);
    same = none;
  }

  pub behind_next : (left rest : List Entry) (e : Entry) (before after : X) → Behind left before → left ≡ rest ++ e ∷ [] → ((ms : Members) → before ≡ f ms → after ≡ f (member (string_bytes e.0) (view e.1) ms)) → Behind rest after
  behind_next left rest e before after m step entered = record {
    done = e ∷ m.done;
    all = m.all ∙ ap (λ es. es ++ m.done) step ∙ append_assoc rest (e ∷ []) m.done;
    same = entered (members_view m.done) m.same;
  }

  pub behind_all : (left : List Entry) (out : X) → Behind left out → left ≡ [] → out ≡ f (members_view es)
  behind_all left out m none = m.same ∙ ap (λ es. f (members_view es)) (sym (m.all ∙ ap (λ es. es ++ m.done) none))
