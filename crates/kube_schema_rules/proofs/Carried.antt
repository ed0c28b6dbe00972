-- Two walks over different data that take the same steps have the same findings.
use Rattle.std.proofs.Common.{◌≡◌, ℕ, zero, suc, List, ◌++◌, Option, Some, None, refl, sym, ap, ◌∙◌}
use Rattle.std.specs.List.{flat_map}
use Rattle.kube_schema_rules.specs.Step.{Step}
use Rattle.kube_schema_rules.specs.Walk.{if_some, answers}
use Rattle.kube_schema_rules.proofs.Found.{flat_map_same, answers_end, answers_more}

abbrev pub Both : {S T : Type 0} → (S → T → Type 0) → Option S → Option T → Type 0
Both R None None = Unit {0}
Both R None (Some t) = ⊥
Both R (Some s) None = ⊥
Both R (Some s) (Some t) = R s t

-- R n: the relation between the visits when n steps are left
module _ {S T E : Type 0} (go : Step → S → Option S) (steps : S → List Step) (found : S → List E) (ho : Step → T → Option T) (hteps : T → List Step) (hound : T → List E)
    (R : ℕ → S → T → Type 0) (same_steps : (n : ℕ) (s : S) (t : T) → R (suc n) s t → steps s ≡ hteps t) (same_found : (n : ℕ) (s : S) (t : T) → R n s t → found s ≡ hound t)
    (same_goes : (n : ℕ) (p : Step) (s : S) (t : T) → R (suc n) s t → Both (R n) (go p s) (ho p t)) where
  through_both : (n : ℕ) → ((s : S) (t : T) → R n s t → answers go steps found n s ≡ answers ho hteps hound n t) → (a : Option S) (b : Option T) → Both (R n) a b
      → if_some (answers go steps found n) a ≡ if_some (answers ho hteps hound n) b
  through_both n rec None None h = refl
  through_both n rec None (Some t) h = absurd h
  through_both n rec (Some s) None h = absurd h
  through_both n rec (Some s) (Some t) h = rec s t h

  pub carried : (n : ℕ) (s : S) (t : T) → R n s t → answers go steps found n s ≡ answers ho hteps hound n t
  carried zero s t r = answers_end go steps found s ∙ same_found 0 s t r ∙ sym (answers_end ho hteps hound t)
  carried (suc n) s t r =
      answers_more go steps found n s
      ∙ (λ i. same_found (suc n) s t r i ++ flat_map (λ p. if_some (answers go steps found n) (go p s)) (same_steps n s t r i))
      ∙ ap (λ l. hound t ++ l) (flat_map_same _ _ (λ p. through_both n (λ s t r. carried n s t r) (go p s) (ho p t) (same_goes n p s t r)) (hteps t))
      ∙ sym (answers_more ho hteps hound n t)
