-- The schemas within a schema.
use Rattle.std.proofs.Common.{◌≡◌, ℕ, zero, suc, List, [], ◌∷◌, ◌++◌, Bool, false, sym, ap, ◌∙◌, append_assoc, append-nil}
use Rattle.kube_manifests_review.specs.Locations.{SchemaLocation, locations_of, locations_within, unread_within}
use Rattle.serde_json.specs.Data.{Data}

pub no_levels : (n : ℕ) (read : Bool) (p : List ℕ) (s : Data) (had : List SchemaLocation) → n ≡ 0 → had ≡ had ++ locations_of n read p s
unfolding locations_of
no_levels zero read p s had e = sym (append-nil had)
no_levels (suc n) read p s had e = cc

regroup_six : (e a b c d f g : List SchemaLocation) → ((((((e ++ a) ++ b) ++ c) ++ d) ++ f) ++ g) ≡ e ++ (a ++ (b ++ (c ++ (d ++ (f ++ g)))))
regroup_six e a b c d f g = simp append_assoc

-- six successive additions
pub six_steps : (e0 e1 e2 e3 e4 e5 e6 a b c d f g : List SchemaLocation) → e1 ≡ e0 ++ a → e2 ≡ e1 ++ b → e3 ≡ e2 ++ c → e4 ≡ e3 ++ d → e5 ≡ e4 ++ f → e6 ≡ e5 ++ g
    → e6 ≡ e0 ++ (a ++ (b ++ (c ++ (d ++ (f ++ g)))))
six_steps e0 e1 e2 e3 e4 e5 e6 a b c d f g q1 q2 q3 q4 q5 q6 =
    q6 ∙ ap (λ r. r ++ g) (q5 ∙ ap (λ r. r ++ f) (q4 ∙ ap (λ r. r ++ d) (q3 ∙ ap (λ r. r ++ c) (q2 ∙ ap (λ r. r ++ b) q1)))) ∙ regroup_six e0 a b c d f g

regroup_seven : (e a b c d f g h : List SchemaLocation) → (((((((e ++ a) ++ b) ++ c) ++ d) ++ f) ++ g) ++ h) ≡ e ++ (a ++ (b ++ (c ++ (d ++ (f ++ (g ++ h))))))
regroup_seven e a b c d f g h = simp append_assoc

-- seven successive additions
pub seven_steps : (e0 e1 e2 e3 e4 e5 e6 e7 a b c d f g h : List SchemaLocation) → e1 ≡ e0 ++ a → e2 ≡ e1 ++ b → e3 ≡ e2 ++ c → e4 ≡ e3 ++ d → e5 ≡ e4 ++ f → e6 ≡ e5 ++ g → e7 ≡ e6 ++ h
    → e7 ≡ e0 ++ (a ++ (b ++ (c ++ (d ++ (f ++ (g ++ h))))))
seven_steps e0 e1 e2 e3 e4 e5 e6 e7 a b c d f g h q1 q2 q3 q4 q5 q6 q7 =
    q7 ∙ ap (λ r. r ++ h) (q6 ∙ ap (λ r. r ++ g) (q5 ∙ ap (λ r. r ++ f) (q4 ∙ ap (λ r. r ++ d) (q3 ∙ ap (λ r. r ++ c) (q2 ∙ ap (λ r. r ++ b) q1))))) ∙ regroup_seven e0 a b c d f g h

regroup_three : (e a b c : List SchemaLocation) → (((e ++ a) ++ b) ++ c) ≡ e ++ (a ++ (b ++ c))
regroup_three e a b c = simp append_assoc

-- the schema, those that are read and those that aren't together are the locations of the schema
pub gathered : (levels n : ℕ) (read : Bool) (p : List ℕ) (s : Data) (e0 e1 e2 e3 : List SchemaLocation) → levels ≡ suc n
    → e1 ≡ e0 ++ record { pointer = p; schema = s; is_read = read } ∷ []
    → e2 ≡ e1 ++ locations_within (locations_of n read) p s
    → e3 ≡ e2 ++ unread_within (locations_of n false) p s
    → e3 ≡ e0 ++ locations_of levels read p s
unfolding locations_of
gathered levels n read p s e0 e1 e2 e3 l q1 q2 q3 =
    let X : List SchemaLocation = record { pointer = p; schema = s; is_read = read } ∷ [] in
    let W : List SchemaLocation = locations_within (locations_of n read) p s in
    let U : List SchemaLocation = unread_within (locations_of n false) p s in
    let joined : e3 ≡ (((e0 ++ X) ++ W) ++ U) = q3 ∙ ap (λ r. r ++ U) (q2 ∙ ap (λ r. r ++ W) q1) in
    joined ∙ regroup_three e0 X W U ∙ ap (λ m. e0 ++ locations_of m read p s) (sym l)
