-- Values that are alike by the names that are read.
use Rattle.std.proofs.Common.{◌≡◌, ℕ, List, Bool, true, false, ◌||◌, Option, Some, None, if◌then◌else◌, refl, ap, subst}
use Rattle.std.specs.Str.{bytes_eq}
use Rattle.std.proofs.lemmas.Slice.Eq.{bytes_eq-Decides}
use Rattle.cel_value.specs.Data.{Data}
use Rattle.cel_demand.specs.Alike.{OptionsAlike, Alike, MembersAlike, ReadAlike}
use Rattle.cel_demand.specs.Part.{Part, Members, no_members, member, both, part_at, has_name, part_read, both_read}
use Rattle.cel_demand.proofs.Parts.{options_split, both_alike}

or_right : (a b : Bool) → b ≡ true → (a || b) ≡ true
or_right true b h = refl
or_right false b h = h

later : (b : Bool) (p q : Part) (o r : Option Data) → OptionsAlike (Alike (if b then both p q else q)) o r → OptionsAlike (Alike q) o r
later true p q o r h = (options_split (Alike p) (Alike q) (Alike (both p q)) (both_alike p q) o r h).1
later false p q o r h = h

-- alike at each of the names
pub by_name : (ms : Members) (g h : List ℕ → Option Data) → ((x : List ℕ) → has_name x ms ≡ true → OptionsAlike (Alike (part_at x ms)) (g x) (h x)) → MembersAlike ms g h
by_name no_members g h f = tt
by_name (member y p ms) g h f =
    let itself : bytes_eq y y ≡ true = (bytes_eq-Decides y y).1 refl in
    let here = subst (λ b. OptionsAlike (Alike (if b then both p (part_at y ms) else part_at y ms)) (g y) (h y)) itself (f y (ap (λ b. b || has_name y ms) itself)) in (
      (options_split (Alike p) (Alike (part_at y ms)) (Alike (both p (part_at y ms))) (both_alike p (part_at y ms)) (g y) (h y) here).0,
      by_name ms g h (λ x k. later (bytes_eq y x) p (part_at x ms) (g x) (h x) (f x (or_right (bytes_eq y x) (has_name x ms) k))),
    )

-- alike in what is read of each name
pub by_reads : (ms : Members) (g h : List ℕ → Option Data) → ((x : List ℕ) → ReadAlike (part_read x ms) (g x) (h x)) → MembersAlike ms g h
by_reads ms g h f = by_name ms g h (λ x k. subst (λ b. ReadAlike (if b then Some (part_at x ms) else None) (g x) (h x)) k (f x))

pub both_reads_alike : (p q : Option Part) (o r : Option Data) → ReadAlike (both_read p q) o r → ReadAlike p o r × ReadAlike q o r
both_reads_alike None q o r h = (tt, h)
both_reads_alike (Some p) None o r h = (h, tt)
both_reads_alike (Some p) (Some q) o r h = options_split (Alike p) (Alike q) (Alike (both p q)) (both_alike p q) o r h
