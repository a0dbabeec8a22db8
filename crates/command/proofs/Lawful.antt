-- Each part of a bulk write lies where it should, by one test that is computed over the table.
use Rattle.std.proofs.Common.{◌≡◌, ◌+◌, Bool, true, ◌&&◌, eqb, ltb, leb, List, [], ◌∷◌, refl}
use Rattle.std.specs.List.{AllByRecursion, list_all}
use Rattle.std.proofs.lemmas.Bool.{and_parts, leb-true, ltb-true, eqb-true}
use Rattle.command.specs.declared.parts.Part.{Part}
use Rattle.command.specs.declared.parts.Part.TheVariants.{Number, Contract, Blank}
use Rattle.command.specs.Parts.{listed, digit_count, LawfulPart}

all_every : {X : Type 0} (test : X → Bool) (P : X → Type 0) → ((x : X) → test x ≡ true → P x) → (xs : List X) → list_all test xs ≡ true → AllByRecursion P xs
all_every test P tells [] t = tt
all_every test P tells (x ∷ xs) t = let h = and_parts (test x) (list_all test xs) t in (tells x h.0, all_every test P tells xs h.1)

abbrev lawful : Part → Bool
lawful (Number s) = leb 8 s.position && (leb (s.position + s.width) 251 && (leb s.width 5 && (eqb (digit_count s.width) s.width && ltb s.cell 28)))
lawful Contract = true
lawful (Blank p w) = leb 8 p && leb (p + w) 251

lawful_tells : (p : Part) → lawful p ≡ true → LawfulPart p
lawful_tells (Number s) t =
    let a = and_parts (leb 8 s.position) _ t in
    let b = and_parts (leb (s.position + s.width) 251) _ a.1 in
    let c = and_parts (leb s.width 5) _ b.1 in
    let d = and_parts (eqb (digit_count s.width) s.width) _ c.1 in
    record {
      after = leb-true _ _ a.0;
      within = leb-true _ _ b.0;
      narrow = leb-true _ _ c.0;
      digits = eqb-true _ _ d.0;
      on_page = ltb-true _ _ d.1;
    }
lawful_tells Contract t = tt
lawful_tells (Blank p w) t = let a = and_parts (leb 8 p) (leb (p + w) 251) t in (leb-true _ _ a.0, leb-true _ _ a.1)

pub all_lawful : AllByRecursion LawfulPart listed
all_lawful = all_every lawful LawfulPart lawful_tells listed refl
